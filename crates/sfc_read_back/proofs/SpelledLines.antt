-- Lines, lists, names and signs of a listing spell their tokens.
use Rattle.std.proofs.Common.{ℕ, List, [], ◌∷◌, ◌++◌, map, flat_map, All, refl, sym, subst, append_assoc, codes}
use Rattle.std.proofs.lemmas.List.{append-nil}
use Rattle.std.proofs.lemmas.List.Elements.{All-head, All-tail}
use Rattle.sfc_base.specs.declared.delimiter.Delimiter.TheVariants as sign
use Rattle.sfc_base.specs.declared.run.Alphabet.TheVariants as alphabet
use Rattle.sfc_tokens.specs.declared.token.TokenKind.{TokenKind}
use Rattle.sfc_tokens.specs.declared.token.TokenKind.TheVariants as token
use Rattle.sfc_base.specs.Classes.{class_of}
use Rattle.sfc_base.specs.Names.{IsName}
use Rattle.sfc_base.specs.Runs.{Ends}
use Rattle.sfc_tokens.specs.Spelling as spelling
use Rattle.sfc_tokens.specs.Spelling.{Spells}
use Rattle.sfc_tokens.proofs.Signs.{sign_spells}
use Rattle.sfc_tokens.proofs.Spelled.{name_spells}
use Rattle.sfc_tokens.proofs.Spellings.{alone, joined}
use Rattle.sfc_text.specs.SpelledCharts.{further_tokens}
use Rattle.sfc_list.specs.Layout.{indent, line, after_commas}
use Rattle.sfc_read_back.proofs.SpelledBodies.{indented}
use Rattle.sfc_read_back.proofs.SpelledLiterals.{ends_word, ends_sharp}

-- ---- whatever follows

abbrev pub SpellsAlways : List ℕ → List TokenKind → Type 0
SpellsAlways text ts = (rest : List ℕ) → Spells text ts rest

-- before the end of a line
abbrev pub SpellsLine : List ℕ → List TokenKind → Type 0
SpellsLine text ts = (rest : List ℕ) → Spells text ts (10 ∷ rest)

pub both_spelled : (a b : List ℕ) (ts us : List TokenKind) → SpellsAlways a ts → SpellsAlways b us → SpellsAlways (a ++ b) (ts ++ us)
both_spelled a b ts us p q rest = joined a b rest ts us (p (b ++ rest)) (q rest)

-- two texts behind one
pub joined_two : (a b c rest : List ℕ) (ts us : List TokenKind) → Spells a ts ((b ++ c) ++ rest) → Spells (b ++ c) us rest → Spells (a ++ b ++ c) (ts ++ us) rest
joined_two a b c rest ts us p q = subst (λ (x : List ℕ). Spells x (ts ++ us) rest) (sym (append_assoc a b c)) (joined a (b ++ c) rest ts us p q)

-- ---- lines

pub line_spelled : (level : ℕ) (text : List ℕ) (ts : List TokenKind) → SpellsLine text ts → SpellsAlways (line level text) ts
unfolding class_of
line_spelled level text ts h rest =
    subst (λ (us : List TokenKind). Spells (line level text) us rest) (append-nil ts)
    (joined (indent level ++ text) (codes "\n") rest ts [] (indented level text (10 ∷ rest) ts (h rest)) (spelling.space refl spelling.nothing))

-- lines between a first and a last one
pub framed : (level : ℕ) (head inner final : List ℕ) (ts us : List TokenKind) (t : TokenKind) → SpellsLine head ts → SpellsAlways inner us → SpellsLine final (t ∷ [])
    → SpellsAlways (line level head ++ inner ++ line level final) ((ts ++ us) ++ (t ∷ []))
framed level head inner final ts us t p q r =
    both_spelled (line level head ++ inner) (line level final) (ts ++ us) (t ∷ [])
    (both_spelled (line level head) inner ts us (line_spelled level head ts p) q) (line_spelled level final (t ∷ []) r)

-- ---- lists

pub each_spelled : {A B : Type 0} (text : A → List ℕ) (tree : A → B) (tokens : B → List TokenKind) (P : A → Type 0) → ((x : A) → P x → SpellsAlways (text x) (tokens (tree x)))
    → (xs : List A) → All P xs → SpellsAlways (flat_map text xs) (flat_map tokens (map tree xs))
each_spelled text tree tokens P h [] all rest = spelling.nothing
each_spelled text tree tokens P h (x ∷ xs) all rest =
    joined (text x) (flat_map text xs) rest (tokens (tree x)) (flat_map tokens (map tree xs))
    (h x (All-head P x xs all) (flat_map text xs ++ rest)) (each_spelled text tree tokens P h xs (All-tail P x xs all) rest)

pub each_line_spelled : {A B : Type 0} (level : ℕ) (text : A → List ℕ) (tree : A → B) (tokens : B → List TokenKind) (P : A → Type 0) → ((x : A) → P x → SpellsLine (text x) (tokens (tree x)))
    → (xs : List A) → All P xs → SpellsAlways (flat_map (λ x. line level (text x)) xs) (flat_map tokens (map tree xs))
each_line_spelled level text tree tokens P h xs all =
    each_spelled (λ x. line level (text x)) tree tokens P (λ x is. line_spelled level (text x) (tokens (tree x)) (h x is)) xs all

-- ---- names and signs

pub named : (w rest : List ℕ) → IsName w → Ends alphabet.Location rest → Spells w (token.Name w ∷ []) rest
named w rest is ends = alone w rest (token.Name w) (name_spells w rest is (ends_word rest ends) (ends_sharp rest ends))

pub before_line : (rest : List ℕ) → Ends alphabet.Location (10 ∷ rest)
unfolding class_of
before_line rest = refl

pub before_close : (rest : List ℕ) → Ends alphabet.Location (41 ∷ rest)
unfolding class_of
before_close rest = refl

pub before_open : (rest : List ℕ) → Ends alphabet.Location (40 ∷ rest)
unfolding class_of
before_open rest = refl

pub before_colon : (rest : List ℕ) → Ends alphabet.Location (58 ∷ rest)
unfolding class_of
before_colon rest = refl

-- at the end of a line
pub colon_line : SpellsLine (codes ":") (token.Delimiter sign.Colon ∷ [])
unfolding class_of
colon_line rest = alone (codes ":") (10 ∷ rest) (token.Delimiter sign.Colon) (sign_spells sign.Colon (10 ∷ rest) refl)

pub semicolon : SpellsAlways (codes ";") (token.Delimiter sign.Semicolon ∷ [])
semicolon rest = alone (codes ";") rest (token.Delimiter sign.Semicolon) (sign_spells sign.Semicolon rest refl)

pub close : SpellsAlways (codes ")") (token.Delimiter sign.Close ∷ [])
close rest = alone (codes ")") rest (token.Delimiter sign.Close) (sign_spells sign.Close rest refl)

pub closed : SpellsAlways (codes ");") (token.Delimiter sign.Close ∷ token.Delimiter sign.Semicolon ∷ [])
closed rest = joined (codes ")") (codes ";") rest (token.Delimiter sign.Close ∷ []) (token.Delimiter sign.Semicolon ∷ []) (close (59 ∷ rest)) (semicolon rest)

-- between spaces
pub colon_between : SpellsAlways (codes " : ") (token.Delimiter sign.Colon ∷ [])
unfolding class_of
colon_between rest = spelling.space refl (spelling.one {w = 58 ∷ []} {text = 32 ∷ []} (sign_spells sign.Colon (32 ∷ rest) refl) (spelling.space refl spelling.nothing))

pub assign_behind : SpellsAlways (codes ":= ") (token.Delimiter sign.Assign ∷ [])
unfolding class_of
assign_behind rest = spelling.one {w = 58 ∷ 61 ∷ []} {text = 32 ∷ []} (sign_spells sign.Assign (32 ∷ rest) refl) (spelling.space refl spelling.nothing)

pub assign_between : SpellsAlways (codes " := ") (token.Delimiter sign.Assign ∷ [])
unfolding class_of
assign_between rest = spelling.space refl (assign_behind rest)

pub comma_space : SpellsAlways (codes ", ") (token.Delimiter sign.Comma ∷ [])
unfolding class_of
comma_space rest = spelling.one {w = 44 ∷ []} {text = 32 ∷ []} (sign_spells sign.Comma (32 ∷ rest) refl) (spelling.space refl spelling.nothing)

-- ---- names behind commas

pub further_ends : (names : List (List ℕ)) (rest : List ℕ) → Ends alphabet.Location rest → Ends alphabet.Location (after_commas names ++ rest)
unfolding class_of
further_ends [] rest ends = ends
further_ends (x ∷ xs) rest ends = refl

pub further_spelled : (names : List (List ℕ)) (rest : List ℕ) → All IsName names → Ends alphabet.Location rest → Spells (after_commas names) (further_tokens names) rest
further_spelled [] rest all ends = spelling.nothing
further_spelled (x ∷ xs) rest all ends =
    let more = after_commas xs ++ rest in
    joined (codes ", " ++ x) (after_commas xs) rest (token.Delimiter sign.Comma ∷ token.Name x ∷ []) (further_tokens xs)
    (joined (codes ", ") x more (token.Delimiter sign.Comma ∷ []) (token.Name x ∷ []) (comma_space (x ++ more)) (named x more (All-head IsName x xs all) (further_ends xs rest ends)))
    (further_spelled xs rest (All-tail IsName x xs all) ends)
