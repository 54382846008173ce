-- Lexing is what the pieces say.
use Rattle.std.proofs.Common.{◌≡◌, ℕ, Bool, true, false, cond, eqb, List, [], ◌∷◌, ◌++◌, Option, Some, None, Ok, Err, refl, sym, ap, subst, ◌∙◌, append_assoc}
use Rattle.std.proofs.lemmas.Bool.{eqb-true}
use Rattle.sfc_base.specs.declared.delimiter.Delimiter.{Delimiter}
use Rattle.sfc_base.specs.declared.delimiter.Delimiter.TheVariants as sign
use Rattle.sfc_base.specs.declared.class.Class.{Class}
use Rattle.sfc_base.specs.declared.class.Class.TheVariants as class
use Rattle.sfc_base.specs.declared.run.Alphabet.TheVariants as alphabet
use Rattle.sfc_tokens.specs.declared.literal.LiteralKind.{LiteralKind}
use Rattle.sfc_tokens.specs.declared.literal.LiteralKind.TheVariants as kind
use Rattle.sfc_events.specs.declared.read_error.ReadErrorKind.TheVariants.{BadToken}
use Rattle.sfc_tokens.specs.declared.lex.Ahead.{Ahead}
use Rattle.sfc_tokens.specs.declared.lex.Ahead.TheVariants.{Alone, Longer, Comment}
use Rattle.sfc_tokens.specs.declared.token.TokenKind.{TokenKind}
use Rattle.sfc_base.specs.Classes.{class_of}
use Rattle.sfc_base.specs.Runs.{has, IsRun}
use Rattle.sfc_base.specs.Private.Runs.{run}
use Rattle.sfc_tokens.specs.Literals.{kind_of_prefix, alphabet_of, IsLiteral}
use Rattle.sfc_tokens.specs.Lexing.Literals.{literal}
use Rattle.sfc_tokens.specs.Lexemes as lexemes
use Rattle.sfc_base.specs.Names.{StartsWord, is_spaced}
use Rattle.sfc_tokens.specs.Lexemes.{word_token, is_sharp_first, Prefix, minus, is_minus, Body, look_ahead, NoClose, NoBrace, Piece, Faulty, Tokens}
use Rattle.sfc_tokens.specs.Lexing.Tokens.{after_comment, after_pragma, Next, literal_found, literal_in, tail, literal_at, prefixed, word_found, word_or_prefix, word_at, skipped, sign_found, sign_at, next_by}
use Rattle.sfc_base.proofs.Runs.{Cuts, run_cuts, run_in}
use Rattle.sfc_tokens.proofs.Comments.{after_some, after_none, pragma_some, pragma_none}
use Rattle.sfc_tokens.proofs.LiteralProofs.{literal_sound, literal_again}

-- what the first step of the lexer says
pub record Taken (bytes : List ℕ) (x : Option TokenKind × List ℕ) : Type 0 where
  pub text : List ℕ
  pub parts : bytes ≡ text ++ x.1
  pub piece : Piece text x.1 x.0

abbrev pub Says : List ℕ → Next → Type 0
Says bytes (Ok x) = Taken bytes x
Says bytes (Err f) = Faulty bytes f

-- ---- literals

not_literal : (k : LiteralKind) (negative : Bool) (w : List ℕ) → literal k negative w ≡ None → (t : TokenKind) → IsLiteral k negative w t → ⊥
not_literal k negative w e t i = let f = literal_again i in absurd cc

found_says : (o : Option TokenKind) (k : LiteralKind) (negative : Bool) (front w rest : List ℕ) → literal k negative w ≡ o → Prefix k front (minus negative ++ (w ++ rest)) → Body k negative w rest → Says (front ++ (minus negative ++ (w ++ rest))) (literal_found k o rest)
found_says None k negative front w rest e p b = lexemes.literal negative w p b (not_literal k negative w e)
found_says (Some t) k negative front w rest e p b =
    record { text = front ++ (minus negative ++ w); parts = ap (λ (x : List ℕ). front ++ x) (sym (append_assoc (minus negative) w rest)) ∙ sym (append_assoc front (minus negative ++ w) rest); piece = lexemes.literal negative w p b (literal_sound k negative w t e) }

in_says : (k : LiteralKind) (negative : Bool) (front bs : List ℕ) → Prefix k front (minus negative ++ bs) → (negative ≡ false → is_minus bs ≡ false) → Says (front ++ (minus negative ++ bs)) (literal_in k negative (run (alphabet_of k) bs))
in_says k negative front bs p s =
    let c = run_cuts (alphabet_of k) bs in
    let r = run (alphabet_of k) bs in
    let q : Prefix k front (minus negative ++ (r.0 ++ r.1)) = subst (λ (x : List ℕ). Prefix k front (minus negative ++ x)) c.parts p in
    let b : Body k negative r.0 r.1 = record { run = c.is_run; sign = λ e. subst (λ (x : List ℕ). is_minus x ≡ false) c.parts (s e) } in
    subst (λ (x : List ℕ). Says (front ++ (minus negative ++ x)) (literal_in k negative r)) (sym c.parts) (found_says (literal k negative r.0) k negative front r.0 r.1 refl q b)

minus_true : (bs : List ℕ) → is_minus bs ≡ true → bs ≡ 45 ∷ tail bs
minus_true [] e = absurd cc
minus_true (b ∷ bs) e = let same = eqb-true b 45 e in rw same refl

literal_by : (t : Bool) (k : LiteralKind) (front bs : List ℕ) → is_minus bs ≡ t → Prefix k front bs → Says (front ++ bs) (cond t (literal_in k true (run (alphabet_of k) (tail bs))) (literal_in k false (run (alphabet_of k) bs)))
literal_by true k front bs e p =
    let m = minus_true bs e in
    let q : Prefix k front (45 ∷ tail bs) = subst (λ (x : List ℕ). Prefix k front x) m p in
    subst (λ (x : List ℕ). Says (front ++ x) (literal_in k true (run (alphabet_of k) (tail bs)))) (sym m) (in_says k true front (tail bs) q (λ f. absurd cc))
literal_by false k front bs e p = in_says k false front bs p (λ f. e)

literal_says : (k : LiteralKind) (front bs : List ℕ) → Prefix k front bs → Says (front ++ bs) (literal_at k bs)
literal_says k front bs p = literal_by (is_minus bs) k front bs refl p

-- ---- words

spaced_says : (t : Bool) (b : ℕ) (w rest : List ℕ) → is_spaced (b ∷ w) ≡ t → StartsWord (class_of b) → IsRun alphabet.Word (b ∷ w) rest → is_sharp_first rest ≡ false → Says (b ∷ (w ++ rest)) (cond t (Ok (Some (word_token (b ∷ w)), rest)) (Err BadToken))
spaced_says true b w rest e start r s = record { text = b ∷ w; parts = refl; piece = lexemes.word start r s e }
spaced_says false b w rest e start r s = lexemes.word start r s e

prefixed_says : (o : Option LiteralKind) (b : ℕ) (w rest : List ℕ) → kind_of_prefix (b ∷ w) ≡ o → StartsWord (class_of b) → IsRun alphabet.Word (b ∷ w) (35 ∷ rest) → Says (b ∷ (w ++ 35 ∷ rest)) (prefixed o rest)
prefixed_says None b w rest e start r = lexemes.prefix start r e
prefixed_says (Some k) b w rest e start r =
    subst (λ (x : List ℕ). Says (b ∷ x) (literal_at k rest)) (append_assoc w (35 ∷ []) rest) (literal_says k (b ∷ (w ++ 35 ∷ [])) rest (lexemes.word start r e))

behind_by : (t : Bool) (b : ℕ) (w : List ℕ) (c : ℕ) (rest : List ℕ) → eqb c 35 ≡ t → StartsWord (class_of b) → IsRun alphabet.Word (b ∷ w) (c ∷ rest) → Says (b ∷ (w ++ c ∷ rest)) (cond t (prefixed (kind_of_prefix (b ∷ w)) rest) (word_found (b ∷ w) (c ∷ rest)))
behind_by true b w c rest e start r =
    let same = eqb-true c 35 e in
    let q : IsRun alphabet.Word (b ∷ w) (35 ∷ rest) = subst (λ x. IsRun alphabet.Word (b ∷ w) (x ∷ rest)) same r in
    subst (λ x. Says (b ∷ (w ++ x ∷ rest)) (prefixed (kind_of_prefix (b ∷ w)) rest)) (sym same) (prefixed_says (kind_of_prefix (b ∷ w)) b w rest refl start q)
behind_by false b w c rest e start r = spaced_says (is_spaced (b ∷ w)) b w (c ∷ rest) refl start r e

behind_says : (b : ℕ) (w rest : List ℕ) → StartsWord (class_of b) → IsRun alphabet.Word (b ∷ w) rest → Says (b ∷ (w ++ rest)) (word_or_prefix (b ∷ w) rest)
behind_says b w [] start r = spaced_says (is_spaced (b ∷ w)) b w [] refl start r refl
behind_says b w (c ∷ rest) start r = behind_by (eqb c 35) b w c rest refl start r

word_says : (b : ℕ) (bs : List ℕ) → has alphabet.Word b ≡ true → StartsWord (class_of b) → Says (b ∷ bs) (word_at (b ∷ bs))
word_says b bs e start =
    let r = run alphabet.Word bs in
    let in_front = run_in alphabet.Word b bs e in
    let c : Cuts alphabet.Word (b ∷ bs) (b ∷ r.0, r.1) = subst (λ x. Cuts alphabet.Word (b ∷ bs) x) in_front (run_cuts alphabet.Word (b ∷ bs)) in
    let P : List ℕ × List ℕ → Type 0 = λ x. Says (b ∷ bs) (word_or_prefix x.0 x.1) in
    subst P (sym in_front) (subst (λ (x : List ℕ). Says x (word_or_prefix (b ∷ r.0) r.1)) (sym c.parts) (behind_says b r.0 r.1 start c.is_run))

-- ---- comments, pragmas and delimiters

comment_says : (o : Option (List ℕ)) (b c : ℕ) (d : Delimiter) (inner : List ℕ) → after_comment inner ≡ o → class_of b ≡ class.Sign d → look_ahead d (class_of c) ≡ Comment → Says (b ∷ c ∷ inner) (skipped o)
comment_says None b c d inner e p q = lexemes.comment p q (after_none inner e)
comment_says (Some rest) b c d inner e p q =
    let m = after_some inner rest e in
    record { text = b ∷ c ∷ (m.body ++ 42 ∷ 41 ∷ []); parts = ap (λ (x : List ℕ). b ∷ c ∷ x) (m.parts ∙ sym (append_assoc m.body (42 ∷ 41 ∷ []) rest)); piece = lexemes.comment m.body p q m.first }

pragma_says : (o : Option (List ℕ)) (b : ℕ) (inner : List ℕ) → after_pragma inner ≡ o → class_of b ≡ class.Brace → Says (b ∷ inner) (skipped o)
pragma_says None b inner e p = lexemes.pragma p (pragma_none inner e)
pragma_says (Some rest) b inner e p =
    let m = pragma_some inner rest e in
    record { text = b ∷ (m.body ++ 125 ∷ []); parts = ap (λ (x : List ℕ). b ∷ x) (m.parts ∙ sym (append_assoc m.body (125 ∷ []) rest)); piece = lexemes.pragma m.body p m.first }

nothing_ahead : (d : Delimiter) → look_ahead d class.Other ≡ Alone
nothing_ahead sign.Open = refl
nothing_ahead sign.Colon = refl
nothing_ahead sign.Less = refl
nothing_ahead sign.Greater = refl
nothing_ahead _ = refl

ahead_says : (a : Ahead) (b c : ℕ) (d : Delimiter) (bs : List ℕ) → class_of b ≡ class.Sign d → look_ahead d (class_of c) ≡ a → Says (b ∷ c ∷ bs) (sign_found a d (c ∷ bs))
ahead_says Alone b c d bs p q = record { text = b ∷ []; parts = refl; piece = lexemes.single p q }
ahead_says (Longer e) b c d bs p q = record { text = b ∷ c ∷ []; parts = refl; piece = lexemes.double p q }
ahead_says Comment b c d bs p q = comment_says (after_comment bs) b c d bs refl p q

sign_says : (b : ℕ) (d : Delimiter) (bs : List ℕ) → class_of b ≡ class.Sign d → Says (b ∷ bs) (sign_at d bs)
sign_says b d [] p = let n = nothing_ahead d in rw n (record { text = b ∷ []; parts = refl; piece = lexemes.single p n })
sign_says b d (c ∷ bs) p = ahead_says (look_ahead d (class_of c)) b c d bs p refl

pub next_says : (k : Class) (b : ℕ) (bs : List ℕ) → class_of b ≡ k → Says (b ∷ bs) (next_by k b bs)
unfolding next_by
next_says class.Space b bs e = record { text = b ∷ []; parts = refl; piece = lexemes.space e }
next_says class.Letter b bs e = word_says b bs (rw e refl) (rw e refl)
next_says class.Underscore b bs e = word_says b bs (rw e refl) (rw e refl)
next_says class.Digit b bs e = literal_says kind.Number [] (b ∷ bs) (lexemes.none e)
next_says class.Percent b bs e = literal_says kind.Location (b ∷ []) bs (lexemes.percent e)
next_says class.Brace b bs e = pragma_says (after_pragma bs) b bs refl e
next_says (class.Sign d) b bs e = sign_says b d bs e
next_says class.Sharp b bs e = lexemes.sharp e
next_says class.Other b bs e = lexemes.other e
next_says class.High b bs e = lexemes.high e
