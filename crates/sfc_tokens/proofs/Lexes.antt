-- Whole texts: lexing is the relation, and each text has one outcome.
use Rattle.std.proofs.Common.{◌≡◌, ℕ, zero, suc, ◌<◌, ◌≤◌, Bool, true, false, List, [], ◌∷◌, ◌++◌, length, Option, Some, None, Ok, Err, refl, sym, ap, subst, ◌∙◌, arith, append_assoc}
use Rattle.sfc_base.specs.declared.class.Class.{Class}
use Rattle.sfc_base.specs.declared.class.Class.TheVariants as class
use Rattle.sfc_base.specs.declared.run.Alphabet.TheVariants as alphabet
use Rattle.sfc_tokens.specs.declared.literal.LiteralKind.{LiteralKind}
use Rattle.sfc_events.specs.declared.read_error.ReadErrorKind.{ReadErrorKind}
use Rattle.sfc_events.specs.declared.read_error.ReadErrorKind.TheVariants.{BadToken}
use Rattle.sfc_tokens.specs.declared.token.TokenKind.{TokenKind}
use Rattle.sfc_base.specs.Classes.{class_of}
use Rattle.sfc_tokens.specs.Lexing.Results.{◌>>=◌}
use Rattle.sfc_base.specs.Runs.{IsRun}
use Rattle.sfc_tokens.specs.Literals.{alphabet_of}
use Rattle.sfc_tokens.specs.Lexing.Literals.{literal}
use Rattle.sfc_base.specs.Names.{StartsWord}
use Rattle.sfc_tokens.specs.Lexemes as lexemes
use Rattle.sfc_tokens.specs.Lexemes.{word_token, is_sharp_first, Prefix, minus, is_minus, Body, look_ahead, NoClose, NoBrace, Piece, Faulty, Tokens, first, Lexes}
use Rattle.sfc_tokens.specs.Lexing.Tokens.{after_comment, after_pragma, Next, literal_found, literal_in, literal_at, word_found, word_or_prefix, word_at, skipped, next_by, add, lex}
use Rattle.sfc_base.proofs.Runs.{run_again}
use Rattle.sfc_tokens.proofs.Comments.{none_again, some_again, pragma_none_again, pragma_again}
use Rattle.sfc_tokens.proofs.LiteralProofs.{literal_sound, literal_again}
use Rattle.sfc_tokens.proofs.Shorter.{next_shorter}
use Rattle.sfc_tokens.proofs.Pieces.{Says, next_says}

abbrev next : List ℕ → Next
next [] = Err BadToken
next (b ∷ bs) = next_by (class_of b) b bs

next_is : (k : Class) (b : ℕ) (bs : List ℕ) → class_of b ≡ k → next (b ∷ bs) ≡ next_by k b bs
next_is k b bs e = ap (λ (j : Class). next_by j b bs) e

starts_next : (k : Class) (b : ℕ) (bs : List ℕ) → class_of b ≡ k → StartsWord k → next (b ∷ bs) ≡ word_at (b ∷ bs)
unfolding next_by
starts_next class.Letter b bs e h = next_is class.Letter b bs e
starts_next class.Underscore b bs e h = next_is class.Underscore b bs e
starts_next _ b bs e h = absurd cc

-- ---- literals

literal_run : (k : LiteralKind) (negative : Bool) (w rest : List ℕ) → Body k negative w rest → literal_at k (minus negative ++ (w ++ rest)) ≡ literal_found k (literal k negative w) rest
literal_run k true w rest b = let r = run_again (alphabet_of k) w rest b.run in ap (literal_in k true) r
literal_run k false w rest b = let r = run_again (alphabet_of k) w rest b.run in let s = b.sign refl in rw s (ap (literal_in k false) r)

word_run : (w rest : List ℕ) → IsRun alphabet.Word w rest → word_at (w ++ rest) ≡ word_or_prefix w rest
word_run w rest r = let e = run_again alphabet.Word w rest r in ap (λ (x : List ℕ × List ℕ). word_or_prefix x.0 x.1) e

prefix_next : {k : LiteralKind} {front rest : List ℕ} → Prefix k front rest → next (front ++ rest) ≡ literal_at k rest
unfolding next_by
prefix_next (lexemes.none {b = b} {rest = rest} e) = next_is class.Digit b rest e
prefix_next (lexemes.percent {b = b} {rest = rest} e) = next_is class.Percent b rest e
prefix_next (lexemes.word {b = b} {w = w} {rest = rest} {kind = k} start r e) =
    let P : List ℕ → Type 0 = λ x. next (b ∷ x) ≡ literal_at k rest in
    subst P (sym (append_assoc w (35 ∷ []) rest)) (starts_next (class_of b) b (w ++ 35 ∷ rest) refl start ∙ word_run (b ∷ w) (35 ∷ rest) r ∙ rw e refl)

none_by : (o : Option TokenKind) → ((t : TokenKind) → o ≡ Some t → ⊥) → o ≡ None
none_by None h = refl
none_by (Some t) h = absurd (h t refl)

-- ---- words

plain_word : (w rest : List ℕ) → is_sharp_first rest ≡ false → word_or_prefix w rest ≡ word_found w rest
plain_word w [] e = refl
plain_word w (c ∷ rest) e = rw e refl

piece_next : {text rest : List ℕ} {o : Option TokenKind} → Piece text rest o → next (text ++ rest) ≡ Ok (o, rest)
unfolding next_by
piece_next (lexemes.space {b = b} {rest = rest} e) = next_is class.Space b rest e
piece_next (lexemes.comment {b = b} {c = c} {rest = rest} {d = d} body p q n) =
    let inner = append_assoc body (42 ∷ 41 ∷ []) rest in
    next_is (class.Sign d) b (c ∷ (body ++ 42 ∷ 41 ∷ []) ++ rest) p ∙ rw q (ap (λ (x : List ℕ). skipped (after_comment x)) inner ∙ ap skipped (some_again body rest n))
piece_next (lexemes.pragma {b = b} {rest = rest} body p n) =
    let inner = append_assoc body (125 ∷ []) rest in
    next_is class.Brace b ((body ++ 125 ∷ []) ++ rest) p ∙ ap (λ (x : List ℕ). skipped (after_pragma x)) inner ∙ ap skipped (pragma_again body rest n)
piece_next (lexemes.word {b = b} {w = w} {rest = rest} start r s e) =
    starts_next (class_of b) b (w ++ rest) refl start ∙ word_run (b ∷ w) rest r ∙ plain_word (b ∷ w) rest s ∙ rw e refl
piece_next (lexemes.literal {front = front} {rest = rest} {kind = k} negative w {t = t} p b i) =
    let parts : (front ++ (minus negative ++ w)) ++ rest ≡ front ++ (minus negative ++ (w ++ rest)) = append_assoc front (minus negative ++ w) rest ∙ ap (λ (x : List ℕ). front ++ x) (append_assoc (minus negative) w rest) in
    let e = literal_again i in
    ap next parts ∙ prefix_next p ∙ literal_run k negative w rest b ∙ ap (λ (o : Option TokenKind). literal_found k o rest) e
piece_next (lexemes.single {b = b} {rest = rest} {d = d} p q) = next_is (class.Sign d) b rest p ∙ rw q refl
piece_next (lexemes.double {b = b} {c = c} {rest = rest} {d = d} {e = e} p q) = next_is (class.Sign d) b (c ∷ rest) p ∙ rw q refl

faulty_next : {bytes : List ℕ} {f : ReadErrorKind} → Faulty bytes f → next bytes ≡ Err f
unfolding next_by
faulty_next (lexemes.comment {b = b} {c = c} {rest = rest} {d = d} p q n) = next_is (class.Sign d) b (c ∷ rest) p ∙ rw q (ap skipped (none_again rest n))
faulty_next (lexemes.pragma {b = b} {rest = rest} p n) = next_is class.Brace b rest p ∙ ap skipped (pragma_none_again rest n)
faulty_next (lexemes.word {b = b} {w = w} {rest = rest} start r s e) =
    starts_next (class_of b) b (w ++ rest) refl start ∙ word_run (b ∷ w) rest r ∙ plain_word (b ∷ w) rest s ∙ rw e refl
faulty_next (lexemes.prefix {b = b} {w = w} {rest = rest} start r e) =
    starts_next (class_of b) b (w ++ 35 ∷ rest) refl start ∙ word_run (b ∷ w) (35 ∷ rest) r ∙ rw e refl
faulty_next (lexemes.literal {front = front} {rest = rest} {kind = k} negative w p b h) =
    let e = none_by (literal k negative w) (λ t f. h t (literal_sound k negative w t f)) in
    prefix_next p ∙ literal_run k negative w rest b ∙ ap (λ (o : Option TokenKind). literal_found k o rest) e
faulty_next (lexemes.sharp {b = b} {rest = rest} e) = next_is class.Sharp b rest e
faulty_next (lexemes.other {b = b} {rest = rest} e) = next_is class.Other b rest e
faulty_next (lexemes.high {b = b} {rest = rest} e) = next_is class.High b rest e

-- ---- each step takes a byte

ok_shorter : (bytes : List ℕ) (x : Option TokenKind × List ℕ) → next bytes ≡ Ok x → length x.1 < length bytes
ok_shorter [] x e = absurd cc
ok_shorter (b ∷ bs) x e = next_shorter b bs x e

pub piece_shorter : (text rest : List ℕ) (o : Option TokenKind) → Piece text rest o → length rest < length (text ++ rest)
piece_shorter text rest o p = ok_shorter (text ++ rest) (o, rest) (piece_next p)

prefix_some : {k : LiteralKind} {front rest : List ℕ} → Prefix k front rest → 0 < length (front ++ rest)
prefix_some (lexemes.none e) = omega arith
prefix_some (lexemes.percent e) = omega arith
prefix_some (lexemes.word start r e) = omega arith

faulty_some : {bytes : List ℕ} {f : ReadErrorKind} → Faulty bytes f → 0 < length bytes
faulty_some (lexemes.comment p q n) = omega arith
faulty_some (lexemes.pragma p n) = omega arith
faulty_some (lexemes.word start r s e) = omega arith
faulty_some (lexemes.prefix start r e) = omega arith
faulty_some (lexemes.literal negative w p b h) = prefix_some p
faulty_some (lexemes.sharp e) = omega arith
faulty_some (lexemes.other e) = omega arith
faulty_some (lexemes.high e) = omega arith

-- ---- what is lexed is in the relation

added : (o : Option TokenKind) (text rest : List ℕ) (r : Tokens) → Piece text rest o → Lexes rest r → Lexes (text ++ rest) (r >>= λ ts. Ok (add o ts))
added None text rest (Ok ts) p s = lexemes.skip p s
added None text rest (Err f) p s = lexemes.skip p s
added (Some t) text rest (Ok ts) p s = lexemes.one p s
added (Some t) text rest (Err f) p s = lexemes.one p s

step : (n : ℕ) (bytes : List ℕ) (r : Next) → Says bytes r → ((rest : List ℕ) → length rest ≤ n → Lexes rest (lex n rest)) → length bytes ≤ suc n → Lexes bytes (r >>= λ x. lex n x.1 >>= λ ts. Ok (add x.0 ts))
step n bytes (Ok x) t more le =
    let lt : length x.1 < length bytes = subst (λ (y : List ℕ). length x.1 < length y) (sym t.parts) (piece_shorter t.text x.1 x.0 t.piece) in
    subst (λ y. Lexes y (lex n x.1 >>= λ ts. Ok (add x.0 ts))) (sym t.parts) (added x.0 t.text x.1 (lex n x.1) t.piece (more x.1 (omega (arith, le, lt))))
step n bytes (Err f) t more le = lexemes.fault t

pub lex_lexes : (n : ℕ) (bytes : List ℕ) → length bytes ≤ n → Lexes bytes (lex n bytes)
unfolding lex
lex_lexes n [] le = lexemes.ended
lex_lexes zero (b ∷ bs) le = absurd (omega (arith, le))
lex_lexes (suc n) (b ∷ bs) le = step n (b ∷ bs) (next_by (class_of b) b bs) (next_says (class_of b) b bs refl) (λ rest lt. lex_lexes n rest lt) le

-- ---- and what is in the relation is lexed

lex_next : (n : ℕ) (bytes : List ℕ) → 0 < length bytes → lex (suc n) bytes ≡ (next bytes >>= λ x. lex n x.1 >>= λ ts. Ok (add x.0 ts))
unfolding lex
lex_next n [] h = absurd (omega (arith, h))
lex_next n (b ∷ bs) h = refl

piece_lex : (n : ℕ) (text rest : List ℕ) (o : Option TokenKind) (r : Tokens) → Piece text rest o → length (text ++ rest) ≤ n → ((m : ℕ) → length rest ≤ m → lex m rest ≡ r) → lex n (text ++ rest) ≡ (r >>= λ ts. Ok (add o ts))
piece_lex zero text rest o r p le more = let s = piece_shorter text rest o p in absurd (omega (arith, le, s))
piece_lex (suc n) text rest o r p le more =
    let s = piece_shorter text rest o p in
    lex_next n (text ++ rest) (omega (arith, s)) ∙ rw (piece_next p, more n (omega (arith, le, s))) refl

first_is : (t : TokenKind) (r : Tokens) → (r >>= λ ts. Ok (add (Some t) ts)) ≡ first t r
first_is t (Ok ts) = refl
first_is t (Err f) = refl

none_is : (r : Tokens) → (r >>= λ ts. Ok (add None ts)) ≡ r
none_is (Ok ts) = refl
none_is (Err f) = refl

fault_lex : (n : ℕ) (bytes : List ℕ) (f : ReadErrorKind) → Faulty bytes f → length bytes ≤ n → lex n bytes ≡ Err f
fault_lex zero bytes f h le = let s = faulty_some h in absurd (omega (arith, le, s))
fault_lex (suc n) bytes f h le = lex_next n bytes (faulty_some h) ∙ rw (faulty_next h) refl

empty_lex : (n : ℕ) → lex n [] ≡ Ok []
unfolding lex
empty_lex n = refl

pub lexes_lex : {bytes : List ℕ} {r : Tokens} → Lexes bytes r → (n : ℕ) → length bytes ≤ n → lex n bytes ≡ r
lexes_lex lexemes.ended n le = empty_lex n
lexes_lex (lexemes.skip {text = text} {rest = rest} {r = r} p s) n le = piece_lex n text rest None r p le (λ m h. lexes_lex s m h) ∙ none_is r
lexes_lex (lexemes.one {text = text} {rest = rest} {t = t} {r = r} p s) n le = piece_lex n text rest (Some t) r p le (λ m h. lexes_lex s m h) ∙ first_is t r
lexes_lex (lexemes.fault {bytes = bytes} {f = f} h) n le = fault_lex n bytes f h le

pub one_result : (bytes : List ℕ) (r s : Tokens) → Lexes bytes r → Lexes bytes s → r ≡ s
one_result bytes r s p q = sym (lexes_lex p (length bytes) (omega arith)) ∙ lexes_lex q (length bytes) (omega arith)
