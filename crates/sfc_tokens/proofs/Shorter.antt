-- Each step of the lexer takes at least one byte.
use Rattle.std.proofs.Common.{◌≡◌, ℕ, suc, ◌<◌, ◌≤◌, Bool, true, false, cond, List, [], ◌∷◌, length, Option, Some, None, Ok, Err, refl, arith}
use Rattle.sfc_base.specs.declared.delimiter.Delimiter.{Delimiter}
use Rattle.sfc_base.specs.declared.class.Class.{Class}
use Rattle.sfc_base.specs.declared.class.Class.TheVariants as class
use Rattle.sfc_base.specs.declared.run.Alphabet.{Alphabet}
use Rattle.sfc_base.specs.declared.run.Alphabet.TheVariants as alphabet
use Rattle.sfc_tokens.specs.declared.literal.LiteralKind.{LiteralKind}
use Rattle.sfc_tokens.specs.declared.literal.LiteralKind.TheVariants as kind
use Rattle.sfc_events.specs.declared.read_error.ReadErrorKind.{ReadErrorKind}
use Rattle.sfc_tokens.specs.declared.lex.Ahead.{Ahead}
use Rattle.sfc_tokens.specs.declared.lex.Ahead.TheVariants.{Alone, Longer, Comment}
use Rattle.sfc_tokens.specs.declared.token.TokenKind.{TokenKind}
use Rattle.sfc_base.specs.Classes.{class_of, first_class}
use Rattle.sfc_base.specs.Runs.{has}
use Rattle.sfc_base.specs.Private.Runs.{run}
use Rattle.sfc_tokens.specs.Literals.{kind_of_prefix, alphabet_of}
use Rattle.sfc_tokens.specs.Lexing.Literals.{literal}
use Rattle.sfc_base.specs.Names.{is_spaced}
use Rattle.sfc_tokens.specs.Lexemes.{is_minus, look_ahead}
use Rattle.sfc_tokens.specs.Lexing.Tokens.{after_comment, after_pragma, Next, literal_found, literal_in, tail, literal_at, prefixed, word_found, word_or_prefix, word_at, skipped, sign_found, next_by}

run_at : (t : Bool) (a : Alphabet) (b : ℕ) (bs : List ℕ) → has a b ≡ t → length (run a bs).1 ≤ length bs → length (run a (b ∷ bs)).1 ≤ length (b ∷ bs)
unfolding run
run_at true a b bs e h = rw e (omega (arith, h))
run_at false a b bs e h = rw e (omega arith)

pub run_short : (a : Alphabet) (bs : List ℕ) → length (run a bs).1 ≤ length bs
unfolding run
run_short a [] = omega arith
run_short a (b ∷ bs) = run_at (has a b) a b bs refl (run_short a bs)

pub run_shorter : (a : Alphabet) (b : ℕ) (bs : List ℕ) → has a b ≡ true → length (run a (b ∷ bs)).1 < length (b ∷ bs)
unfolding run
run_shorter a b bs e = let h = run_short a bs in rw e (omega (arith, h))

-- a rest that is no longer than the bytes
abbrev Within : List ℕ → ℕ → Next → Type 0
Within bs n r = (x : Option TokenKind × List ℕ) → r ≡ Ok x → length x.1 ≤ n

found_within : (k : LiteralKind) (o : Option TokenKind) (rest : List ℕ) (n : ℕ) → length rest ≤ n → Within rest n (literal_found k o rest)
found_within k None rest n h x e = absurd cc
found_within k (Some t) rest n h x e = let same : rest ≡ x.1 = cc in rw (← same) h

within_if : (t : Bool) (bs : List ℕ) (n : ℕ) (r s : Next) → Within bs n r → Within bs n s → Within bs n (cond t r s)
within_if true bs n r s h g = h
within_if false bs n r s h g = g

tail_short : (bs : List ℕ) → length (tail bs) ≤ length bs
tail_short [] = omega arith
tail_short (b ∷ bs) = omega arith

literal_short : (k : LiteralKind) (bs : List ℕ) → Within bs (length bs) (literal_at k bs)
literal_short k bs =
    let g = run_short (alphabet_of k) (tail bs) in
    let h = run_short (alphabet_of k) bs in
    let t = tail_short bs in
    within_if (is_minus bs) bs (length bs) (literal_in k true (run (alphabet_of k) (tail bs))) (literal_in k false (run (alphabet_of k) bs)) (found_within k (literal k true (run (alphabet_of k) (tail bs)).0) (run (alphabet_of k) (tail bs)).1 (length bs) (omega (arith, g, t))) (found_within k (literal k false (run (alphabet_of k) bs).0) (run (alphabet_of k) bs).1 (length bs) h)

number_short : (b : ℕ) (bs : List ℕ) → class_of b ≡ class.Digit → Within (b ∷ bs) (length bs) (literal_at kind.Number (b ∷ bs))
number_short b bs e =
    let g = run_short alphabet.Number bs in
    let h = run_shorter alphabet.Number b bs (rw e refl) in
    within_if (is_minus (b ∷ bs)) (b ∷ bs) (length bs) (literal_in kind.Number true (run alphabet.Number bs)) (literal_in kind.Number false (run alphabet.Number (b ∷ bs))) (found_within kind.Number (literal kind.Number true (run alphabet.Number bs).0) (run alphabet.Number bs).1 (length bs) g) (found_within kind.Number (literal kind.Number false (run alphabet.Number (b ∷ bs)).0) (run alphabet.Number (b ∷ bs)).1 (length bs) (omega (arith, h)))

prefixed_short : (o : Option LiteralKind) (bs : List ℕ) → Within bs (length bs) (prefixed o bs)
prefixed_short None bs x e = absurd cc
prefixed_short (Some k) bs x e = literal_short k bs x e

word_found_at : (t : Bool) (tok : TokenKind) (rest : List ℕ) (f : ReadErrorKind) → Within rest (length rest) (cond t (Ok (Some tok, rest)) (Err f))
word_found_at true tok rest f x e = let same : rest ≡ x.1 = cc in rw (← same) (omega arith)
word_found_at false tok rest f x e = absurd cc

word_found_short : (w rest : List ℕ) → Within rest (length rest) (word_found w rest)
word_found_short w rest = word_found_at (is_spaced w) _ rest _

prefix_short : (w : List ℕ) (b : ℕ) (rest : List ℕ) → Within rest (length (b ∷ rest)) (prefixed (kind_of_prefix w) rest)
prefix_short w b rest x e = let h = prefixed_short (kind_of_prefix w) rest x e in omega (arith, h)

word_short : (w rest : List ℕ) → Within rest (length rest) (word_or_prefix w rest)
word_short w [] = word_found_short w []
word_short w (b ∷ rest) = within_if _ (b ∷ rest) (length (b ∷ rest)) (prefixed (kind_of_prefix w) rest) (word_found w (b ∷ rest)) (prefix_short w b rest) (word_found_short w (b ∷ rest))

word_at_short : (b : ℕ) (bs : List ℕ) → has alphabet.Word b ≡ true → Within (b ∷ bs) (length bs) (word_at (b ∷ bs))
word_at_short b bs e x is =
    let h = word_short (run alphabet.Word (b ∷ bs)).0 (run alphabet.Word (b ∷ bs)).1 x is in
    let g = run_shorter alphabet.Word b bs e in
    omega (arith, h, g)

comment_at : (t : Bool) (bs rest : List ℕ) (c : ℕ) → cond t (Some bs) (after_comment (c ∷ bs)) ≡ Some rest → (after_comment (c ∷ bs) ≡ Some rest → length rest ≤ length (c ∷ bs)) → length rest ≤ suc (length (c ∷ bs))
comment_at true bs rest c e h = let same : bs ≡ rest = cc in rw (← same) (omega arith)
comment_at false bs rest c e h = let g = h e in omega (arith, g)

comment_short : (bs rest : List ℕ) → after_comment bs ≡ Some rest → length rest ≤ length bs
unfolding after_comment
comment_short [] rest e = absurd cc
comment_short (b ∷ []) rest e = absurd cc
comment_short (b ∷ c ∷ bs) rest e = comment_at _ bs rest c e (comment_short (c ∷ bs) rest)

pragma_at : (t : Bool) (bs rest : List ℕ) → cond t (Some bs) (after_pragma bs) ≡ Some rest → (after_pragma bs ≡ Some rest → length rest ≤ length bs) → length rest ≤ suc (length bs)
pragma_at true bs rest e h = let same : bs ≡ rest = cc in rw (← same) (omega arith)
pragma_at false bs rest e h = let g = h e in omega (arith, g)

pragma_short : (bs rest : List ℕ) → after_pragma bs ≡ Some rest → length rest ≤ length bs
unfolding after_pragma
pragma_short [] rest e = absurd cc
pragma_short (b ∷ bs) rest e = pragma_at _ bs rest e (pragma_short bs rest)

skipped_short : (o : Option (List ℕ)) (n : ℕ) → ((rest : List ℕ) → o ≡ Some rest → length rest ≤ n) → Within [] n (skipped o)
skipped_short None n h x e = absurd cc
skipped_short (Some rest) n h x e = let same : rest ≡ x.1 = cc in rw (← same) (h rest refl)

tail_comment : (bs rest : List ℕ) → after_comment (tail bs) ≡ Some rest → length rest ≤ length bs
tail_comment bs rest e = let h = comment_short (tail bs) rest e in let t = tail_short bs in omega (arith, h, t)

sign_found_short : (a : Ahead) (d : Delimiter) (bs : List ℕ) → Within bs (length bs) (sign_found a d bs)
sign_found_short Alone d bs x e = let same : bs ≡ x.1 = cc in rw (← same) (omega arith)
sign_found_short (Longer l) d bs x e = let same : tail bs ≡ x.1 = cc in rw (← same) (tail_short bs)
sign_found_short Comment d bs x e = skipped_short (after_comment (tail bs)) (length bs) (tail_comment bs) x e

next_at : (k : Class) (b : ℕ) (bs : List ℕ) → class_of b ≡ k → Within bs (length bs) (next_by k b bs)
unfolding next_by
next_at class.Space b bs is x e = let same : bs ≡ x.1 = cc in rw (← same) (omega arith)
next_at class.Letter b bs is x e = word_at_short b bs (rw is refl) x e
next_at class.Underscore b bs is x e = word_at_short b bs (rw is refl) x e
next_at class.Digit b bs is x e = number_short b bs is x e
next_at class.Percent b bs is x e = literal_short kind.Location bs x e
next_at class.Brace b bs is x e = skipped_short (after_pragma bs) (length bs) (pragma_short bs) x e
next_at (class.Sign d) b bs is x e = sign_found_short (look_ahead d (first_class bs)) d bs x e
next_at class.Sharp b bs is x e = absurd cc
next_at class.Other b bs is x e = absurd cc
next_at class.High b bs is x e = absurd cc

pub next_shorter : (b : ℕ) (bs : List ℕ) (x : Option TokenKind × List ℕ) → next_by (class_of b) b bs ≡ Ok x → length x.1 < length (b ∷ bs)
next_shorter b bs x e = let h = next_at (class_of b) b bs refl x e in omega (arith, h)
