-- Marks that do not meet: no token has both.
use Rattle.std.proofs.Common.{◌≡◌, ℕ, Bool, true, false, ◌&&◌, ◌||◌, eqb, List, [], ◌∷◌, ◌++◌, refl, sym, subst, ◌∙◌, arith}
use Rattle.std.proofs.lemmas.Bool.{eqb-true}
use Rattle.sfc_tokens.specs.declared.token.TokenKind.{TokenKind}
use Rattle.sfc_tokens.specs.declared.token.TokenKind.TheVariants as token
use Rattle.std.specs.Char.{to_ascii_uppercase}
use Rattle.sfc_base.specs.Case.{same_word}
use Rattle.sfc_text.specs.Places.{same_keyword, same_delimiter}
use Rattle.sfc_tokens.specs.Tokens.{Kinds}
use Rattle.sfc_text.proofs.Places.{one_keyword, one_delimiter}
use Rattle.sfc_text.specs.Marks.{Mark, Word, Sign, AnyName, Named, AnInteger, ABased, AnInt, ADint, ATruth, ADuration, ALocation, Marks, is, is_any}
use Rattle.sfc_text.specs.Parsing.Lookahead.{begins, meet, meets, overlap}

pub and_left : (a b : Bool) → a && b ≡ true → a ≡ true
and_left true b e = refl
and_left false b e = absurd cc

pub and_right : (a b : Bool) → a && b ≡ true → b ≡ true
and_right true b e = e
and_right false b e = absurd cc

pub or_left : (a b : Bool) → a || b ≡ false → a ≡ false
or_left true b e = absurd cc
or_left false b e = refl

pub or_right : (a b : Bool) → a || b ≡ false → b ≡ false
or_right true b e = absurd cc
or_right false b e = e

pub not_so : (a b : Bool) → (a ≡ true → b ≡ true) → b ≡ false → a ≡ false
not_so true b h e = let t = h refl in absurd cc
not_so false b h e = refl

both_are : (a b : Bool) → a ≡ true → b ≡ true → a && b ≡ true
both_are a b p q = rw (p, q) refl

same_number : (n : ℕ) → eqb n n ≡ true
same_number n = grind arith

same_numbers : (n m : ℕ) → n ≡ m → eqb n m ≡ true
same_numbers n m e = rw e (same_number m)

same_words : (n v w : List ℕ) → same_word n v ≡ true → same_word n w ≡ true → same_word v w ≡ true
unfolding same_word
same_words [] [] [] p q = refl
same_words [] [] (c ∷ w) p q = absurd cc
same_words [] (b ∷ v) w p q = absurd cc
same_words (a ∷ n) [] w p q = absurd cc
same_words (a ∷ n) (b ∷ v) [] p q = absurd cc
same_words (a ∷ n) (b ∷ v) (c ∷ w) p q =
    let x = to_ascii_uppercase a in
    let y = to_ascii_uppercase b in
    let z = to_ascii_uppercase c in
    let e : x ≡ y = eqb-true x y (and_left (eqb x y) (same_word n v) p) in
    let f : x ≡ z = eqb-true x z (and_left (eqb x z) (same_word n w) q) in
    both_are (eqb y z) (same_word v w) (same_numbers y z (sym e ∙ f)) (same_words n v w (and_right (eqb x y) (same_word n v) p) (and_right (eqb x z) (same_word n w) q))

-- two marks of one token meet
meet_is : (t : TokenKind) (m n : Mark) → is m t ≡ true → is n t ≡ true → meet m n ≡ true
meet_is (token.Keyword i) (Word k) (Word j) p q = let e = one_keyword i k p in subst (λ x. same_keyword x j ≡ true) e q
meet_is (token.Delimiter i) (Sign d) (Sign e) p q = let h = one_delimiter i d p in subst (λ x. same_delimiter x e ≡ true) h q
meet_is (token.Name n) AnyName AnyName p q = refl
meet_is (token.Name n) AnyName (Named w) p q = refl
meet_is (token.Name n) (Named v) AnyName p q = refl
meet_is (token.Name n) (Named v) (Named w) p q = same_words n v w p q
meet_is (token.Integer n) AnInteger AnInteger p q = refl
meet_is (token.Based n) ABased ABased p q = refl
meet_is (token.Int n) AnInt AnInt p q = refl
meet_is (token.Dint n) ADint ADint p q = refl
meet_is (token.Truth b) ATruth ATruth p q = refl
meet_is (token.Duration d) ADuration ADuration p q = refl
meet_is (token.Location l) ALocation ALocation p q = refl
meet_is _ _ _ p q = absurd cc

not_both : (m n : Mark) (t : TokenKind) → meet m n ≡ false → is n t ≡ true → is m t ≡ false
not_both m n t e h = not_so (is m t) (meet m n) (λ p. meet_is t m n p h) e

not_any_by : (m : Mark) (ns : Marks) (t : TokenKind) → meets m ns ≡ false → is_any ns t ≡ true → is m t ≡ false
not_any_by m [] t e h = absurd cc
not_any_by m (n ∷ ns) t e h = by_first (is n t) refl h (not_any_by m ns t (or_right (meet m n) (meets m ns) e))
  where
    by_first : (b : Bool) → is n t ≡ b → b || is_any ns t ≡ true → (is_any ns t ≡ true → is m t ≡ false) → is m t ≡ false
    by_first true p q others = not_both m n t (or_left (meet m n) (meets m ns) e) p
    by_first false p q others = others q

not_any : (ms ns : Marks) (t : TokenKind) → overlap ms ns ≡ false → is_any ns t ≡ true → is_any ms t ≡ false
not_any [] ns t e h = refl
not_any (m ∷ ms) ns t e h = let p = not_any_by m ns t (or_left (meets m ns) (overlap ms ns) e) h in let q = not_any ms ns t (or_right (meets m ns) (overlap ms ns) e) h in rw (p, q) refl

-- what begins with the one does not begin with the other
pub apart : (ms ns : Marks) (ts : Kinds) → overlap ms ns ≡ false → begins ns ts ≡ true → begins ms ts ≡ false
apart ms ns [] e h = refl
apart ms ns (t ∷ ts) e h = not_any ms ns t e h

is_any-append : (ms ns : Marks) (t : TokenKind) → is_any (ms ++ ns) t ≡ is_any ms t || is_any ns t
is_any-append [] ns t = refl
is_any-append (m ∷ ms) ns t = by_first (is m t) (is_any-append ms ns t)
  where
    by_first : (b : Bool) → is_any (ms ++ ns) t ≡ is_any ms t || is_any ns t → b || is_any (ms ++ ns) t ≡ (b || is_any ms t) || is_any ns t
    by_first true e = refl
    by_first false e = e

begins-append : (ms ns : Marks) (ts : Kinds) → begins (ms ++ ns) ts ≡ begins ms ts || begins ns ts
begins-append ms ns [] = refl
begins-append ms ns (t ∷ ts) = is_any-append ms ns t

pub ends_left : (ms ns : Marks) (ts : Kinds) → begins (ms ++ ns) ts ≡ false → begins ms ts ≡ false
ends_left ms ns ts e = or_left (begins ms ts) (begins ns ts) (sym (begins-append ms ns ts) ∙ e)

pub ends_right : (ms ns : Marks) (ts : Kinds) → begins (ms ++ ns) ts ≡ false → begins ns ts ≡ false
ends_right ms ns ts e = or_right (begins ms ts) (begins ns ts) (sym (begins-append ms ns ts) ∙ e)

or_true_left : (a b : Bool) → a ≡ true → a || b ≡ true
or_true_left a b e = rw e refl

or_true_right : (a b : Bool) → b ≡ true → a || b ≡ true
or_true_right true b e = refl
or_true_right false b e = e

pub begins_left : (ms ns : Marks) (ts : Kinds) → begins ms ts ≡ true → begins (ms ++ ns) ts ≡ true
begins_left ms ns ts e = begins-append ms ns ts ∙ or_true_left (begins ms ts) (begins ns ts) e

pub begins_right : (ms ns : Marks) (ts : Kinds) → begins ns ts ≡ true → begins (ms ++ ns) ts ≡ true
begins_right ms ns ts e = begins-append ms ns ts ∙ or_true_right (begins ms ts) (begins ns ts) e

-- ---- marks that cover others: each token with one of these has one of those

same_word_again : (n : List ℕ) → same_word n n ≡ true
unfolding same_word
same_word_again [] = refl
same_word_again (a ∷ n) = both_are (eqb (to_ascii_uppercase a) (to_ascii_uppercase a)) (same_word n n) (same_number (to_ascii_uppercase a)) (same_word_again n)

abbrev pub covers : Mark → Mark → Bool
covers (Word k) (Word j) = same_keyword j k
covers (Sign d) (Sign e) = same_delimiter e d
covers AnyName AnyName = true
covers AnyName (Named w) = true
covers (Named v) (Named w) = same_word w v
covers AnInteger AnInteger = true
covers ABased ABased = true
covers AnInt AnInt = true
covers ADint ADint = true
covers ATruth ATruth = true
covers ADuration ADuration = true
covers ALocation ALocation = true
covers _ _ = false

covered_is : (t : TokenKind) (m n : Mark) → covers n m ≡ true → is m t ≡ true → is n t ≡ true
covered_is (token.Keyword i) (Word k) (Word j) c p = let e = one_keyword k j c in subst (λ x. is (Word x) (token.Keyword i) ≡ true) e p
covered_is (token.Delimiter i) (Sign k) (Sign j) c p = let e = one_delimiter k j c in subst (λ x. is (Sign x) (token.Delimiter i) ≡ true) e p
covered_is (token.Name n) AnyName AnyName c p = refl
covered_is (token.Name n) (Named w) AnyName c p = refl
covered_is (token.Name n) (Named w) (Named v) c p = same_words w n v (same_words n w n p (same_word_again n)) c
covered_is (token.Integer n) AnInteger AnInteger c p = refl
covered_is (token.Based n) ABased ABased c p = refl
covered_is (token.Int n) AnInt AnInt c p = refl
covered_is (token.Dint n) ADint ADint c p = refl
covered_is (token.Truth n) ATruth ATruth c p = refl
covered_is (token.Duration n) ADuration ADuration c p = refl
covered_is (token.Location n) ALocation ALocation c p = refl
covered_is _ _ _ c p = absurd cc

abbrev pub in_marks : Mark → Marks → Bool
in_marks m [] = false
in_marks m (n ∷ ns) = covers n m || in_marks m ns

abbrev pub covered : Marks → Marks → Bool
covered [] ns = true
covered (m ∷ ms) ns = in_marks m ns && covered ms ns

in_marks_is : (m : Mark) (ns : Marks) (t : TokenKind) → in_marks m ns ≡ true → is m t ≡ true → is_any ns t ≡ true
in_marks_is m [] t c p = absurd cc
in_marks_is m (n ∷ ns) t c p = by_first (covers n m) refl c (λ d. in_marks_is m ns t d p)
  where
    by_first : (b : Bool) → covers n m ≡ b → b || in_marks m ns ≡ true → (in_marks m ns ≡ true → is_any ns t ≡ true) → is n t || is_any ns t ≡ true
    by_first true q c others = or_true_left (is n t) (is_any ns t) (covered_is t m n q p)
    by_first false q c others = or_true_right (is n t) (is_any ns t) (others c)

covered_any : (ms ns : Marks) (t : TokenKind) → covered ms ns ≡ true → is_any ms t ≡ true → is_any ns t ≡ true
covered_any [] ns t c p = absurd cc
covered_any (m ∷ ms) ns t c p = by_first (is m t) refl p (covered_any ms ns t (and_right (in_marks m ns) (covered ms ns) c))
  where
    by_first : (b : Bool) → is m t ≡ b → b || is_any ms t ≡ true → (is_any ms t ≡ true → is_any ns t ≡ true) → is_any ns t ≡ true
    by_first true q p others = in_marks_is m ns t (and_left (in_marks m ns) (covered ms ns) c) q
    by_first false q p others = others p

pub covered_begins : (ms ns : Marks) (ts : Kinds) → covered ms ns ≡ true → begins ms ts ≡ true → begins ns ts ≡ true
covered_begins ms ns [] c p = absurd cc
covered_begins ms ns (t ∷ ts) c p = covered_any ms ns t c p

pub covered_ends : (ms ns : Marks) (ts : Kinds) → covered ms ns ≡ true → begins ns ts ≡ false → begins ms ts ≡ false
covered_ends ms ns ts c e = not_so (begins ms ts) (begins ns ts) (covered_begins ms ns ts c) e
