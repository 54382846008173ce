-- Plain instants are durations.
use Rattle.std.proofs.Common.{◌≡◌, ℕ, ℤ, pos, ◌+◌, ◌-◌, ◌*◌, ◌^◌, ◌<◌, ◌≤◌, ◌==◌, nat_lt, Bool, true, false, ◌&&◌, ◌||◌, if◌then◌else◌, List, [], ◌∷◌, ◌++◌, Option, Some, None, refl, sym, ap, subst, ◌∙◌, arith, append_assoc}
use Rattle.std.specs.List.{AllByRecursion}
use Rattle.std.specs.Option.{option_and_then}
use Rattle.std.proofs.Math.Nat.{mul-le-mul_left}
use Rattle.std.proofs.lemmas.Bool.{eqb-true}
use Rattle.std.proofs.lemmas.Bool.Decides.{nat_tests}
use Rattle.sfc_tokens.specs.declared.literal.LiteralKind.TheVariants as kind
use Rattle.sfc_base.specs.declared.unit.Unit.TheVariants.{Second, Millisecond}
use Rattle.sfc_base.specs.Classes.{between, class_of}
use Rattle.sfc_base.specs.Case.{same_word}
use Rattle.sfc_base.specs.Numbers as numbers
use Rattle.sfc_base.specs.Numbers.{digit_of, Digits, IsInteger}
use Rattle.sfc_base.specs.Durations as durations
use Rattle.sfc_base.specs.Durations.{units, IsUnit, Interval, greatest}
use Rattle.sfc_tokens.specs.Literals.{kind_of_prefix}
use Rattle.sfc_tokens.specs.Lexemes as lexemes
use Rattle.sfc_tokens.specs.Lexing.DurationWords.{duration_value}
use Rattle.sfc_tokens.proofs.DurationWords.{word_again}
use Rattle.sfc_script.specs.Lines.{is_blank}
use Rattle.sfc_script.specs.Private.Splitting.{begins_with_blank}
use Rattle.sfc_script.specs.Private.Instants.{number_from, number_first, unit_first, in_unit, counted, instant_first}

-- a byte that parts neither lines nor words, and begins no comment
pub record IsPlain (b : ℕ) : Type 0 where
  pub blank : is_blank b ≡ false
  pub lf : (b == 10) ≡ false
  pub cr : (b == 13) ≡ false
  pub comment : (b == 59) ≡ false

abbrev pub ArePlain : List ℕ → Type 0
ArePlain word = AllByRecursion IsPlain word

plain_digit : (b : ℕ) → between 48 57 b ≡ true → IsPlain b
plain_digit b e = record { blank = grind (arith, nat_tests); lf = grind (arith, nat_tests); cr = grind (arith, nat_tests); comment = grind (arith, nat_tests) }

plain_letter : (b : ℕ) → 64 ≤ b → IsPlain b
plain_letter b h = record { blank = grind (arith, nat_tests); lf = grind (arith, nat_tests); cr = grind (arith, nat_tests); comment = grind (arith, nat_tests) }

plain_sharp : IsPlain 35
plain_sharp = record { blank = refl; lf = refl; cr = refl; comment = refl }

pub plain_append : (v w : List ℕ) → ArePlain v → ArePlain w → ArePlain (v ++ w)
plain_append [] w h g = g
plain_append (b ∷ v) w h g = (h.0, plain_append v w h.1 g)

-- ---- digits

digit_is : (b : ℕ) → between 48 57 b ≡ true → digit_of 10 b ≡ Some (b - 48)
digit_is b e = grind (arith, nat_tests)

-- the bytes are digits, which make m of n, and the rest
record Figures (wanted : Bool) (n : ℕ) (bytes : List ℕ) (m : ℕ) (rest : List ℕ) : Type 0 where
  word : List ℕ
  split : bytes ≡ word ++ rest
  digits : Digits 10 wanted n word m
  plain : ArePlain word
  small : m < 10 ^ 10

-- what is found is one number or unit, and one rest
found_parts : {A : Type 0} (x y : A × List ℕ) → Some x ≡ Some y → (x.0 ≡ y.0) × (x.1 ≡ y.1)
found_parts x y e = let same : x ≡ y = cc in (ap (λ p. p.0) same, ap (λ p. p.1) same)

no_figures : (n : ℕ) (bytes : List ℕ) (m : ℕ) (rest : List ℕ) → n < 10 ^ 10 → (n ≡ m) × (bytes ≡ rest) → Figures false n bytes m rest
no_figures n bytes m rest lt e =
    let same : n ≡ m = e.0 in
    record { word = []; split = e.1; digits = subst (λ k. Digits 10 false n [] k) same numbers.ended; plain = tt; small = omega arith }

more_figures : (wanted : Bool) (n k b : ℕ) (bytes : List ℕ) (m : ℕ) (rest : List ℕ) → between 48 57 b ≡ true → n * 10 + (b - 48) ≡ k → Figures false k bytes m rest → Figures wanted n (b ∷ bytes) m rest
more_figures wanted n k b bytes m rest e same f = record {
  word = b ∷ f.word;
  split = ap (λ w. b ∷ w) f.split;
  digits = numbers.digit (digit_is b e) (subst (λ j. Digits 10 false j f.word m) (sym same) f.digits);
  plain = (plain_digit b e, f.plain);
  small = f.small;
}

next_small : (n b : ℕ) → between 48 57 b ≡ true → nat_lt n 1000000000 ≡ true → n * 10 + (b - 48) < 10 ^ 10
next_small n b e f = grind (arith, nat_tests)

digit_small : (b : ℕ) → between 48 57 b ≡ true → b - 48 < 10 ^ 10
digit_small b e = grind (arith, nat_tests)

number_is : (n : ℕ) (bytes : List ℕ) (m : ℕ) (rest : List ℕ) → n < 10 ^ 10 → number_from n bytes ≡ Some (m, rest) → Figures false n bytes m rest
number_is n [] m rest lt e = no_figures n [] m rest lt (found_parts (n, []) (m, rest) e)
number_is n (b ∷ bytes) m rest lt e = by (λ k. number_is k bytes m rest) (between 48 57 b) (nat_lt n 1000000000) refl refl e
  where
    by : ((k : ℕ) → k < 10 ^ 10 → number_from k bytes ≡ Some (m, rest) → Figures false k bytes m rest) → (t u : Bool) → between 48 57 b ≡ t → nat_lt n 1000000000 ≡ u
        → (if t then (if u then number_from (n * 10 + (b - 48)) bytes else None) else Some (n, b ∷ bytes)) ≡ Some (m, rest) → Figures false n (b ∷ bytes) m rest
    by more true true f g h = more_figures false n (n * 10 + (b - 48)) b bytes m rest f refl (more (n * 10 + (b - 48)) (next_small n b f g) h)
    by more true false f g h = absurd cc
    by more false u f g h = no_figures n (b ∷ bytes) m rest lt (found_parts (n, b ∷ bytes) (m, rest) h)

number_first_is : (bytes : List ℕ) (m : ℕ) (rest : List ℕ) → number_first bytes ≡ Some (m, rest) → Figures true 0 bytes m rest
number_first_is [] m rest e = absurd cc
number_first_is (b ∷ bytes) m rest e = by (between 48 57 b) refl e
  where
    by : (t : Bool) → between 48 57 b ≡ t → (if t then number_from (b - 48) bytes else None) ≡ Some (m, rest) → Figures true 0 (b ∷ bytes) m rest
    by true f h = more_figures true 0 (b - 48) b bytes m rest f (omega arith) (number_is (b - 48) bytes m rest (digit_small b f) h)
    by false f h = absurd cc

-- ---- units

-- the bytes are the spelling of a unit of so many microseconds, and what follows it
record UnitFirst (bytes : List ℕ) (micros : ℕ) (behind : List ℕ) : Type 0 where
  word : List ℕ
  split : bytes ≡ word ++ behind
  plain : ArePlain word
  interval : (w : List ℕ) (n : ℕ) → IsInteger 10 w n → Interval units (w ++ word) (n * micros)
  small : micros ≤ 1000000

-- what holds of either letter holds of the byte that is one of them
of_either : (P : ℕ → Type 0) (b m n : ℕ) → P m → P n → (b == m || b == n) ≡ true → P b
of_either P b m n h g e = by (b == m) refl e
  where
    by : (t : Bool) → (b == m) ≡ t → t || b == n ≡ true → P b
    by true f e = subst P (sym (eqb-true b m f)) h
    by false f e = subst P (sym (eqb-true b n e)) g

is_second : (b : ℕ) → (b == 115 || b == 83) ≡ true → IsUnit Second (b ∷ [])
unfolding class_of same_word
is_second b e = of_either (λ c. IsUnit Second (c ∷ [])) b 115 83 (record { letters = (refl, tt); spelled = refl }) (record { letters = (refl, tt); spelled = refl }) e

is_millisecond : (b c : ℕ) → (b == 109 || b == 77) ≡ true → (c == 115 || c == 83) ≡ true → IsUnit Millisecond (b ∷ c ∷ [])
unfolding class_of same_word
is_millisecond b c e f = of_either (λ x. IsUnit Millisecond (x ∷ c ∷ [])) b 109 77 (of_either (λ y. IsUnit Millisecond (109 ∷ y ∷ [])) c 115 83 (record { letters = (refl, (refl, tt)); spelled = refl }) (record { letters = (refl, (refl, tt)); spelled = refl }) f) (of_either (λ y. IsUnit Millisecond (77 ∷ y ∷ [])) c 115 83 (record { letters = (refl, (refl, tt)); spelled = refl }) (record { letters = (refl, (refl, tt)); spelled = refl }) f) e

plain_either : (b m n : ℕ) → 64 ≤ m → 64 ≤ n → (b == m || b == n) ≡ true → IsPlain b
plain_either b m n h g e = plain_letter b (of_either (λ x. 64 ≤ x) b m n h g e)

seconds : (b : ℕ) (behind : List ℕ) → (b == 115 || b == 83) ≡ true → UnitFirst (b ∷ behind) 1000000 behind
seconds b behind e = record {
  word = b ∷ [];
  split = refl;
  plain = (plain_either b 115 83 (omega arith) (omega arith) e, tt);
  interval = λ w n i. durations.skip (durations.skip (durations.skip (durations.whole i (is_second b e))));
  small = omega arith;
}

milliseconds : (b c : ℕ) (behind : List ℕ) → (b == 109 || b == 77) ≡ true → (c == 115 || c == 83) ≡ true → UnitFirst (b ∷ c ∷ behind) 1000 behind
milliseconds b c behind e f = record {
  word = b ∷ c ∷ [];
  split = refl;
  plain = (plain_either b 109 77 (omega arith) (omega arith) e, (plain_either c 115 83 (omega arith) (omega arith) f, tt));
  interval = λ w n i. durations.skip (durations.skip (durations.skip (durations.skip (durations.whole i (is_millisecond b c e f)))));
  small = omega arith;
}

-- a unit, where the micros and the rest are given by equations
found_unit : (bytes : List ℕ) (x y : ℕ × List ℕ) → Some x ≡ Some y → UnitFirst bytes x.0 x.1 → UnitFirst bytes y.0 y.1
found_unit bytes x y e u = let same : x ≡ y = cc in subst (λ p. UnitFirst bytes p.0 p.1) same u

seconds_by : (t : Bool) (b : ℕ) (bytes : List ℕ) (u : ℕ × List ℕ) → (b == 115 || b == 83) ≡ t → if◌then◌else◌ {A = Option (ℕ × List ℕ)} t (Some (1000000, bytes)) None ≡ Some u → UnitFirst (b ∷ bytes) u.0 u.1
seconds_by true b bytes u e f = found_unit (b ∷ bytes) (1000000, bytes) u f (seconds b bytes e)
seconds_by false b bytes u e f = absurd cc

unit_is : (bytes : List ℕ) (u : ℕ × List ℕ) → unit_first bytes ≡ Some u → UnitFirst bytes u.0 u.1
unit_is [] u e = absurd cc
unit_is (b ∷ []) u e = seconds_by (b == 115 || b == 83) b [] u refl e
unit_is (b ∷ c ∷ bytes) u e = by (b == 109 || b == 77) (c == 115 || c == 83) refl refl e
  where
    by : (s t : Bool) → (b == 109 || b == 77) ≡ s → (c == 115 || c == 83) ≡ t
        → if◌then◌else◌ {A = Option (ℕ × List ℕ)} (s && t) (Some (1000, bytes)) (if b == 115 || b == 83 then Some (1000000, c ∷ bytes) else None) ≡ Some u → UnitFirst (b ∷ c ∷ bytes) u.0 u.1
    by true true f g h = found_unit (b ∷ c ∷ bytes) (1000, bytes) u h (milliseconds b c bytes f g)
    by true false f g h = seconds_by (b == 115 || b == 83) b (c ∷ bytes) u refl h
    by false t f g h = seconds_by (b == 115 || b == 83) b (c ∷ bytes) u refl h

-- ---- instants

-- the bytes are a word that is a duration of so many microseconds, and what stands behind it, from a blank on
pub record IsInstant (bytes : List ℕ) (t : ℤ) (behind : List ℕ) : Type 0 where
  pub first : ℕ
  pub word : List ℕ
  pub split : bytes ≡ first ∷ (word ++ behind)
  pub first_plain : IsPlain first
  pub plain : ArePlain word
  pub value : duration_value (first ∷ word) ≡ Some t
  pub blank : begins_with_blank behind ≡ true

prefix_is : (b : ℕ) → (b == 84 || b == 116) ≡ true → kind_of_prefix (b ∷ []) ≡ Some kind.Duration
unfolding kind_of_prefix same_word
prefix_is b e = of_either (λ c. kind_of_prefix (c ∷ []) ≡ Some kind.Duration) b 84 116 refl refl e

fits : (n micros : ℕ) → n < 10 ^ 10 → micros ≤ 1000000 → n * micros ≤ greatest
fits n micros lt le =
    let h : n * micros ≤ n * 1000000 = mul-le-mul_left n le in
    omega arith

joined : (b : ℕ) (bytes : List ℕ) (n : ℕ) (rest : List ℕ) (micros : ℕ) (behind : List ℕ) → (b == 84 || b == 116) ≡ true → Figures true 0 bytes n rest → UnitFirst rest micros behind → begins_with_blank behind ≡ true
    → IsInstant (b ∷ 35 ∷ bytes) (pos (n * micros)) behind
joined b bytes n rest micros behind e f u blank = record {
  first = b;
  word = 35 ∷ (f.word ++ u.word);
  split = ap (λ w. b ∷ 35 ∷ w) (f.split ∙ ap (λ w. f.word ++ w) u.split ∙ sym (append_assoc f.word u.word behind));
  first_plain = plain_either b 84 116 (omega arith) (omega arith) e;
  plain = (plain_sharp, plain_append f.word u.word f.plain u.plain);
  value = word_again (lexemes.duration (b ∷ []) false (f.word ++ u.word) (n * micros) (prefix_is b e) (record { parts = u.interval f.word n f.digits; fits = fits n micros f.small u.small }));
  blank = blank;
}

found_instant : (bytes : List ℕ) (x y : ℤ × List ℕ) → Some x ≡ Some y → IsInstant bytes x.0 x.1 → IsInstant bytes y.0 y.1
found_instant bytes x y e i = let same : x ≡ y = cc in subst (λ p. IsInstant bytes p.0 p.1) same i

in_unit_is : (b : ℕ) (bytes : List ℕ) (n : ℕ) (rest : List ℕ) (u : ℕ × List ℕ) (i : ℤ × List ℕ) → (b == 84 || b == 116) ≡ true → Figures true 0 bytes n rest → UnitFirst rest u.0 u.1 → in_unit n u ≡ Some i
    → IsInstant (b ∷ 35 ∷ bytes) i.0 i.1
in_unit_is b bytes n rest u i e f spelled h = by (begins_with_blank u.1) refl h
  where
    by : (s : Bool) → begins_with_blank u.1 ≡ s → if◌then◌else◌ {A = Option (ℤ × List ℕ)} s (Some (pos (n * u.0), u.1)) None ≡ Some i → IsInstant (b ∷ 35 ∷ bytes) i.0 i.1
    by true g h = found_instant (b ∷ 35 ∷ bytes) (pos (n * u.0), u.1) i h (joined b bytes n rest u.0 u.1 e f spelled g)
    by false g h = absurd cc

unit_by : (o : Option (ℕ × List ℕ)) (b : ℕ) (bytes : List ℕ) (n : ℕ) (rest : List ℕ) (i : ℤ × List ℕ) → unit_first rest ≡ o → (b == 84 || b == 116) ≡ true → Figures true 0 bytes n rest → option_and_then (in_unit n) o ≡ Some i
    → IsInstant (b ∷ 35 ∷ bytes) i.0 i.1
unit_by None b bytes n rest i o e f h = absurd cc
unit_by (Some u) b bytes n rest i o e f h = in_unit_is b bytes n rest u i e f (unit_is rest u o) h

number_by : (o : Option (ℕ × List ℕ)) (b : ℕ) (bytes : List ℕ) (i : ℤ × List ℕ) → number_first bytes ≡ o → (b == 84 || b == 116) ≡ true → option_and_then counted o ≡ Some i → IsInstant (b ∷ 35 ∷ bytes) i.0 i.1
number_by None b bytes i o e h = absurd cc
number_by (Some c) b bytes i o e h = unit_by (unit_first c.1) b bytes c.0 c.1 i refl e (number_first_is bytes c.0 c.1 o) h

pub instant_is : (bytes : List ℕ) (i : ℤ × List ℕ) → instant_first bytes ≡ Some i → IsInstant bytes i.0 i.1
instant_is [] i e = absurd cc
instant_is (b ∷ []) i e = absurd cc
instant_is (b ∷ c ∷ bytes) i e = by (b == 84 || b == 116) (c == 35) refl refl e
  where
    by : (s u : Bool) → (b == 84 || b == 116) ≡ s → (c == 35) ≡ u → (if s && u then option_and_then counted (number_first bytes) else None) ≡ Some i → IsInstant (b ∷ c ∷ bytes) i.0 i.1
    by true true f g h = subst (λ k. IsInstant (b ∷ k ∷ bytes) i.0 i.1) (sym (eqb-true c 35 g)) (number_by (number_first bytes) b bytes i refl f h)
    by true false f g h = absurd cc
    by false u f g h = absurd cc
