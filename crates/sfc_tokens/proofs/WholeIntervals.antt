-- What is a duration is taken as one.
use Rattle.std.proofs.Common.{◌≡◌, ℕ, ◌+◌, ◌*◌, ◌/◌, ◌<◌, ◌≤◌, Bool, true, false, eqb, ◌&&◌, List, [], ◌∷◌, ◌++◌, Option, Some, refl, sym, ap, subst, ◌∙◌, arith}
use Rattle.std.proofs.lemmas.Bool.{eqb-true, eq-eqb, ne_eqb}
use Rattle.sfc_base.specs.declared.unit.Unit.{Unit as TimeUnit}
use Rattle.sfc_base.specs.declared.unit.Unit.TheVariants.{Day, Hour, Minute, Second, Millisecond}
use Rattle.sfc_base.specs.declared.class.Class.TheVariants as class
use Rattle.sfc_base.specs.Classes.{class_of}
use Rattle.std.specs.Char.{to_ascii_uppercase}
use Rattle.sfc_base.specs.Case.{same_word}
use Rattle.sfc_base.specs.Numbers.{IsInteger}
use Rattle.sfc_base.specs.Durations as durations
use Rattle.sfc_base.specs.Durations.{micros_of, spelling_of, units, IsUnit, IsFraction, Interval, greatest, IsInterval}
use Rattle.sfc_tokens.specs.Lexing.Durations.{Split, split_part, whole, behind, part, is_unit, interval}
use Rattle.sfc_tokens.proofs.Digits.{at_most_again, digits_again, underscore_class}
use Rattle.sfc_tokens.proofs.Intervals.{fraction_again}
use Rattle.sfc_tokens.proofs.Parts.{interval_begins, interval_ends_letters, split_plain, split_whole, split_point}

-- ---- units fall

abbrev rank : TimeUnit → ℕ
rank Day = 5
rank Hour = 4
rank Minute = 3
rank Second = 2
rank Millisecond = 1

abbrev Below : ℕ → List TimeUnit → Type 0
Below k [] = Unit {0}
Below k (u ∷ us) = (rank u < k) × Below k us

abbrev Falling : List TimeUnit → Type 0
Falling [] = Unit {0}
Falling (u ∷ us) = Below (rank u) us × Falling us

-- one text spells one unit
same_second : (t : Bool) (x y z : ℕ) (w v u : List ℕ) → to_ascii_uppercase x ≡ to_ascii_uppercase y → eqb (to_ascii_uppercase x) (to_ascii_uppercase z) ≡ t → same_word w v ≡ true → t && same_word w u ≡ true → (same_word w v ≡ true → same_word w u ≡ true → same_word v u ≡ true) → eqb (to_ascii_uppercase y) (to_ascii_uppercase z) && same_word v u ≡ true
same_second false x y z w v u h g e f more = absurd cc
same_second true x y z w v u h g e f more =
    let s = eq-eqb (to_ascii_uppercase y) (to_ascii_uppercase z) (sym h ∙ eqb-true (to_ascii_uppercase x) (to_ascii_uppercase z) g) in
    let m = more e f in
    rw (s, m) refl

same_first : (t : Bool) (x y z : ℕ) (w v u : List ℕ) → eqb (to_ascii_uppercase x) (to_ascii_uppercase y) ≡ t → t && same_word w v ≡ true → eqb (to_ascii_uppercase x) (to_ascii_uppercase z) && same_word w u ≡ true → (same_word w v ≡ true → same_word w u ≡ true → same_word v u ≡ true) → eqb (to_ascii_uppercase y) (to_ascii_uppercase z) && same_word v u ≡ true
same_first false x y z w v u h e f more = absurd cc
same_first true x y z w v u h e f more = same_second (eqb (to_ascii_uppercase x) (to_ascii_uppercase z)) x y z w v u (eqb-true (to_ascii_uppercase x) (to_ascii_uppercase y) h) refl e f more

both_same : (w v u : List ℕ) → same_word w v ≡ true → same_word w u ≡ true → same_word v u ≡ true
unfolding same_word
both_same [] [] [] e f = refl
both_same [] [] (z ∷ u) e f = absurd cc
both_same [] (y ∷ v) u e f = absurd cc
both_same (x ∷ w) [] u e f = absurd cc
both_same (x ∷ w) (y ∷ v) [] e f = absurd cc
both_same (x ∷ w) (y ∷ v) (z ∷ u) e f = same_first (eqb (to_ascii_uppercase x) (to_ascii_uppercase y)) x y z w v u refl e f (both_same w v u)

one_spelling : (u v : TimeUnit) → same_word (spelling_of u) (spelling_of v) ≡ true → rank u ≡ rank v
unfolding same_word
one_spelling Day Day e = refl
one_spelling Day Hour e = absurd cc
one_spelling Day Minute e = absurd cc
one_spelling Day Second e = absurd cc
one_spelling Day Millisecond e = absurd cc
one_spelling Hour Day e = absurd cc
one_spelling Hour Hour e = refl
one_spelling Hour Minute e = absurd cc
one_spelling Hour Second e = absurd cc
one_spelling Hour Millisecond e = absurd cc
one_spelling Minute Day e = absurd cc
one_spelling Minute Hour e = absurd cc
one_spelling Minute Minute e = refl
one_spelling Minute Second e = absurd cc
one_spelling Minute Millisecond e = absurd cc
one_spelling Second Day e = absurd cc
one_spelling Second Hour e = absurd cc
one_spelling Second Minute e = absurd cc
one_spelling Second Second e = refl
one_spelling Second Millisecond e = absurd cc
one_spelling Millisecond Day e = absurd cc
one_spelling Millisecond Hour e = absurd cc
one_spelling Millisecond Minute e = absurd cc
one_spelling Millisecond Second e = absurd cc
one_spelling Millisecond Millisecond e = refl

one_unit : (u v : TimeUnit) (w : List ℕ) → is_unit u w ≡ true → is_unit v w ≡ true → rank u ≡ rank v
one_unit u v w e f = one_spelling u v (both_same w (spelling_of u) (spelling_of v) e f)

-- ---- the first unit of a duration is among the units

record First (k : ℕ) (w : List ℕ) : Type 0 where
  unit : TimeUnit
  below : rank unit < k
  spelled : is_unit unit (split_part w).2 ≡ true

first_at : (k : ℕ) (u : TimeUnit) (l w : List ℕ) (s : Split) → rank u < k → split_part w ≡ s → s.2 ≡ l → IsUnit u l → First k w
first_at k u l w s lt e f is = let z : (split_part w).2 ≡ l = ap (λ (x : Split). x.2) e ∙ f in record { unit = u; below = lt; spelled = rw z is.spelled }

first_unit : {us : List TimeUnit} {w : List ℕ} {v : ℕ} → Interval us w v → (k : ℕ) → Below k us → First k w
first_unit (durations.skip i) k b = first_unit i k b.1
first_unit (durations.whole {u = u} {w = w} {l = l} {n = n} i is) k b = first_at k u l (w ++ l) (w, [], l, []) b.0 (split_whole w n u l i is) refl is
first_unit (durations.fixed_point {u = u} {w = w} {f = f} {l = l} {n = n} {v = v} i t is) k b = first_at k u l (w ++ 46 ∷ (f ++ l)) (w, 46 ∷ f, l, []) b.0 (split_point w n (micros_of u) v u f l i t is) refl is
first_unit (durations.more {u = u} {w = w} {l = l} {rest = rest} {n = n} i is others) k b = first_at k u l (w ++ (l ++ rest)) (w, [], l, rest) b.0 (split_plain w n u l rest i is (interval_ends_letters others)) refl is
first_unit (durations.spaced {u = u} {w = w} {l = l} {rest = rest} {n = n} i is others) k b = first_at k u l (w ++ (l ++ 95 ∷ rest)) (w, [], l, 95 ∷ rest) b.0 (split_plain w n u l (95 ∷ rest) i is (rw underscore_class refl)) refl is

not_unit_by : (t : Bool) (u : TimeUnit) (w : List ℕ) → is_unit u (split_part w).2 ≡ t → First (rank u) w → t ≡ false
not_unit_by false u w e f = refl
not_unit_by true u w e f = let same = one_unit u f.unit (split_part w).2 e f.spelled in let lt = f.below in absurd (omega (arith, same, lt))

-- ---- parts

share : (u : TimeUnit) (n : ℕ) → n * micros_of u ≤ greatest → n ≤ greatest / micros_of u
share Day n h = omega (arith, h)
share Hour n h = omega (arith, h)
share Minute n h = omega (arith, h)
share Second n h = omega (arith, h)
share Millisecond n h = omega (arith, h)

whole_again : (u : TimeUnit) (w : List ℕ) (n : ℕ) → IsInteger 10 w n → n * micros_of u ≤ greatest → whole u w ≡ Some (n * micros_of u)
whole_again u w n i h = let e = digits_again i (greatest / micros_of u) (omega arith) (share u n h) in rw e refl

part_again : (u : TimeUnit) (number f l rest : List ℕ) (n x : ℕ) (further : List ℕ → Option ℕ) → IsInteger 10 number n → behind u f rest further ≡ Some x → n * micros_of u + x ≤ greatest → part u (number, f, l, rest) further ≡ Some (n * micros_of u + x)
part_again u number f l rest n x further i e le =
    let w = whole_again u number n i (omega (arith, le)) in
    let a = at_most_again greatest (n * micros_of u + x) le in
    rw (w, e, a) refl

taken_again : (u : TimeUnit) (us : List TimeUnit) (w l : List ℕ) (s : Split) (v : ℕ) → split_part w ≡ s → s.2 ≡ l → IsUnit u l → part u s (interval us) ≡ Some v → interval (u ∷ us) w ≡ Some v
unfolding interval
taken_again u us w l s v e f is p = let g : is_unit u s.2 ≡ true = rw f is.spelled in rw (e, g) p

skipped : (u : TimeUnit) (us : List TimeUnit) (w : List ℕ) (v : ℕ) → is_unit u (split_part w).2 ≡ false → interval us w ≡ Some v → interval (u ∷ us) w ≡ Some v
unfolding interval
skipped u us w v e h = rw e h

unspaced_digit : (b : ℕ) (r : List ℕ) → class_of b ≡ class.Digit → eqb b 95 ≡ false
unspaced_digit b r e = ne_eqb b 95 (λ h. let f : class_of 95 ≡ class.Digit = subst (λ j. class_of j ≡ class.Digit) h e in let g = underscore_class in absurd cc)

behind_more : {us : List TimeUnit} {rest : List ℕ} {x : ℕ} (u : TimeUnit) (further : List ℕ → Option ℕ) → Interval us rest x → further rest ≡ Some x → behind u [] rest further ≡ Some x
behind_more {rest = rest} {x = x} u further i e =
    let b = interval_begins i in
    let P : List ℕ → Type 0 = λ r. behind u [] r further ≡ Some x in
    let g = unspaced_digit b.head b.tail b.holds in
    let h : further (b.head ∷ b.tail) ≡ Some x = subst (λ (r : List ℕ). further r ≡ Some x) b.is e in
    subst P (sym b.is) (rw g h)

pub interval_again : {us : List TimeUnit} {w : List ℕ} {v : ℕ} → Interval us w v → Falling us → v ≤ greatest → interval us w ≡ Some v
interval_again (durations.skip {u = u} {us = us} {w = w} {v = v} i) falls le =
    skipped u us w v (not_unit_by (is_unit u (split_part w).2) u w refl (first_unit i (rank u) falls.0)) (interval_again i falls.1 le)
interval_again (durations.whole {u = u} {us = us} {w = w} {l = l} {n = n} i is) falls le =
    let sum : n * micros_of u + 0 ≡ n * micros_of u = omega arith in
    taken_again u us (w ++ l) l (w, [], l, []) (n * micros_of u) (split_whole w n u l i is) refl is (part_again u w [] l [] n 0 (interval us) i refl (omega (arith, le)) ∙ ap (λ (y : ℕ). Some y) sum)
interval_again (durations.fixed_point {u = u} {us = us} {w = w} {f = f} {l = l} {n = n} {v = v} i t is) falls le =
    taken_again u us (w ++ 46 ∷ (f ++ l)) l (w, 46 ∷ f, l, []) (n * micros_of u + v) (split_point w n (micros_of u) v u f l i t is) refl is (part_again u w (46 ∷ f) l [] n v (interval us) i (fraction_again t) le)
interval_again (durations.more {u = u} {us = us} {w = w} {l = l} {rest = rest} {n = n} {v = v} i is others) falls le =
    taken_again u us (w ++ (l ++ rest)) l (w, [], l, rest) (n * micros_of u + v) (split_plain w n u l rest i is (interval_ends_letters others)) refl is (part_again u w [] l rest n v (interval us) i (behind_more u (interval us) others (interval_again others falls.1 (omega (arith, le)))) le)
interval_again (durations.spaced {u = u} {us = us} {w = w} {l = l} {rest = rest} {n = n} {v = v} i is others) falls le =
    taken_again u us (w ++ (l ++ 95 ∷ rest)) l (w, [], l, 95 ∷ rest) (n * micros_of u + v) (split_plain w n u l (95 ∷ rest) i is (rw underscore_class refl)) refl is (part_again u w [] l (95 ∷ rest) n v (interval us) i (interval_again others falls.1 (omega (arith, le))) le)

units_fall : Falling units
units_fall = ((omega arith, (omega arith, (omega arith, (omega arith, tt)))), ((omega arith, (omega arith, (omega arith, tt))), ((omega arith, (omega arith, tt)), ((omega arith, tt), (tt, tt)))))

pub duration_again : (w : List ℕ) (v : ℕ) → IsInterval w v → interval units w ≡ Some v
duration_again w v i = interval_again i.parts units_fall i.fits
