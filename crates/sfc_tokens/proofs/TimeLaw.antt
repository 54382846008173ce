-- The TIME text of a value is a duration of that value.
use Rattle.std.proofs.Common.{◌≡◌, ℕ, ℤ, pos, negsuc, unsigned_abs, zero, suc, ◌+◌, ◌*◌, ◌/◌, ◌%◌, ◌^◌, ◌<◌, ◌≤◌, Bool, true, false, cond, eqb, List, [], ◌∷◌, ◌++◌, Some, refl, sym, ap, subst, ◌∙◌, arith, codes, append_assoc}
use Rattle.std.proofs.lemmas.Bool.{eqb-true, eqb-false, ne_eqb}
use Rattle.std.proofs.lemmas.Bool.Decides.{nat_tests}
use Rattle.std.proofs.lemmas.List.{append-nil}
use Rattle.std.proofs.lemmas.Fmt.{decimal_by_steps}
use Rattle.std.specs.Fmt.{decimal}
use Rattle.sfc_base.specs.declared.unit.Unit.{Unit as TimeUnit}
use Rattle.sfc_base.specs.declared.unit.Unit.TheVariants.{Day, Hour, Minute, Second, Millisecond}
use Rattle.sfc_tokens.specs.declared.literal.LiteralKind.TheVariants as kind
use Rattle.sfc_base.specs.Classes.{class_of}
use Rattle.sfc_base.specs.Case.{same_word}
use Rattle.sfc_base.specs.Numbers as numbers
use Rattle.sfc_base.specs.Numbers.{digit_of, Digits, IsInteger}
use Rattle.sfc_base.specs.Durations as durations
use Rattle.sfc_base.specs.Durations.{micros_of, spelling_of, units, IsUnit, Tenths, IsFraction, Interval, greatest, IsInterval}
use Rattle.sfc_tokens.specs.Literals.{kind_of_prefix}
use Rattle.sfc_tokens.specs.Lexemes as lexemes
use Rattle.sfc_tokens.specs.Lexemes.{IsDuration}
use Rattle.sfc_base.specs.TimeText.{digit, thousandths, milliseconds_text, parts_text, above_milliseconds, magnitude_text, time_text}

positive : (n : ℕ) → (n ≡ 0 → ⊥) → 0 < n
positive zero h = absurd (h refl)
positive (suc n) h = omega arith

-- ---- decimal digits

digit_is : (d : ℕ) → d < 10 → digit_of 10 (48 + d) ≡ Some d
digit_is d h = grind (arith, nat_tests)

digits_push : {base k m : ℕ} {wanted : Bool} {w : List ℕ} → Digits base wanted k w m → (b d : ℕ) → digit_of base b ≡ Some d → Digits base wanted k (w ++ b ∷ []) (m * base + d)
digits_push numbers.ended b d e = numbers.digit e numbers.ended
digits_push (numbers.digit f s) b d e = numbers.digit f (digits_push s b d e)
digits_push (numbers.underscore s) b d e = numbers.underscore (digits_push s b d e)

one_digit : (n : ℕ) → n < 10 → IsInteger 10 ((48 + n) ∷ []) n
one_digit n h = let e = digit_is n h in let z : 0 * 10 + n ≡ n = omega arith in numbers.digit e (subst (λ k. Digits 10 false k [] n) (sym z) numbers.ended)

more_digits : (n : ℕ) (ds : List ℕ) → 10 ≤ n → IsInteger 10 ds (n / 10) → IsInteger 10 (ds ++ ((48 + n % 10) ∷ [])) n
more_digits n ds h i =
    let p = digits_push i (48 + n % 10) (n % 10) (digit_is (n % 10) (omega arith)) in
    let z : n / 10 * 10 + n % 10 ≡ n = omega arith in
    subst (λ m. IsInteger 10 (ds ++ ((48 + n % 10) ∷ [])) m) z p

pub decimal_integer : (n : ℕ) → n < 2 ^ 64 → IsInteger 10 (decimal n) n
decimal_integer n lt = decimal_by_steps (λ m ds. IsInteger 10 ds m) one_digit more_digits n lt

-- ---- units

unit_is : (u : TimeUnit) → IsUnit u (spelling_of u)
unfolding class_of same_word
unit_is Day = record { letters = (refl, tt); spelled = refl }
unit_is Hour = record { letters = (refl, tt); spelled = refl }
unit_is Minute = record { letters = (refl, tt); spelled = refl }
unit_is Second = record { letters = (refl, tt); spelled = refl }
unit_is Millisecond = record { letters = (refl, (refl, tt)); spelled = refl }

-- ---- milliseconds

one_tenth : (a : ℕ) → a < 10 → IsFraction 1000 (digit a ∷ []) (a * 100)
one_tenth a h = durations.digit (digit_is a h) durations.ended (omega arith)

two_tenths : (a b : ℕ) → a < 10 → b < 10 → IsFraction 1000 (digit a ∷ digit b ∷ []) (a * 100 + b * 10)
two_tenths a b h g = durations.digit {v = b * 100} (digit_is a h) (durations.digit (digit_is b g) durations.ended (omega arith)) (omega arith)

three_tenths : (a b c : ℕ) → a < 10 → b < 10 → c < 10 → IsFraction 1000 (digit a ∷ digit b ∷ digit c ∷ []) (a * 100 + b * 10 + c)
three_tenths a b c h g f = durations.digit {v = b * 100 + c * 10} (digit_is a h) (durations.digit {v = c * 100} (digit_is b g) (durations.digit (digit_is c f) durations.ended (omega arith)) (omega arith)) (omega arith)

pointed : (w f : List ℕ) (n x v : ℕ) → IsInteger 10 w n → IsFraction 1000 f x → n * 1000 + x ≡ v → Interval (Millisecond ∷ []) (w ++ 46 ∷ (f ++ codes "ms")) v
pointed w f n x v i t e = subst (λ y. Interval (Millisecond ∷ []) (w ++ 46 ∷ (f ++ codes "ms")) y) e (durations.fixed_point i t (unit_is Millisecond))

thousandths_by : (s t u : Bool) (w : List ℕ) (n r : ℕ) → eqb r 0 ≡ s → eqb (r % 100) 0 ≡ t → eqb (r % 10) 0 ≡ u → r < 1000 → IsInteger 10 w n → Interval (Millisecond ∷ []) (w ++ cond s (codes "ms") (cond t (46 ∷ digit (r / 100) ∷ codes "ms") (cond u (46 ∷ digit (r / 100) ∷ digit (r / 10 % 10) ∷ codes "ms") (46 ∷ digit (r / 100) ∷ digit (r / 10 % 10) ∷ digit (r % 10) ∷ codes "ms")))) (n * 1000 + r)
thousandths_by true t u w n r e f g lt i = let z = eqb-true r 0 e in let s : n * 1000 ≡ n * 1000 + r = omega (arith, z) in subst (λ y. Interval (Millisecond ∷ []) (w ++ codes "ms") y) s (durations.whole i (unit_is Millisecond))
thousandths_by false true u w n r e f g lt i = let z = eqb-true (r % 100) 0 f in pointed w (digit (r / 100) ∷ []) n (r / 100 * 100) (n * 1000 + r) i (one_tenth (r / 100) (omega (arith, lt))) (omega (arith, z))
thousandths_by false false true w n r e f g lt i = let z = eqb-true (r % 10) 0 g in pointed w (digit (r / 100) ∷ digit (r / 10 % 10) ∷ []) n (r / 100 * 100 + r / 10 % 10 * 10) (n * 1000 + r) i (two_tenths (r / 100) (r / 10 % 10) (omega (arith, lt)) (omega arith)) (omega (arith, z))
thousandths_by false false false w n r e f g lt i = pointed w (digit (r / 100) ∷ digit (r / 10 % 10) ∷ digit (r % 10) ∷ []) n (r / 100 * 100 + r / 10 % 10 * 10 + r % 10) (n * 1000 + r) i (three_tenths (r / 100) (r / 10 % 10) (r % 10) (omega (arith, lt)) (omega arith) (omega arith)) (omega arith)

milliseconds_is : (v : ℕ) → 0 < v → v < 2 ^ 64 → Interval (Millisecond ∷ []) (milliseconds_text v) v
milliseconds_is v some lt =
    let nz = ne_eqb v 0 (λ e. absurd (omega (arith, e, some))) in
    let i = decimal_integer (v / 1000) (omega (arith, lt)) in
    let t = thousandths_by (eqb (v % 1000) 0) (eqb (v % 1000 % 100) 0) (eqb (v % 1000 % 10) 0) (decimal (v / 1000)) (v / 1000) (v % 1000) refl refl refl (omega arith) i in
    let z : v / 1000 * 1000 + v % 1000 ≡ v = omega arith in
    rw nz (subst (λ y. Interval (Millisecond ∷ []) (decimal (v / 1000) ++ thousandths (v % 1000)) y) z t)

-- ---- parts

nothing_left : (us : List TimeUnit) → parts_text us 0 ≡ []
unfolding parts_text
nothing_left [] = refl
nothing_left (Day ∷ us) = nothing_left us
nothing_left (Hour ∷ us) = nothing_left us
nothing_left (Minute ∷ us) = nothing_left us
nothing_left (Second ∷ us) = nothing_left us
nothing_left (Millisecond ∷ us) = nothing_left us

abbrev all_of : List TimeUnit → List TimeUnit
all_of [] = Millisecond ∷ []
all_of (u ∷ us) = u ∷ all_of us

none_of : (u : TimeUnit) → 0 * micros_of u ≡ 0
none_of Day = refl
none_of Hour = refl
none_of Minute = refl
none_of Second = refl
none_of Millisecond = refl

-- one unit: v is count of them and what is left
unit_part : (s t : Bool) (u : TimeUnit) (us : List TimeUnit) (v count left : ℕ) → eqb count 0 ≡ s → eqb left 0 ≡ t → v ≡ count * micros_of u + left → count < 2 ^ 64 → 0 < v → (0 < left → Interval (all_of us) (parts_text us left) left) → Interval (u ∷ all_of us) (cond s [] (decimal count ++ (spelling_of u ++ cond t [] (95 ∷ []))) ++ parts_text us left) v
unit_part true t u us v count left e f is lt some others =
    let z = eqb-true count 0 e in
    let m : count * micros_of u ≡ 0 = ap (λ (x : ℕ). x * micros_of u) z ∙ none_of u in
    let same : left ≡ v = omega (arith, m, is) in
    subst (λ y. Interval (u ∷ all_of us) (parts_text us left) y) same (durations.skip (others (omega (arith, same, some))))
unit_part false true u us v count left e f is lt some others =
    let z = eqb-true left 0 f in
    let n : parts_text us left ≡ [] = ap (parts_text us) z ∙ nothing_left us in
    let same : count * micros_of u ≡ v = omega (arith, z, is) in
    let text : decimal count ++ spelling_of u ≡ (decimal count ++ (spelling_of u ++ [])) ++ parts_text us left = ap (λ (x : List ℕ). decimal count ++ x) (sym (append-nil (spelling_of u))) ∙ sym (append-nil (decimal count ++ (spelling_of u ++ []))) ∙ ap (λ (x : List ℕ). (decimal count ++ (spelling_of u ++ [])) ++ x) (sym n) in
    subst (λ (x : List ℕ). Interval (u ∷ all_of us) x v) text (subst (λ y. Interval (u ∷ all_of us) (decimal count ++ spelling_of u) y) same (durations.whole (decimal_integer count lt) (unit_is u)))
unit_part false false u us v count left e f is lt some others =
    let nz = eqb-false left 0 f in
    let rest = others (positive left nz) in
    let text : decimal count ++ (spelling_of u ++ 95 ∷ parts_text us left) ≡ (decimal count ++ (spelling_of u ++ 95 ∷ [])) ++ parts_text us left = ap (λ (x : List ℕ). decimal count ++ x) (sym (append_assoc (spelling_of u) (95 ∷ []) (parts_text us left))) ∙ sym (append_assoc (decimal count) (spelling_of u ++ 95 ∷ []) (parts_text us left)) in
    subst (λ (x : List ℕ). Interval (u ∷ all_of us) x v) text (subst (λ y. Interval (u ∷ all_of us) (decimal count ++ (spelling_of u ++ 95 ∷ parts_text us left)) y) (sym is) (durations.spaced (decimal_integer count lt) (unit_is u) rest))

division : (u : TimeUnit) (v : ℕ) → v ≡ v / micros_of u * micros_of u + v % micros_of u
division Day v = omega arith
division Hour v = omega arith
division Minute v = omega arith
division Second v = omega arith
division Millisecond v = omega arith

small : (u : TimeUnit) (v : ℕ) → v < 2 ^ 64 → (v / micros_of u < 2 ^ 64) × (v % micros_of u < 2 ^ 64)
small Day v lt = (omega (arith, lt), omega (arith, lt))
small Hour v lt = (omega (arith, lt), omega (arith, lt))
small Minute v lt = (omega (arith, lt), omega (arith, lt))
small Second v lt = (omega (arith, lt), omega (arith, lt))
small Millisecond v lt = (omega (arith, lt), omega (arith, lt))

parts_is : (us : List TimeUnit) (v : ℕ) → 0 < v → v < 2 ^ 64 → Interval (all_of us) (parts_text us v) v
unfolding parts_text
parts_is [] v some lt = milliseconds_is v some lt
parts_is (u ∷ us) v some lt =
    let s = small u v lt in
    unit_part (eqb (v / micros_of u) 0) (eqb (v % micros_of u) 0) u us v (v / micros_of u) (v % micros_of u) refl refl (division u v) s.0 some (λ left. parts_is us (v % micros_of u) left s.1)

-- ---- the whole text

zero_is : Interval units (codes "0s") 0
zero_is = durations.skip (durations.skip (durations.skip (durations.whole {w = 48 ∷ []} {l = codes "s"} {n = 0} (one_digit 0 (omega arith)) (unit_is Second))))

magnitude_by : (t : Bool) (v : ℕ) → eqb v 0 ≡ t → v < 2 ^ 64 → Interval units (cond t (codes "0s") (parts_text above_milliseconds v)) v
magnitude_by true v e lt = let z = eqb-true v 0 e in subst (λ y. Interval units (codes "0s") y) (sym z) zero_is
magnitude_by false v e lt = parts_is above_milliseconds v (positive v (eqb-false v 0 e)) lt

magnitude_is : (v : ℕ) → v ≤ greatest → IsInterval (magnitude_text v) v
magnitude_is v le = record { parts = magnitude_by (eqb v 0) v refl (omega (arith, le)); fits = le }

prefix_is : kind_of_prefix (codes "T") ≡ Some kind.Duration
unfolding kind_of_prefix same_word
prefix_is = refl

pub time_is : (z : ℤ) → unsigned_abs z ≤ greatest → IsDuration (time_text z) z
time_is (pos n) le = lexemes.duration (codes "T") false (magnitude_text n) n prefix_is (magnitude_is n le)
time_is (negsuc n) le = lexemes.duration (codes "T") true (magnitude_text (suc n)) (suc n) prefix_is (magnitude_is (suc n) le)
