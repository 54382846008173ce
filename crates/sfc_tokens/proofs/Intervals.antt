-- Durations are what their parts say.
use Rattle.std.proofs.Common.{◌≡◌, ℕ, ◌+◌, ◌*◌, ◌/◌, ◌%◌, Bool, true, false, cond, eqb, List, [], ◌∷◌, ◌&&◌, Option, Some, None, is_some, refl, sym, subst, arith}
use Rattle.std.proofs.lemmas.Bool.{eqb-true}
use Rattle.sfc_base.specs.Numbers.{digit_of}
use Rattle.sfc_base.specs.Durations as durations
use Rattle.sfc_base.specs.Durations.{micros_of, spelling_of, units, IsUnit, Tenths, IsFraction, Interval, greatest, IsInterval}
use Rattle.sfc_tokens.specs.Lexing.Durations.{are_digits, exact_tenth, tenth_more, tenths, fraction}
use Rattle.sfc_tokens.proofs.Digits.{bind_some, digit_apart}

-- ---- fractions

and_true : (p q : Bool) → p && q ≡ true → (p ≡ true) × (q ≡ true)
and_true true q e = (refl, e)
and_true false q e = absurd cc

exact_by : (t : Bool) (n v : ℕ) → eqb (n % 10) 0 ≡ t → cond t (Some (n / 10)) None ≡ Some v → n ≡ v * 10
exact_by true n v h e = let z = eqb-true (n % 10) 0 h in let same : n / 10 ≡ v = cc in omega (arith, z, same)
exact_by false n v h e = absurd cc

exact_sound : (n v : ℕ) → exact_tenth n ≡ Some v → n ≡ v * 10
exact_sound n v e = exact_by (eqb (n % 10) 0) n v refl e

exact_again : (n v : ℕ) → n ≡ v * 10 → exact_tenth n ≡ Some v
exact_again n v e = let z : n % 10 ≡ 0 = omega (arith, e) in let d : n / 10 ≡ v = omega (arith, e) in rw (z, d) refl

-- a digit or an underscore in front of digits
tenths_digit : (unit b d x v : ℕ) (wanted : Bool) (w : List ℕ) → digit_of 10 b ≡ Some d → Tenths unit false w x → tenth_more unit b x ≡ Some v → Tenths unit wanted (b ∷ w) v
tenths_digit unit b d x v wanted w e t more =
    let a = digit_apart 10 b d e in
    let f : exact_tenth (x + d * unit) ≡ Some v = rw (a, e) at more in
    durations.digit e t (exact_sound (x + d * unit) v f)

digit_some : (o : Option ℕ) → is_some o ≡ true → (d : ℕ) × (o ≡ Some d)
digit_some None e = absurd cc
digit_some (Some d) e = (d, refl)

tenths_by : (t : Bool) (unit b x v : ℕ) (w : List ℕ) → eqb b 95 ≡ t → cond t (are_digits true w) (is_some (digit_of 10 b) && are_digits false w) ≡ true → tenth_more unit b x ≡ Some v → (are_digits true w ≡ true → Tenths unit true w x) → (are_digits false w ≡ true → Tenths unit false w x) → Tenths unit false (b ∷ w) v
tenths_by true unit b x v w h all more spaced others =
    let same = eqb-true b 95 h in
    let f : Some x ≡ Some v = rw h at more in
    let is : x ≡ v = cc in
    subst (λ j. Tenths unit false (j ∷ w) v) (sym same) (subst (λ y. Tenths unit false (95 ∷ w) y) is (durations.underscore (spaced all)))
tenths_by false unit b x v w h all more spaced others =
    let a = and_true (is_some (digit_of 10 b)) (are_digits false w) all in
    let d = digit_some (digit_of 10 b) a.0 in
    tenths_digit unit b d.0 x v false w d.1 (others a.1) more

tenths_sound : (unit : ℕ) (wanted : Bool) (w : List ℕ) (v : ℕ) → are_digits wanted w ≡ true → tenths unit 0 w ≡ Some v → Tenths unit wanted w v
unfolding are_digits tenths
tenths_sound unit true [] v all e = absurd cc
tenths_sound unit false [] v all e = let same : 0 ≡ v = cc in subst (λ y. Tenths unit false [] y) same durations.ended
tenths_sound unit true (b ∷ w) v all e =
    let s = bind_some (tenths unit 0 w) (λ x. tenth_more unit b x) v e in
    let a = and_true (is_some (digit_of 10 b)) (are_digits false w) all in
    let d = digit_some (digit_of 10 b) a.0 in
    tenths_digit unit b d.0 s.0 v true w d.1 (tenths_sound unit false w s.0 a.1 s.1) s.2
tenths_sound unit false (b ∷ w) v all e =
    let s = bind_some (tenths unit 0 w) (λ x. tenth_more unit b x) v e in
    tenths_by (eqb b 95) unit b s.0 v w refl all s.2 (λ h. tenths_sound unit true w s.0 h s.1) (λ h. tenths_sound unit false w s.0 h s.1)

digits_hold : {unit v : ℕ} {wanted : Bool} {w : List ℕ} → Tenths unit wanted w v → are_digits wanted w ≡ true
unfolding are_digits
digits_hold durations.ended = refl
digits_hold (durations.digit {wanted = true} e t x) = let h = digits_hold t in rw (e, h) refl
digits_hold (durations.digit {b = b} {d = d} {wanted = false} e t x) = let h = digits_hold t in let a = digit_apart 10 b d e in rw (a, e, h) refl
digits_hold (durations.underscore t) = digits_hold t

tenths_again : {unit v : ℕ} {wanted : Bool} {w : List ℕ} → Tenths unit wanted w v → tenths unit 0 w ≡ Some v
unfolding tenths
tenths_again durations.ended = refl
tenths_again (durations.digit {unit = unit} {b = b} {d = d} {v = v} {n = n} e t x) = let h = tenths_again t in let a = digit_apart 10 b d e in let z = exact_again (v + d * unit) n x in rw (h, a, e, z) refl
tenths_again (durations.underscore t) = let h = tenths_again t in rw h refl

fraction_by : (t : Bool) (unit : ℕ) (w : List ℕ) (v : ℕ) → are_digits true w ≡ t → cond t (tenths unit 0 w) None ≡ Some v → IsFraction unit w v
fraction_by true unit w v h e = tenths_sound unit true w v h e
fraction_by false unit w v h e = absurd cc

pub fraction_sound : (unit : ℕ) (w : List ℕ) (v : ℕ) → fraction unit w ≡ Some v → IsFraction unit w v
fraction_sound unit w v e = fraction_by (are_digits true w) unit w v refl e

pub fraction_again : {unit : ℕ} {w : List ℕ} {v : ℕ} → IsFraction unit w v → fraction unit w ≡ Some v
fraction_again t = let h = digits_hold t in let g = tenths_again t in rw (h, g) refl
