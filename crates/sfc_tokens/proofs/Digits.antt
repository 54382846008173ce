-- Integers are what their digits spell.
use Rattle.std.proofs.Common.{◌≡◌, ℕ, ◌+◌, ◌-◌, ◌*◌, ◌^◌, ◌<◌, ◌≤◌, Bool, true, false, cond, eqb, leb, List, [], ◌∷◌, ◌++◌, Option, Some, None, refl, sym, subst, arith, codes}
use Rattle.std.proofs.lemmas.Bool.{eqb-true, leb-true}
use Rattle.std.proofs.lemmas.Bool.Decides.{nat_tests}
use Rattle.std.proofs.Math.Nat.{mul-le-mul_left}
use Rattle.sfc_base.specs.declared.class.Class.TheVariants as class
use Rattle.sfc_base.specs.declared.run.Alphabet.TheVariants.{Figures}
use Rattle.sfc_base.specs.Classes.{between, class_of}
use Rattle.sfc_base.specs.Runs.{is_in, has, AllIn}
use Rattle.sfc_base.specs.Numbers as numbers
use Rattle.sfc_base.specs.Numbers.{below, digit_of, Digits, IsInteger, IsBased}
use Rattle.sfc_tokens.specs.Lexing.Integers.{◌>>=◌, at_most, one_more, digits, integer, after, or_else, with_base, base_at}
use Rattle.sfc_tokens.specs.Literals as literals
use Rattle.sfc_tokens.specs.Literals.{Magnitude}
use Rattle.sfc_tokens.specs.Lexing.Literals.{limit, magnitude_at, magnitude}

pub bind_some : {A B : Type 0} (o : Option A) (f : A → Option B) (y : B) → (o >>= f) ≡ Some y → (x : A) × (o ≡ Some x) × (f x ≡ Some y)
bind_some None f y e = absurd cc
bind_some (Some x) f y e = (x, refl, e)

at_most_by : (t : Bool) (limit n m : ℕ) → leb n limit ≡ t → cond t (Some n) None ≡ Some m → (n ≡ m) × (m ≤ limit)
at_most_by true limit n m h e = let same : n ≡ m = cc in let le = leb-true n limit h in (same, omega (arith, le, same))
at_most_by false limit n m h e = absurd cc

pub at_most_some : (limit n m : ℕ) → at_most limit n ≡ Some m → (n ≡ m) × (m ≤ limit)
at_most_some limit n m e = at_most_by (leb n limit) limit n m refl e

pub at_most_again : (limit n : ℕ) → n ≤ limit → at_most limit n ≡ Some n
at_most_again limit n h = grind (arith, nat_tests)

-- ---- digits

not_by : (t : Bool) (base b d : ℕ) → eqb b 95 ≡ t → digit_of base b ≡ Some d → t ≡ false
not_by false base b d h e = refl
not_by true base b d h e =
    let same = eqb-true b 95 h in
    let none : digit_of base 95 ≡ Some d = subst (λ j. digit_of base j ≡ Some d) same e in
    absurd cc

-- an underscore is no digit
pub digit_apart : (base b d : ℕ) → digit_of base b ≡ Some d → eqb b 95 ≡ false
digit_apart base b d e = not_by (eqb b 95) base b d refl e

one_more_some : (base limit n b m : ℕ) → one_more base limit n b ≡ Some m → (d : ℕ) × (digit_of base b ≡ Some d) × (n * base + d ≡ m) × (m ≤ limit)
one_more_some base limit n b m e =
    let s = bind_some (digit_of base b) (λ d. at_most limit (n * base + d)) m e in
    let a = at_most_some limit (n * base + s.0) m s.2 in
    (s.0, s.1, a.0, a.1)

pub record Spelled (base limit : ℕ) (wanted : Bool) (n : ℕ) (w : List ℕ) (m : ℕ) : Type 0 where
  pub digits : Digits base wanted n w m
  pub fits : m ≤ limit

spelled_digit : (base limit : ℕ) (wanted : Bool) (n b : ℕ) (w : List ℕ) (m : ℕ) → (one_more base limit n b >>= λ k. digits base limit false k w) ≡ Some m → ((k : ℕ) → k ≤ limit → digits base limit false k w ≡ Some m → Spelled base limit false k w m) → Spelled base limit wanted n (b ∷ w) m
spelled_digit base limit wanted n b w m e more =
    let s = bind_some (one_more base limit n b) (λ k. digits base limit false k w) m e in
    let o = one_more_some base limit n b s.0 s.1 in
    let r = more s.0 o.3 s.2 in
    record { digits = numbers.digit o.1 (subst (λ k. Digits base false k w m) (sym o.2) r.digits); fits = r.fits }

spelled_by : (t : Bool) (base limit n b : ℕ) (w : List ℕ) (m : ℕ) → n ≤ limit → eqb b 95 ≡ t → cond t (digits base limit true n w) (one_more base limit n b >>= λ k. digits base limit false k w) ≡ Some m → (digits base limit true n w ≡ Some m → Spelled base limit true n w m) → ((k : ℕ) → k ≤ limit → digits base limit false k w ≡ Some m → Spelled base limit false k w m) → Spelled base limit false n (b ∷ w) m
spelled_by true base limit n b w m le h e spaced more =
    let s = spaced e in
    let same = eqb-true b 95 h in
    subst (λ j. Spelled base limit false n (j ∷ w) m) (sym same) (record { digits = numbers.underscore s.digits; fits = s.fits })
spelled_by false base limit n b w m le h e spaced more = spelled_digit base limit false n b w m e more

pub digits_sound : (base limit : ℕ) (wanted : Bool) (n : ℕ) (w : List ℕ) (m : ℕ) → n ≤ limit → digits base limit wanted n w ≡ Some m → Spelled base limit wanted n w m
unfolding digits
digits_sound base limit true n [] m le e = absurd cc
digits_sound base limit false n [] m le e = let same : n ≡ m = cc in record { digits = subst (λ k. Digits base false n [] k) same numbers.ended; fits = omega (arith, same, le) }
digits_sound base limit true n (b ∷ w) m le e = spelled_digit base limit true n b w m e (λ k h g. digits_sound base limit false k w m h g)
digits_sound base limit false n (b ∷ w) m le e = spelled_by (eqb b 95) base limit n b w m le refl e (λ g. digits_sound base limit true n w m le g) (λ k h g. digits_sound base limit false k w m h g)

grows : (base n : ℕ) → 0 < base → n ≤ n * base
grows base n h = let p : n * 1 ≤ n * base = mul-le-mul_left n h in omega (arith, p)

pub Digits-grows : {base n m : ℕ} {wanted : Bool} {w : List ℕ} → Digits base wanted n w m → 0 < base → n ≤ m
Digits-grows numbers.ended h = omega arith
Digits-grows (numbers.digit {base = base} {n = n} e s) h = let i = Digits-grows s h in let g = grows base n h in omega (arith, i, g)
Digits-grows (numbers.underscore s) h = Digits-grows s h

digit_again : (base limit n b d : ℕ) (w : List ℕ) (m : ℕ) → digit_of base b ≡ Some d → n * base + d ≤ limit → digits base limit false (n * base + d) w ≡ Some m → (one_more base limit n b >>= λ k. digits base limit false k w) ≡ Some m
digit_again base limit n b d w m e le s =
    let a = at_most_again limit (n * base + d) le in
    rw (e, a) s

pub digits_again : {base n m : ℕ} {wanted : Bool} {w : List ℕ} → Digits base wanted n w m → (limit : ℕ) → 0 < base → m ≤ limit → digits base limit wanted n w ≡ Some m
unfolding digits
digits_again numbers.ended limit h le = refl
digits_again (numbers.digit {base = base} {n = n} {b = b} {d = d} {m = m} {wanted = true} {w = w} e s) limit h le =
    let g = Digits-grows s h in
    digit_again base limit n b d w m e (omega (arith, g, le)) (digits_again s limit h le)
digits_again (numbers.digit {base = base} {n = n} {b = b} {d = d} {m = m} {wanted = false} {w = w} e s) limit h le =
    let g = Digits-grows s h in
    let apart = digit_apart base b d e in
    rw apart (digit_again base limit n b d w m e (omega (arith, g, le)) (digits_again s limit h le))
digits_again (numbers.underscore s) limit h le = digits_again s limit h le

pub integer_sound : (base limit : ℕ) (w : List ℕ) (m : ℕ) → integer base limit w ≡ Some m → Spelled base limit true 0 w m
integer_sound base limit w m e = digits_sound base limit true 0 w m (omega arith) e

-- ---- based integers

after_by : (t : Bool) (p : ℕ) (ps : List ℕ) (b : ℕ) (w rest : List ℕ) → eqb p b ≡ t → cond t (after ps w) None ≡ Some rest → (after ps w ≡ Some rest → w ≡ ps ++ rest) → b ∷ w ≡ p ∷ (ps ++ rest)
after_by true p ps b w rest h e more = let same = eqb-true p b h in let tail = more e in rw (same, tail) refl
after_by false p ps b w rest h e more = absurd cc

pub after_some : (front w rest : List ℕ) → after front w ≡ Some rest → w ≡ front ++ rest
unfolding after
after_some [] w rest e = cc
after_some (p ∷ ps) [] rest e = absurd cc
after_some (p ∷ ps) (b ∷ w) rest e = after_by (eqb p b) p ps b w rest refl e (after_some ps w rest)

or_else_by : {A P : Type 0} (o q : Option A) (x : A) → or_else o q ≡ Some x → (o ≡ Some x → P) → (q ≡ Some x → P) → P
or_else_by None q x e f g = g e
or_else_by (Some y) q x e f g = f e

with_base_some : (base : ℕ) (o : Option (List ℕ)) (x : ℕ × List ℕ) → with_base base o ≡ Some x → (o ≡ Some x.1) × (base ≡ x.0)
with_base_some base None x e = absurd cc
with_base_some base (Some w) x e = let same : (base, w) ≡ x = cc in (cc, cc)

record BaseSound (w : List ℕ) (x : ℕ × List ℕ) : Type 0 where
  positive : 0 < x.0
  based : (n : ℕ) → IsInteger x.0 x.1 n → IsBased w n

binary_sound : (w : List ℕ) (x : ℕ × List ℕ) → with_base 2 (after (codes "2#") w) ≡ Some x → BaseSound w x
binary_sound w x e =
    let s = with_base_some 2 (after (codes "2#") w) x e in
    let a = after_some (codes "2#") w x.1 s.0 in
    record { positive = omega (arith, s.1); based = λ n i. subst (λ y. IsBased y n) (sym a) (numbers.binary (subst (λ b. IsInteger b x.1 n) (sym s.1) i)) }

octal_sound : (w : List ℕ) (x : ℕ × List ℕ) → with_base 8 (after (codes "8#") w) ≡ Some x → BaseSound w x
octal_sound w x e =
    let s = with_base_some 8 (after (codes "8#") w) x e in
    let a = after_some (codes "8#") w x.1 s.0 in
    record { positive = omega (arith, s.1); based = λ n i. subst (λ y. IsBased y n) (sym a) (numbers.octal (subst (λ b. IsInteger b x.1 n) (sym s.1) i)) }

hexadecimal_sound : (w : List ℕ) (x : ℕ × List ℕ) → with_base 16 (after (codes "16#") w) ≡ Some x → BaseSound w x
hexadecimal_sound w x e =
    let s = with_base_some 16 (after (codes "16#") w) x e in
    let a = after_some (codes "16#") w x.1 s.0 in
    record { positive = omega (arith, s.1); based = λ n i. subst (λ y. IsBased y n) (sym a) (numbers.hexadecimal (subst (λ b. IsInteger b x.1 n) (sym s.1) i)) }

base_sound : (w : List ℕ) (x : ℕ × List ℕ) → base_at w ≡ Some x → BaseSound w x
unfolding base_at
base_sound w x e =
    or_else_by (with_base 2 (after (codes "2#") w)) (or_else (with_base 8 (after (codes "8#") w)) (with_base 16 (after (codes "16#") w))) x e (binary_sound w x)
    (λ f. or_else_by (with_base 8 (after (codes "8#") w)) (with_base 16 (after (codes "16#") w)) x f (octal_sound w x) (hexadecimal_sound w x))

-- a based integer has its base in front of digits
record BaseAgain (w : List ℕ) (n : ℕ) : Type 0 where
  base : ℕ
  digits : List ℕ
  found : base_at w ≡ Some (base, digits)
  positive : 0 < base
  integer : IsInteger base digits n

base_again : {w : List ℕ} {n : ℕ} → IsBased w n → BaseAgain w n
unfolding base_at after
base_again (numbers.binary {w = w} i) = record { base = 2; digits = w; found = refl; positive = omega arith; integer = i }
base_again (numbers.octal {w = w} i) = record { base = 8; digits = w; found = refl; positive = omega arith; integer = i }
base_again (numbers.hexadecimal {w = w} i) = record { base = 16; digits = w; found = refl; positive = omega arith; integer = i }

-- ---- decimal digits are figures

between_true : (low high b : ℕ) → between low high b ≡ true → (low ≤ b) × (b ≤ high)
between_true low high b e = grind (arith, nat_tests)

digit_class : (b : ℕ) → 48 ≤ b → b ≤ 57 → class_of b ≡ class.Digit
unfolding class_of
digit_class b low high = grind (arith, nat_tests)

below_ten : (d m : ℕ) → below 10 d ≡ Some m → d < 10
below_ten d m e = grind (arith, nat_tests)

decimal_by : (t u v : Bool) (b d : ℕ) → between 48 57 b ≡ t → between 65 70 b ≡ u → between 97 102 b ≡ v → cond t (below 10 (b - 48)) (cond u (below 10 (b - 55)) (cond v (below 10 (b - 87)) None)) ≡ Some d → class_of b ≡ class.Digit
decimal_by true u v b d p q r e = let h = between_true 48 57 b p in digit_class b h.0 h.1
decimal_by false true v b d p q r e = let h = between_true 65 70 b q in let lt = below_ten (b - 55) d e in absurd (omega (arith, h.0, lt))
decimal_by false false true b d p q r e = let h = between_true 97 102 b r in let lt = below_ten (b - 87) d e in absurd (omega (arith, h.0, lt))
decimal_by false false false b d p q r e = absurd cc

pub decimal_class : (b d : ℕ) → digit_of 10 b ≡ Some d → class_of b ≡ class.Digit
decimal_class b d e = decimal_by (between 48 57 b) (between 65 70 b) (between 97 102 b) b d refl refl refl e

bounds_by : (t u v : Bool) (b d : ℕ) → between 48 57 b ≡ t → between 65 70 b ≡ u → between 97 102 b ≡ v → cond t (below 10 (b - 48)) (cond u (below 10 (b - 55)) (cond v (below 10 (b - 87)) None)) ≡ Some d → (48 ≤ b) × (b ≤ 57)
bounds_by true u v b d p q r e = between_true 48 57 b p
bounds_by false true v b d p q r e = let h = between_true 65 70 b q in let lt = below_ten (b - 55) d e in absurd (omega (arith, h.0, lt))
bounds_by false false true b d p q r e = let h = between_true 97 102 b r in let lt = below_ten (b - 87) d e in absurd (omega (arith, h.0, lt))
bounds_by false false false b d p q r e = absurd cc

pub decimal_bounds : (b d : ℕ) → digit_of 10 b ≡ Some d → (48 ≤ b) × (b ≤ 57)
decimal_bounds b d e = bounds_by (between 48 57 b) (between 65 70 b) (between 97 102 b) b d refl refl refl e

pub underscore_class : class_of 95 ≡ class.Underscore
unfolding class_of
underscore_class = refl

pub sharp_class : class_of 35 ≡ class.Sharp
unfolding class_of
sharp_class = refl

pub figures : {n m : ℕ} {wanted : Bool} {w : List ℕ} → Digits 10 wanted n w m → AllIn Figures w
figures numbers.ended = tt
figures (numbers.digit {b = b} {d = d} e s) = (rw (decimal_class b d e) refl, figures s)
figures (numbers.underscore s) = (rw underscore_class refl, figures s)

sharp_out : (w : List ℕ) → has Figures 35 ≡ true → ⊥
sharp_out w e = let f : is_in Figures class.Sharp ≡ true = rw sharp_class at e in absurd cc

-- decimal digits have no base in front
no_base : (w : List ℕ) (n : ℕ) (x : ℕ × List ℕ) → IsInteger 10 w n → base_at w ≡ Some x → ⊥
unfolding base_at
no_base w n x i f =
    let all = figures i in
    or_else_by (with_base 2 (after (codes "2#") w)) (or_else (with_base 8 (after (codes "8#") w)) (with_base 16 (after (codes "16#") w))) x f
    (λ g. let a = after_some (codes "2#") w x.1 (with_base_some 2 (after (codes "2#") w) x g).0 in let z : AllIn Figures (50 ∷ 35 ∷ x.1) = subst (λ y. AllIn Figures y) a all in sharp_out w z.1.0)
    (λ g. or_else_by (with_base 8 (after (codes "8#") w)) (with_base 16 (after (codes "16#") w)) x g
    (λ h. let a = after_some (codes "8#") w x.1 (with_base_some 8 (after (codes "8#") w) x h).0 in let z : AllIn Figures (56 ∷ 35 ∷ x.1) = subst (λ y. AllIn Figures y) a all in sharp_out w z.1.0)
    (λ h. let a = after_some (codes "16#") w x.1 (with_base_some 16 (after (codes "16#") w) x h).0 in let z : AllIn Figures (49 ∷ 54 ∷ 35 ∷ x.1) = subst (λ y. AllIn Figures y) a all in sharp_out w z.1.1.0))

none_by : (o : Option (ℕ × List ℕ)) → ((x : ℕ × List ℕ) → o ≡ Some x → ⊥) → o ≡ None
none_by None h = refl
none_by (Some x) h = absurd (h x refl)

pub integer_base : (w : List ℕ) (n : ℕ) → IsInteger 10 w n → base_at w ≡ None
integer_base w n i = none_by (base_at w) (λ x e. no_base w n x i e)

-- ---- an integer of 32 bits, with a base or without one

pub record Based (w : List ℕ) (n : ℕ) : Type 0 where
  pub based : IsBased w n
  pub fits : n < 2 ^ 32

pub record Decimal (w : List ℕ) (n : ℕ) : Type 0 where
  pub integer : IsInteger 10 w n
  pub fits : n < 2 ^ 32

pub based_sound : (w : List ℕ) (x : ℕ × List ℕ) (n : ℕ) → base_at w ≡ Some x → integer x.0 limit x.1 ≡ Some n → Based w n
based_sound w x n e f =
    let b = base_sound w x e in
    let s = integer_sound x.0 limit x.1 n f in
    record { based = b.based n s.digits; fits = omega (arith, s.fits) }

pub decimal_sound : (w : List ℕ) (n : ℕ) → integer 10 limit w ≡ Some n → Decimal w n
decimal_sound w n f = let s = integer_sound 10 limit w n f in record { integer = s.digits; fits = omega (arith, s.fits) }

magnitude_by : (o : Option (ℕ × List ℕ)) (w : List ℕ) (n : ℕ) → base_at w ≡ o → magnitude_at o w ≡ Some n → Magnitude w n
magnitude_by None w n e f = let s = decimal_sound w n f in literals.decimal s.integer s.fits
magnitude_by (Some x) w n e f = let s = based_sound w x n e f in literals.based s.based s.fits

pub magnitude_sound : (w : List ℕ) (n : ℕ) → magnitude w ≡ Some n → Magnitude w n
magnitude_sound w n e = magnitude_by (base_at w) w n refl e

pub decimal_again : (w : List ℕ) (n : ℕ) → IsInteger 10 w n → n < 2 ^ 32 → integer 10 limit w ≡ Some n
decimal_again w n i lt = digits_again i limit (omega arith) (omega (arith, lt))

pub record BasedAgain (w : List ℕ) (n : ℕ) : Type 0 where
  pub base : ℕ
  pub digits : List ℕ
  pub found : base_at w ≡ Some (base, digits)
  pub value : integer base limit digits ≡ Some n

pub based_again : (w : List ℕ) (n : ℕ) → IsBased w n → n < 2 ^ 32 → BasedAgain w n
based_again w n i lt = let b = base_again i in record { base = b.base; digits = b.digits; found = b.found; value = digits_again b.integer limit b.positive (omega (arith, lt)) }

pub magnitude_again : {w : List ℕ} {n : ℕ} → Magnitude w n → magnitude w ≡ Some n
magnitude_again (literals.decimal {w = w} {n = n} i lt) = let e = integer_base w n i in rw e (decimal_again w n i lt)
magnitude_again (literals.based {w = w} {n = n} i lt) = let b = based_again w n i lt in let e = b.found in rw e b.value
