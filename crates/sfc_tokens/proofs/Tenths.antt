-- Digits behind a decimal point, from the last to the first.
use Rattle.std.proofs.Common.{◌≡◌, ℕ, ◌*◌, ◌/◌, ◌≤◌, List, [], ◌∷◌, ◌++◌, Option, Some, None, ◌+◌, ◌<◌, refl, sym, ap, ◌∙◌, arith}
use Rattle.std.proofs.Math.Nat.{mul-le-mul_right}
use Rattle.sfc_base.specs.declared.unit.Unit.{Unit}
use Rattle.sfc_base.specs.declared.unit.Unit.TheVariants.{Day, Hour, Minute, Second, Millisecond}
use Rattle.sfc_base.specs.Durations.{micros_of, greatest}
use Rattle.sfc_tokens.specs.Lexing.Integers.{◌>>=◌}
use Rattle.sfc_tokens.specs.Lexing.Durations.{tenth_more, tenths}

bind_assoc : (o : Option ℕ) (f g : ℕ → Option ℕ) → ((o >>= f) >>= g) ≡ (o >>= λ x. f x >>= g)
bind_assoc None f g = refl
bind_assoc (Some x) f g = refl

some_bind : (o : Option ℕ) → (o >>= λ x. Some x) ≡ o
some_bind None = refl
some_bind (Some x) = refl

-- the last digit comes first
pub tenths_last : (unit v b : ℕ) (w : List ℕ) → tenths unit v (w ++ b ∷ []) ≡ (tenth_more unit b v >>= λ x. tenths unit x w)
unfolding tenths
tenths_last unit v b [] = sym (some_bind (tenth_more unit b v))
tenths_last unit v b (c ∷ w) = ap (λ (o : Option ℕ). o >>= λ x. tenth_more unit c x) (tenths_last unit v b w) ∙ bind_assoc (tenth_more unit b v) (λ x. tenths unit x w) (λ x. tenth_more unit c x)

pub last_taken : (unit v b x : ℕ) (all w : List ℕ) → all ≡ w ++ b ∷ [] → tenth_more unit b v ≡ Some x → tenths unit x w ≡ tenths unit v all
last_taken unit v b x all w e m = sym (ap (tenths unit v) e ∙ tenths_last unit v b w ∙ ap (λ (o : Option ℕ). o >>= λ y. tenths unit y w) m)

pub last_refused : (unit v b : ℕ) (all w : List ℕ) → all ≡ w ++ b ∷ [] → tenth_more unit b v ≡ None → tenths unit v all ≡ None
last_refused unit v b all w e m = ap (tenths unit v) e ∙ tenths_last unit v b w ∙ ap (λ (o : Option ℕ). o >>= λ y. tenths unit y w) m

-- a number up to the greatest's share stays within it
pub whole_fits : (u : Unit) (n : ℕ) → n ≤ greatest / micros_of u → n * micros_of u ≤ greatest
whole_fits Day n h = omega (arith, h)
whole_fits Hour n h = omega (arith, h)
whole_fits Minute n h = omega (arith, h)
whole_fits Second n h = omega (arith, h)
whole_fits Millisecond n h = omega (arith, h)

pub tenth_small : (unit v d : ℕ) → v ≤ unit → d < 10 → (v + d * unit) / 10 ≤ unit
tenth_small unit v d h lt = let p : d * unit ≤ 9 * unit = mul-le-mul_right unit (omega (arith, lt)) in omega (arith, h, p)

pub whole_fits_of : (u : Unit) (n m : ℕ) → m ≡ micros_of u → n ≤ greatest / m → n * m ≤ greatest
whole_fits_of u n m e h = rw e (whole_fits u n (rw e at h))
