-- Division by a number that is not 0.
use Rattle.std.proofs.Common.{ℕ, ◌%◌, ◌∙◌, ◌+ℤ◌, ◌-ℤ◌, ◌*ℤ◌, ◌≤ℤ◌, unsigned_abs, ◌≡◌, ◌<◌, ◌≢◌, false, ℤ, pos, negsuc, Option, Some, None, FitsSigned, of_z, int_div, int_rem, refl, ap, arith, w64}
use Rattle.std.specs.Ordering.{int_eq}
use Rattle.std.specs.Option.{SomeIff}
use Rattle.std.specs.Int.{CanDivide}
use Rattle.std.proofs.lemmas.Int.{ints, to_z-of_z, quot-rem, rem_below}
use native.Mathlib.Nat.{zero-mod}
use Rattle.sfc_base.specs.declared.var_type.VarType.{VarType}
use Rattle.sfc_expr.specs.Meaning.{in_type, quotient, remainder}
use Rattle.sfc_expr.specs.Division.{IsDivision}

not_zero : (b : ℤ) → (of_z w64 b ≡ 0 → ⊥) → int_eq b (pos 0) ≡ false
not_zero (pos n) h = grind (arith, ints)
not_zero (negsuc n) h = refl

pub quotient_by : (t : VarType) (a b : ℤ) → (of_z w64 b ≡ 0 → ⊥) → quotient t a b ≡ in_type t (int_div a b)
quotient_by t a b h = rw (not_zero b h) refl

pub remainder_by : (t : VarType) (a b : ℤ) → (of_z w64 b ≡ 0 → ⊥) → remainder t a b ≡ in_type t (int_rem a b)
remainder_by t a b h = rw (not_zero b h) refl

-- then only a quotient that does not fit is left out
has_bits : (b : ℤ) → FitsSigned w64 b → b ≢ pos 0 → 0 < of_z w64 b
has_bits (pos n) f h = let k : n ≡ 0 → ⊥ = λ e. h (ap pos e) in omega arith
has_bits (negsuc n) f h = omega (arith, f.sfits)

pub divided : (x : Option ℤ) (a b : ℤ) → FitsSigned w64 b → b ≢ pos 0 → SomeIff x (CanDivide w64 a b) (int_div a b) → SomeIff x (FitsSigned w64 (int_div a b)) (int_div a b)
divided None a b f h k = λ fits. k (has_bits b f h, fits)
divided (Some x) a b f h k = (k.0.1, k.1)

-- for `remainder`, and a quotient that may not fit
pub ruleset division = (to_z-of_z, quotient_by, remainder_by)

pub ruleset quotients = (to_z-of_z, divided)

-- ---- quotient and remainder

size : (b : ℤ) → b ≢ pos 0 → 0 < unsigned_abs b
size (pos n) h = let k : n ≡ 0 → ⊥ = λ e. h (ap pos e) in omega arith
size (negsuc n) h = omega arith

left_of : (a p r : ℤ) → p +ℤ r ≡ a → r ≡ a -ℤ p
left_of a p r e = omega (arith, ints)

not_negative_rem : (a b : ℤ) → pos 0 ≤ℤ a → pos 0 ≤ℤ int_rem a b
not_negative_rem (pos n) b h = omega (arith, ints)
not_negative_rem (negsuc n) b h = absurd (omega (arith, ints))

not_positive_rem : (a b : ℤ) → a ≤ℤ pos 0 → int_rem a b ≤ℤ pos 0
not_positive_rem (pos n) b h = let z : n ≡ 0 = omega (arith, ints) in let e : n % unsigned_abs b ≡ 0 = ap (λ (m : ℕ). m % unsigned_abs b) z ∙ zero-mod (unsigned_abs b) in omega (arith, ints)
not_positive_rem (negsuc n) b h = omega (arith, ints)

pub is_division : (a b : ℤ) → b ≢ pos 0 → IsDivision a b (int_div a b) (int_rem a b)
is_division a b h = record {
  remainder = left_of a (int_div a b *ℤ b) (int_rem a b) (quot-rem a b);
  small = rem_below a b (size b h);
  not_negative = not_negative_rem a b;
  not_positive = not_positive_rem a b;
}
