-- Numbers by their digits.
use Rattle.std.proofs.Common.{◌≡◌, ℕ, ◌+◌, ◌-◌, ◌*◌, ◌<◌, nat_le, ◌&&◌, if◌then◌else◌, Bool, true, false, List, [], ◌∷◌, Some, None, refl, sym, ap, ◌∙◌, arith}
use Rattle.std.proofs.lemmas.Bool.Decides.{leb_tells}
use Rattle.sfc_script.specs.Values.{digits_from, decimal_of, limited}

-- a number over the limit stays over it
grown : (limit n : ℕ) (digits : List ℕ) → limit < n → limited limit (digits_from n digits) ≡ None
grown limit n [] lt = grind (arith, leb_tells)
grown limit n (b ∷ digits) lt = by (nat_le 48 b && nat_le b 57) (grown limit (n * 10 + (b - 48)) digits (omega (arith, lt)))
  where
    by : (t : Bool) → limited limit (digits_from (n * 10 + (b - 48)) digits) ≡ None
        → limited limit (if t then digits_from (n * 10 + (b - 48)) digits else None) ≡ None
    by true e = e
    by false e = refl

-- a digit that isn't one, or takes the number over the limit
pub stopped : (limit n b : ℕ) (digits : List ℕ) → limited limit (digits_from n (b ∷ [])) ≡ None
    → limited limit (digits_from n (b ∷ digits)) ≡ None
stopped limit n b digits e = by (nat_le 48 b && nat_le b 57) e
  where
    over : (m : ℕ) → limited limit (Some m) ≡ None → limit < m
    over m f = grind (arith, leb_tells)

    by : (t : Bool) → limited limit (if t then Some (n * 10 + (b - 48)) else None) ≡ None
        → limited limit (if t then digits_from (n * 10 + (b - 48)) digits else None) ≡ None
    by true f = grown limit (n * 10 + (b - 48)) digits (over (n * 10 + (b - 48)) f)
    by false f = refl

pub refused : (limit n b : ℕ) (after rest word : List ℕ)
    → limited limit (digits_from 0 word) ≡ limited limit (digits_from n rest) → rest ≡ b ∷ after
    → None ≡ limited limit (digits_from n (b ∷ [])) → None ≡ limited limit (decimal_of word)
refused limit n b after rest [] read split e = refl
refused limit n b after rest (first ∷ word) read split e =
    sym (read ∙ ap (λ r. limited limit (digits_from n r)) split ∙ stopped limit n b after (sym e))
