-- What a division of whole numbers gives (2.5.1.5.2).
use Rattle.std.specs.Prelude.{◌≡◌, ◌<◌, ℤ, pos, ◌-ℤ◌, ◌*ℤ◌, ◌≤ℤ◌, unsigned_abs}

-- r is what the quotient q of a by b leaves: less than b in size, and with the sign of a. So q is towards zero.
pub record IsDivision (a b q r : ℤ) : Type 0 where
  pub remainder : r ≡ a -ℤ (q *ℤ b)
  pub small : unsigned_abs r < unsigned_abs b
  pub not_negative : pos 0 ≤ℤ a → pos 0 ≤ℤ r
  pub not_positive : a ≤ℤ pos 0 → r ≤ℤ pos 0
