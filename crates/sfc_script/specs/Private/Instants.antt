-- Instants in their plainest form: `T#`, decimal digits, and `ms` or `s`, before a blank.
use Rattle.std.specs.Prelude.{ℕ, ◌+◌, ◌-◌, ◌*◌, ◌==◌, ◌||◌, ◌&&◌, nat_lt, if◌then◌else◌, List, [], ◌∷◌, Option, Some, None}
use Rattle.std.specs.Prelude.{ℤ, pos}
use Rattle.std.specs.Option.{option_and_then}
use Rattle.sfc_base.specs.Classes.{between}
use Rattle.sfc_script.specs.Private.Splitting.{begins_with_blank}

-- the number that the digits in front make behind the number n, and what follows them; None where it is 10,000,000,000 or more
abbrev pub number_from : ℕ → List ℕ → Option (ℕ × List ℕ)
number_from n [] = Some (n, [])
number_from n (b ∷ bytes) =
    if between 48 57 b then (if nat_lt n 1000000000 then number_from (n * 10 + (b - 48)) bytes else None) else
    Some (n, b ∷ bytes)

-- one digit or more
abbrev pub number_first : List ℕ → Option (ℕ × List ℕ)
number_first [] = None
number_first (b ∷ bytes) = if between 48 57 b then number_from (b - 48) bytes else None

-- `ms` or `s`, in any case: its microseconds, and what follows it
abbrev pub unit_first : List ℕ → Option (ℕ × List ℕ)
unit_first [] = None
unit_first (b ∷ []) = if b == 115 || b == 83 then Some (1000000, []) else None
unit_first (b ∷ c ∷ bytes) =
    if (b == 109 || b == 77) && (c == 115 || c == 83) then Some (1000, bytes) else
    if b == 115 || b == 83 then Some (1000000, c ∷ bytes) else None

-- so many of the unit in front, before a blank
abbrev pub in_unit : ℕ → ℕ × List ℕ → Option (ℤ × List ℕ)
in_unit n u = if begins_with_blank u.1 then Some (pos (n * u.0), u.1) else None

abbrev pub counted : ℕ × List ℕ → Option (ℤ × List ℕ)
counted c = option_and_then (in_unit c.0) (unit_first c.1)

-- the microseconds, and what stands behind the instant
abbrev pub instant_first : List ℕ → Option (ℤ × List ℕ)
instant_first [] = None
instant_first (b ∷ []) = None
instant_first (b ∷ c ∷ bytes) =
    if (b == 84 || b == 116) && c == 35 then option_and_then counted (number_first bytes) else None
