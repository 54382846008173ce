-- The text of a TIME value (B.1.2.3.1): the nonzero parts, joined by `_`; microseconds are a fraction of the milliseconds.
use Rattle.std.specs.Prelude.{ℕ, ℤ, pos, negsuc, unsigned_abs, ◌+◌, ◌/◌, ◌%◌}
use Rattle.std.specs.Prelude.{List, [], ◌∷◌, ◌++◌, Bool, ◌==◌, if◌then◌else◌, codes}
use Rattle.std.specs.Fmt.{decimal}
use Rattle.sfc_base.specs.declared.unit.Unit.{Unit}
use Rattle.sfc_base.specs.declared.unit.Unit.TheVariants.{Day, Hour, Minute, Second}
use Rattle.sfc_base.specs.Durations.{micros_of, spelling_of}

abbrev pub digit : ℕ → ℕ
digit d = 48 + d

-- the unit of the milliseconds, and before it the thousandths as a fraction without zeros at its end
abbrev pub thousandths : ℕ → List ℕ
thousandths n =
    if n == 0 then codes "ms" else
    if n % 100 == 0 then 46 ∷ digit (n / 100) ∷ codes "ms" else
    if n % 10 == 0 then 46 ∷ digit (n / 100) ∷ digit (n / 10 % 10) ∷ codes "ms" else
    46 ∷ digit (n / 100) ∷ digit (n / 10 % 10) ∷ digit (n % 10) ∷ codes "ms"

-- the milliseconds of less than a second; nothing of zero
abbrev pub milliseconds_text : ℕ → List ℕ
milliseconds_text v = if v == 0 then [] else decimal (v / 1000) ++ thousandths (v % 1000)

-- a unit, and `_` where more follows
abbrev pub unit_text : Unit → Bool → List ℕ
unit_text u last = spelling_of u ++ (if last then [] else 95 ∷ [])

-- one part; nothing of zero
abbrev pub part_text : ℕ → Unit → Bool → List ℕ
part_text count u last = if count == 0 then [] else decimal count ++ unit_text u last

-- v microseconds in the units, and the rest in milliseconds
unfoldable pub parts_text : List Unit → ℕ → List ℕ
parts_text [] v = milliseconds_text v
parts_text (u ∷ us) v =
    part_text (v / micros_of u) u (v % micros_of u == 0) ++ parts_text us (v % micros_of u)

abbrev pub above_milliseconds : List Unit
above_milliseconds = Day ∷ Hour ∷ Minute ∷ Second ∷ []

abbrev pub magnitude_text : ℕ → List ℕ
magnitude_text v = if v == 0 then codes "0s" else parts_text above_milliseconds v

abbrev pub front_of : ℤ → List ℕ
front_of (pos n) = codes "T#"
front_of (negsuc n) = codes "T#-"

abbrev pub time_text : ℤ → List ℕ
time_text z = front_of z ++ magnitude_text (unsigned_abs z)
