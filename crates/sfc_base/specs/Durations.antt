-- Durations (B.1.2.3.1): parts in falling order of unit. The value is in microseconds.
use Rattle.std.specs.Prelude.{◌≡◌, ℕ, ℤ, pos, neg_ℤ, ◌≤ℤ◌, ◌+◌, ◌*◌, ◌^◌, ◌≤◌}
use Rattle.std.specs.Prelude.{List, [], ◌∷◌, ◌++◌, Bool, true, false, codes, Some}
use Rattle.sfc_base.specs.declared.unit.Unit.{Unit}
use Rattle.sfc_base.specs.declared.unit.Unit.TheVariants.{Day, Hour, Minute, Second, Millisecond}
use Rattle.sfc_base.specs.declared.run.Alphabet.TheVariants.{Letters}
use Rattle.sfc_base.specs.Runs.{AllIn}
use Rattle.sfc_base.specs.Case.{same_word}
use Rattle.sfc_base.specs.Numbers.{digit_of, IsInteger}

abbrev pub micros_of : Unit → ℕ
micros_of Day = 86400000000
micros_of Hour = 3600000000
micros_of Minute = 60000000
micros_of Second = 1000000
micros_of Millisecond = 1000

abbrev pub spelling_of : Unit → List ℕ
spelling_of Day = codes "d"
spelling_of Hour = codes "h"
spelling_of Minute = codes "m"
spelling_of Second = codes "s"
spelling_of Millisecond = codes "ms"

-- the units, falling
abbrev pub units : List Unit
units = Day ∷ Hour ∷ Minute ∷ Second ∷ Millisecond ∷ []

-- letters that spell the unit, in any case
pub record IsUnit (u : Unit) (w : List ℕ) : Type 0 where
  pub letters : AllIn Letters w
  pub spelled : same_word w (spelling_of u) ≡ true

-- Tenths unit wanted w v: the digits w behind a decimal point are v microseconds, exactly. With one more digit d in
-- front they are a tenth of d units and v together, which has to be whole. Where a digit is wanted, w begins with one.
pub data Tenths : ℕ → Bool → List ℕ → ℕ → Type 0 where
  ended : {unit : ℕ} → Tenths unit false [] 0
  digit : {unit b d v n : ℕ} {wanted : Bool} {w : List ℕ} → digit_of 10 b ≡ Some d → Tenths unit false w v
      → v + d * unit ≡ n * 10
      → Tenths unit wanted (b ∷ w) n
  underscore : {unit v : ℕ} {w : List ℕ} → Tenths unit true w v → Tenths unit false (95 ∷ w) v

-- digits {['_'] digit} behind a decimal point
abbrev pub IsFraction : ℕ → List ℕ → ℕ → Type 0
IsFraction unit w v = Tenths unit true w v

-- Interval us w v: w is v microseconds, in parts of the units us.
pub data Interval : List Unit → List ℕ → ℕ → Type 0 where
  -- no part of the greatest unit
  skip : {u : Unit} {us : List Unit} {w : List ℕ} {v : ℕ} → Interval us w v → Interval (u ∷ us) w v
  -- one part, the last: a number and the unit
  whole : {u : Unit} {us : List Unit} {w l : List ℕ} {n : ℕ} → IsInteger 10 w n → IsUnit u l
      → Interval (u ∷ us) (w ++ l) (n * micros_of u)
  -- one part, the last, with a fraction
  fixed_point : {u : Unit} {us : List Unit} {w f l : List ℕ} {n v : ℕ} → IsInteger 10 w n
      → IsFraction (micros_of u) f v → IsUnit u l
      → Interval (u ∷ us) (w ++ 46 ∷ (f ++ l)) (n * micros_of u + v)
  -- a part, and others of smaller units, with or without an underscore between
  more : {u : Unit} {us : List Unit} {w l rest : List ℕ} {n v : ℕ} → IsInteger 10 w n → IsUnit u l → Interval us rest v
      → Interval (u ∷ us) (w ++ (l ++ rest)) (n * micros_of u + v)
  spaced : {u : Unit} {us : List Unit} {w l rest : List ℕ} {n v : ℕ} → IsInteger 10 w n → IsUnit u l → Interval us rest v
      → Interval (u ∷ us) (w ++ (l ++ 95 ∷ rest)) (n * micros_of u + v)

-- the greatest magnitude of a TIME value (our choice)
abbrev pub greatest : ℕ
greatest = 2 ^ 62

-- microseconds that are a value of type TIME
pub record IsTimeValue (z : ℤ) : Type 0 where
  pub low : neg_ℤ (pos greatest) ≤ℤ z
  pub high : z ≤ℤ pos greatest

pub record IsInterval (w : List ℕ) (v : ℕ) : Type 0 where
  pub parts : Interval units w v
  pub fits : v ≤ greatest
