-- Directly represented variables (2.4.1.1): `%`, an area, a size or none, and from one to eight integers joined by `.`.
use Rattle.std.specs.Prelude.{◌≡◌, ℕ, ◌<◌, ◌≤◌, ◌^◌, List, [], ◌∷◌, ◌++◌, length}
use Rattle.std.specs.Prelude.{◌==◌, if◌then◌else◌, Option, Some, None}
use Rattle.sfc_base.specs.declared.location.Area.{Area}
use Rattle.sfc_base.specs.declared.location.Area.TheVariants.{Input, Output, Memory}
use Rattle.sfc_base.specs.declared.location.Size.{Size}
use Rattle.sfc_base.specs.declared.location.Size.TheVariants.{Bit, Byte, Word, DoubleWord, LongWord}
use Rattle.std.specs.Char.{to_ascii_uppercase}
use Rattle.sfc_base.specs.Numbers.{IsInteger}

-- where a variable lies
pub record LocationData : Type 0 where
  pub area : Area
  pub size : Size
  pub numbers : List ℕ

-- from one to eight
pub record AreNumbers (numbers : List ℕ) : Type 0 where
  pub some : 0 < length numbers
  pub few : length numbers ≤ 8

-- I, Q, M
abbrev pub area_of_capital : ℕ → Option Area
area_of_capital b =
    if b == 73 then Some Input else
    if b == 81 then Some Output else
    if b == 77 then Some Memory else None

-- X, B, W, D, L
abbrev pub size_of_capital : ℕ → Option Size
size_of_capital b =
    if b == 88 then Some Bit else
    if b == 66 then Some Byte else
    if b == 87 then Some Word else
    if b == 68 then Some DoubleWord else
    if b == 76 then Some LongWord else None

abbrev pub area_of : ℕ → Option Area
area_of b = area_of_capital (to_ascii_uppercase b)

abbrev pub size_of : ℕ → Option Size
size_of b = size_of_capital (to_ascii_uppercase b)

-- integers of 32 bits joined by points
pub data Numbers : List ℕ → List ℕ → Type 0 where
  last : {w : List ℕ} {n : ℕ} → IsInteger 10 w n → n < 2 ^ 32 → Numbers w (n ∷ [])
  more : {w rest : List ℕ} {n : ℕ} {ns : List ℕ} → IsInteger 10 w n → n < 2 ^ 32 → Numbers rest ns
      → Numbers (w ++ 46 ∷ rest) (n ∷ ns)

-- what stands behind `%`
pub data IsLocation : List ℕ → LocationData → Type 0 where
  sized : {a s : ℕ} {w : List ℕ} {area : Area} {size : Size} {ns : List ℕ} → area_of a ≡ Some area → size_of s ≡ Some size
      → Numbers w ns → length ns ≤ 8 → IsLocation (a ∷ s ∷ w) (record { area = area; size = size; numbers = ns })
  unsized : {a : ℕ} {w : List ℕ} {area : Area} {ns : List ℕ} → area_of a ≡ Some area → Numbers w ns → length ns ≤ 8
      → IsLocation (a ∷ w) (record { area = area; size = Bit; numbers = ns })
