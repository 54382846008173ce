-- The text of a location (2.4.1.1).
use Rattle.std.specs.Prelude.{ℕ, List, [], ◌∷◌, ◌++◌, flat_map, codes}
use Rattle.std.specs.Fmt.{decimal}
use Rattle.sfc_base.specs.declared.location.Area.{Area}
use Rattle.sfc_base.specs.declared.location.Area.TheVariants.{Input, Output, Memory}
use Rattle.sfc_base.specs.declared.location.Size.{Size}
use Rattle.sfc_base.specs.declared.location.Size.TheVariants.{Bit, Byte, Word, DoubleWord, LongWord}
use Rattle.sfc_base.specs.declared.location.Location.{Location}

abbrev pub area_text : Area → List ℕ
area_text Input = codes "I"
area_text Output = codes "Q"
area_text Memory = codes "M"

abbrev pub size_text : Size → List ℕ
size_text Bit = codes "X"
size_text Byte = codes "B"
size_text Word = codes "W"
size_text DoubleWord = codes "D"
size_text LongWord = codes "L"

abbrev pub behind_point : ℕ → List ℕ
behind_point n = codes "." ++ decimal n

-- the numbers, parted by points
abbrev pub numbers_text : List ℕ → List ℕ
numbers_text [] = []
numbers_text (n ∷ ns) = decimal n ++ flat_map behind_point ns

abbrev pub location_text : Location → List ℕ
location_text l = codes "%" ++ area_text l.area ++ size_text l.size ++ numbers_text l.numbers
