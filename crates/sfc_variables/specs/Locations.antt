-- Where variables lie (2.4.1.1, 2.4.3.1).
use Rattle.std.specs.Prelude.{nat_eq, Bool, true, false, ◌&&◌, ◌||◌, List, [], ◌∷◌, Option, Some, None}
use Rattle.std.specs.List.{list_any}
use Rattle.std.specs.Cmp.Lexicographic.{pointwise}
use Rattle.sfc_base.specs.declared.location.Location.{Location}
use Rattle.sfc_base.specs.declared.location.Area.{Area}
use Rattle.sfc_base.specs.declared.location.Area.TheVariants as area
use Rattle.sfc_base.specs.declared.location.Size.{Size}
use Rattle.sfc_base.specs.declared.location.Size.TheVariants as size
use Rattle.sfc_base.specs.declared.var_type.VarType.{VarType}
use Rattle.sfc_base.specs.declared.var_type.VarType.TheVariants as types

-- a location of this size holds a variable of this type; none holds a TIME
abbrev pub is_size_of : Size → VarType → Bool
is_size_of size.Bit types.Bool = true
is_size_of size.Word types.Int = true
is_size_of size.DoubleWord types.Dint = true
is_size_of _ _ = false

abbrev pub fits_location : VarType → Option Location → Bool
fits_location t None = true
fits_location t (Some location) = is_size_of location.size t

abbrev pub same_area : Area → Area → Bool
same_area area.Input area.Input = true
same_area area.Output area.Output = true
same_area area.Memory area.Memory = true
same_area _ _ = false

abbrev pub same_size : Size → Size → Bool
same_size size.Bit size.Bit = true
same_size size.Byte size.Byte = true
same_size size.Word size.Word = true
same_size size.DoubleWord size.DoubleWord = true
same_size size.LongWord size.LongWord = true
same_size _ _ = false

abbrev pub same_location : Location → Location → Bool
same_location a b = same_area a.area b.area && same_size a.size b.size && pointwise nat_eq a.numbers b.numbers

-- some location is that of a later one
abbrev pub repeats : List Location → Bool
repeats [] = false
repeats (a ∷ rest) = list_any (same_location a) rest || repeats rest
