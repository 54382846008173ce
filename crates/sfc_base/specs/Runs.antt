-- The longest run of bytes of one alphabet.
use Rattle.std.specs.Prelude.{◌≡◌, ℕ, List, [], ◌∷◌, Bool, true, false, ◌||◌}
use Rattle.std.specs.List.{AllByRecursion}
use Rattle.sfc_base.specs.declared.delimiter.Delimiter.TheVariants as sign
use Rattle.sfc_base.specs.declared.class.Class.{Class}
use Rattle.sfc_base.specs.declared.class.Class.TheVariants as class
use Rattle.sfc_base.specs.declared.run.Alphabet.{Alphabet}
use Rattle.sfc_base.specs.declared.run.Alphabet.TheVariants.{Letters, Figures, Fraction, Word, Number, Interval, Location}
use Rattle.sfc_base.specs.Classes.{class_of}

abbrev pub is_letter : Class → Bool
is_letter class.Letter = true
is_letter _ = false

abbrev pub is_figure : Class → Bool
is_figure class.Digit = true
is_figure class.Underscore = true
is_figure _ = false

abbrev pub is_sharp : Class → Bool
is_sharp class.Sharp = true
is_sharp _ = false

abbrev pub is_dot : Class → Bool
is_dot (class.Sign sign.Dot) = true
is_dot _ = false

-- the classes of an alphabet
abbrev pub is_in : Alphabet → Class → Bool
is_in Letters k = is_letter k
is_in Figures k = is_figure k
is_in Fraction k = is_figure k || is_dot k
is_in Word k = is_letter k || is_figure k
is_in Number k = is_letter k || is_figure k || is_sharp k
is_in Interval k = is_letter k || is_figure k || is_dot k
is_in Location k = is_letter k || is_figure k || is_sharp k || is_dot k

abbrev pub has : Alphabet → ℕ → Bool
has a b = is_in a (class_of b)

abbrev pub AllIn : Alphabet → List ℕ → Type 0
AllIn a w = AllByRecursion (λ b. has a b ≡ true) w

abbrev pub Ends : Alphabet → List ℕ → Type 0
Ends a [] = Unit {0}
Ends a (b ∷ rest) = has a b ≡ false

-- w is in the alphabet, and what follows does not begin in it
pub record IsRun (a : Alphabet) (w rest : List ℕ) : Type 0 where
  pub all : AllIn a w
  pub longest : Ends a rest
