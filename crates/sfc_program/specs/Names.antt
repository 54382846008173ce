-- What names stand for in a program type: variables, steps and actions (2.4.3, 2.6.2, 2.6.4.1).
use Rattle.std.specs.Prelude.{ℕ, Bool, false, List, Option, Some, None}
use Rattle.std.specs.Option.{option_map}
use Rattle.sfc_base.specs.Case.{same_word}
use Rattle.sfc_base.specs.NameLists.{place_of}
use Rattle.sfc_check.specs.Scopes.{Names}
use Rattle.sfc_plant.specs.VariableNames.{variable_named}
use Rattle.sfc_plant.specs.Spaces.{Space}

-- the action in whose body a name stands, if it stands in one
abbrev pub is_name_of : Option (List ℕ) → List ℕ → Bool
is_name_of None name = false
is_name_of (Some own) name = same_word own name

-- what names stand for in the body of this action, or in a condition, which stands in none
abbrev pub names_in : Space → Option (List ℕ) → Names
names_in space own = record {
  variable = variable_named space.locals space.globals;
  step = λ name. option_map (λ place. record { 0 = place }) (place_of name space.steps);
  is_own_action = is_name_of own;
}
