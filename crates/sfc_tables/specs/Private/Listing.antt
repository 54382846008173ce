-- How the Boolean actions are found.
use Rattle.std.specs.Prelude.{◌≡◌, ℕ, ◌<◌, ◌^◌, ◌++◌, List, length, map}
use Rattle.indexmap.specs.IndexSet.{insert_all}
use Rattle.sfc_base.specs.declared.references.Variable.{Variable}
use Rattle.sfc_plant.specs.declared.association.Association.{Association}
use Rattle.sfc_plant.specs.declared.association.Target.{Target}
use Rattle.sfc_plant.specs.declared.association.Target.TheVariants as target
use Rattle.sfc_tables.specs.Actions.{same_variable, declared_actions, number_of}

-- these variables and then the new ones of more, each once
abbrev pub with_booleans : List Variable → List Variable → List Variable
with_booleans known variables = insert_all same_variable known variables

-- all actions, where these are the Boolean ones and n are declared
abbrev pub listed : List Variable → ℕ → List Target
listed booleans n = map (λ v. target.Boolean v) booleans ++ declared_actions n

-- what a list of actions keeps
pub record IsListed (booleans : List Variable) (n : ℕ) (actions : List Target) : Type 0 where
  pub all : actions ≡ listed booleans n
  pub few : length actions < 2 ^ 63

-- the association's action is among these
abbrev pub IsListedIn : List Target → Association → Type 0
IsListedIn actions association = (number_of actions association.target).0 < length actions
