-- Variables have the names with which they were declared.
use Rattle.std.proofs.Common.{◌≡◌, ℕ, List, [], ◌∷◌, map, refl, ap, sym, ◌∙◌}
use Rattle.sfc_plant.specs.declared.variable.Variable.{Variable}
use Rattle.sfc_variables.specs.Declarations.{Declared, declared_name, variable_of}
use Rattle.sfc_plant.specs.VariableNames.{names_of}

names_built : (ds : List Declared) → names_of (map variable_of ds) ≡ map declared_name ds
names_built [] = refl
names_built (d ∷ ds) = ap (λ names. d.name ∷ names) (names_built ds)

-- names and variables that were built of one list
pub same_names : (ds : List Declared) (names : List (List ℕ)) (variables : List Variable)
    → names ≡ map declared_name ds → variables ≡ map variable_of ds → names ≡ names_of variables
same_names ds names variables named built = named ∙ sym (names_built ds) ∙ ap names_of (sym built)
