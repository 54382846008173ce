-- The variables of a program type while they are read.
use Rattle.std.specs.Prelude.{◌≡◌, ℕ, false, List, ◌++◌, map}
use Rattle.std.specs.List.{filter_map}
use Rattle.sfc_base.specs.NameLists.{has}
use Rattle.sfc_variables.specs.declared.own.OwnDraft.TheInside.{Inside}
use Rattle.sfc_variables.specs.declared.own.OwnVariables.{OwnVariables}
use Rattle.sfc_plant.specs.declared.variable.Variable.{Variable}
use Rattle.sfc_variables.specs.Declarations.{Declared, declared_name, variable_of}
use Rattle.sfc_plant.specs.VariableNames.{names_of}
use Rattle.sfc_variables.specs.Own.{Own, own_name, local_in, external_in, global_id}

-- a name that is not among these is not among those
abbrev pub AreWithin : List (List ℕ) → List (List ℕ) → Type 0
AreWithin those these = (name : List ℕ) → has these name ≡ false → has those name ≡ false

abbrev pub drafted : Inside → OwnVariables
drafted d = record { locals = d.locals.items; externals = d.externals.items; names = d.names }

-- the table of the locals' names is theirs, and they are among all names
pub record IsDraft (d : Inside) : Type 0 where
  pub table : d.local_names ≡ names_of d.locals.items
  pub within : AreWithin (names_of d.locals.items) d.names

-- more of the variables behind those
abbrev pub extended : List Variable → OwnVariables → List Own → OwnVariables
extended globals own more = record {
  locals = own.locals ++ map variable_of (filter_map local_in more);
  externals = own.externals ++ map (global_id globals) (filter_map external_in more);
  names = own.names ++ map own_name more;
}

-- more locals alone
abbrev pub with_declared : OwnVariables → List Declared → OwnVariables
with_declared own more = record {
  locals = own.locals ++ map variable_of more;
  externals = own.externals;
  names = own.names ++ map declared_name more;
}
