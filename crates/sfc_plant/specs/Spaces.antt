-- The names of a program type among the global variables of its plant (2.4.3, 2.6.2, 2.6.4.1).
use Rattle.std.specs.Prelude.{ℕ, List, map}
use Rattle.sfc_plant.specs.declared.variable.Variable.{Variable}
use Rattle.sfc_plant.specs.declared.program_type.ProgramType.{ProgramType}

-- the variables, and the names of steps and of declared actions, each in text order
pub record Space : Type 0 where
  pub globals : List Variable
  pub locals : List Variable
  pub steps : List (List ℕ)
  pub actions : List (List ℕ)

-- those of a program type that was loaded, among these globals
abbrev pub space_in : List Variable → ProgramType → Space
space_in globals p = record {
  globals = globals;
  locals = p.locals;
  steps = map (λ s. s.name) p.chart.steps;
  actions = map (λ a. a.name) p.chart.actions;
}
