-- Parts of a listing by themselves.
use Rattle.std.specs.Prelude.{ℕ, zero, suc, List, [], ◌∷◌, ◌++◌, flat_map, codes}
use Rattle.sfc_expr.specs.declared.statement.Statement.{Statement}
use Rattle.sfc_expr.specs.declared.statement.Branch.{Branch}
use Rattle.sfc_expr.specs.Trees.{Nothing, NoBranch, before, tried_before}
use Rattle.sfc_plant.specs.Spaces.{Space}
use Rattle.sfc_base.specs.declared.references.StepId.{StepId}
use Rattle.sfc_base.specs.declared.references.GlobalId.{GlobalId}
use Rattle.sfc_base.specs.declared.references.Variable.{Variable}
use Rattle.sfc_plant.specs.declared.variable.Variable as plant
use Rattle.sfc_plant.specs.declared.program_type.ProgramType.{ProgramType}
use Rattle.sfc_plant.specs.declared.task.Task.{Task}
use Rattle.sfc_plant.specs.declared.instance.Instance.{Instance}
use Rattle.sfc_plant.specs.declared.association.Association.{Association}
use Rattle.sfc_list.specs.Layout.{line}
use Rattle.sfc_plant.specs.Names.{variable_name, step_name}
use Rattle.sfc_list.specs.Statements.{body_text, branches_text}
use Rattle.sfc_list.specs.Charts.{association_text}
use Rattle.sfc_list.specs.Listing.{variable_text, external_text, task_text, instance_text}

abbrev pub statement_text : Space → List ℕ → ℕ → Statement → List ℕ
statement_text space own level s = body_text space own level (before s Nothing)

abbrev pub branch_text : Space → List ℕ → ℕ → List ℕ → Branch → List ℕ
branch_text space own level word b = branches_text space own level word (tried_before b NoBranch)

-- the word of the branch with this number, the first of which has number 0
abbrev pub branch_word : ℕ → List ℕ
branch_word zero = codes "IF "
branch_word (suc i) = codes "ELSIF "

-- ---- charts

abbrev pub indicator_text : Space → Variable → List ℕ
indicator_text space v = codes ", " ++ variable_name space v

abbrev pub association_line : Space → Association → List ℕ
association_line space a = line 2 (association_text space a)

abbrev pub further_step : Space → StepId → List ℕ
further_step space s = codes ", " ++ step_name space s

abbrev pub steps_text : Space → List StepId → List ℕ
steps_text space [] = []
steps_text space (s ∷ ss) = step_name space s ++ flat_map (further_step space) ss

-- ---- variables

abbrev pub variable_line : ℕ → plant.Variable → List ℕ
variable_line level v = line level (variable_text v)

abbrev pub external_line : Space → GlobalId → List ℕ
external_line space id = line 2 (external_text space id)

-- ---- the configuration

abbrev pub task_line : List plant.Variable → Task → List ℕ
task_line globals t = line 2 (task_text globals t)

abbrev pub instance_line : List Task → List ProgramType → Instance → List ℕ
instance_line tasks types i = line 2 (instance_text tasks types i)
