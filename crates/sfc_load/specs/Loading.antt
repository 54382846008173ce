-- What loading accepts of a whole text (2.4, 2.6, 2.7): the checks, each a fact about the text's trees, in the order in which they
-- are made (our choice of order).
use Rattle.std.specs.Prelude.{ℕ, nat_lt, pos, ℤ, int_lt, is_none, List, [], length, map, Option, Some, None}
use Rattle.sfc_base.specs.declared.limits.TheConstants.{INSTANCES, TASKS, VARIABLES}
use Rattle.sfc_base.specs.declared.var_type.VarType.TheVariants as types
use Rattle.sfc_text.specs.declared.tree.Instance.{Instance}
use Rattle.sfc_text.specs.declared.tree.Literal.TheVariants as literal
use Rattle.sfc_text.specs.declared.tree.Task.{Task}
use Rattle.sfc_text.specs.Trees.{ProgramTree}
use Rattle.sfc_program.specs.sfc_check.Checking.{checked_literal}
use Rattle.sfc_base.specs.NameLists.{has, place_of}
use Rattle.sfc_events.specs.declared.load_error.LoadError.TheVariants as fault
use Rattle.sfc_events.specs.declared.load_error.Limit.TheVariants as limit
use Rattle.sfc_plant.specs.declared.variable.Variable.{Variable}
use Rattle.sfc_program.specs.sfc_variables.Checks.{Check, ◌then◌, when, in_turn, typed}
use Rattle.sfc_plant.specs.VariableNames.{global_named}
use Rattle.sfc_program.specs.sfc_variables.Locations.{repeats}
use Rattle.sfc_program.specs.Loading.{program_check, variable_check}
use Rattle.sfc_plant.specs.Image.{locations_of}

-- ---- tasks (2.7.2)

-- SINGLE names a global BOOL variable
abbrev pub single_check : List Variable → Option (List ℕ) → Check
single_check globals None = None
single_check globals (Some name) = variable_check types.Bool fault.Unknown fault.NotBool (global_named globals name)

-- an interval is a TIME, and not negative
abbrev pub interval_check : ℤ → Check
interval_check t = typed (checked_literal (literal.Time t) types.Time) then when (int_lt t (pos 0)) fault.LiteralRange

abbrev pub task_name : Task → List ℕ
task_name t = t.name

abbrev pub task_check : List Variable → List (List ℕ) → Task → Check
task_check globals before t =
    when (has before t.name) fault.Duplicate then single_check globals t.single then interval_check t.interval

-- at most 16 tasks, of which no two have one name
unfoldable pub tasks_check : List Variable → List Task → Check
tasks_check globals tasks =
    when (nat_lt TASKS (length tasks)) (fault.Limit limit.Tasks) then in_turn task_name (task_check globals) [] tasks

-- ---- program types (2.5.3)

abbrev pub program_name : ProgramTree → List ℕ
program_name p = p.name

abbrev pub named_program_check : List Variable → List (List ℕ) → ProgramTree → Check
named_program_check globals before p = when (has before p.name) fault.Duplicate then program_check globals p

-- no two have one name
unfoldable pub programs_check : List Variable → List ProgramTree → Check
programs_check globals programs = in_turn program_name (named_program_check globals) [] programs

-- ---- instances (2.7.2)

abbrev pub instance_name : Instance → List ℕ
instance_name i = i.name

-- the number of the task, if one is named that is there
abbrev pub task_number : List (List ℕ) → Option (List ℕ) → Option ℕ
task_number tasks None = None
task_number tasks (Some name) = place_of name tasks

-- an instance has a task that is there, and a program type that is there
abbrev pub instance_check : List (List ℕ) → List (List ℕ) → List (List ℕ) → Instance → Check
instance_check tasks programs before i =
    when (has before i.name) fault.Duplicate
    then when (is_none (task_number tasks i.task)) fault.NoTask
    then when (is_none (place_of i.program programs)) fault.UnknownType

-- at most 64 instances, of which no two have one name
unfoldable pub instances_check : List (List ℕ) → List (List ℕ) → List Instance → Check
instances_check tasks programs instances =
    when (nat_lt INSTANCES (length instances)) (fault.Limit limit.Instances)
    then in_turn instance_name (instance_check tasks programs) [] instances

-- ---- the variables of all (2.4.1.1)

-- at most 4,096 variables, of which no two lie at one location
unfoldable pub image_check : List Variable → Check
image_check image =
    when (nat_lt VARIABLES (length image)) (fault.Limit limit.Variables)
    then when (repeats (locations_of image)) fault.SameLocation

-- ---- a whole text

abbrev pub task_names : List Task → List (List ℕ)
task_names tasks = map task_name tasks

abbrev pub program_names : List ProgramTree → List (List ℕ)
program_names programs = map program_name programs
