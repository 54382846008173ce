-- What a plant has under the number that an outline tells.
use Rattle.std.specs.Prelude.{◌≡◌, ℕ, List, Option, Some, None, true, option_map, option_and_then, slice_get, ⊤}
use Rattle.sfc_base.specs.Case.{same_word}
use Rattle.sfc_tokens.specs.declared.span.Span.{Span}
use Rattle.sfc_plant.specs.declared.variable.Variable.{Variable}
use Rattle.sfc_plant.specs.declared.program_type.ProgramType.{ProgramType}
use Rattle.sfc_plant.specs.Plants.{PlantData}
use Rattle.sfc_outline.specs.declared.item.Item.{Item}
use Rattle.sfc_outline.specs.declared.item.Item.TheVariants as item
use Rattle.sfc_outline.specs.declared.entry.Entry.{Entry}
use Rattle.sfc_outline.specs.Places.{bytes}

-- the name of the variable at this place, if there is one
abbrev pub variable_word : List Variable → ℕ → Option (List ℕ)
variable_word variables place = option_map (λ variable. variable.name) (slice_get variables place)

abbrev pub external_word : List Variable → ProgramType → ℕ → Option (List ℕ)
external_word globals program place = option_and_then (λ global. variable_word globals global.0) (slice_get program.externals place)

abbrev pub step_word : ProgramType → ℕ → Option (List ℕ)
step_word program place = option_map (λ step. step.name) (slice_get program.chart.steps place)

abbrev pub transition_word : ProgramType → ℕ → Option (List ℕ)
transition_word program place = option_and_then (λ transition. transition.name) (slice_get program.chart.transitions place)

abbrev pub action_word : ProgramType → ℕ → Option (List ℕ)
action_word program place = option_map (λ action. action.name) (slice_get program.chart.actions place)

abbrev pub type_word : PlantData → ℕ → Option (List ℕ)
type_word plant place = option_map (λ program. program.name) (slice_get plant.types place)

abbrev pub task_word : PlantData → ℕ → Option (List ℕ)
task_word plant place = option_map (λ task. task.name) (slice_get plant.tasks place)

abbrev pub instance_word : PlantData → ℕ → Option (List ℕ)
instance_word plant place = option_map (λ instance. instance.name) (slice_get plant.instances place)

-- the name of something in a program type
abbrev pub own_word : PlantData → ProgramType → Item → Option (List ℕ)
own_word plant found (item.Local program local) = variable_word found.locals local
own_word plant found (item.External program external) = external_word plant.globals found external
own_word plant found (item.Step program step) = step_word found step
own_word plant found (item.Transition program transition) = transition_word found transition
own_word plant found (item.Action program action) = action_word found action
own_word plant found _ = None

-- the place of the program type in which something is
abbrev pub program_of : Item → Option ℕ
program_of (item.Local program local) = Some program
program_of (item.External program external) = Some program
program_of (item.Step program step) = Some program
program_of (item.Transition program transition) = Some program
program_of (item.Action program action) = Some program
program_of _ = None

-- the name of something in the program type at this place, if there is one
abbrev pub word_in : PlantData → ℕ → Item → Option (List ℕ)
word_in plant program it = option_and_then (λ found. own_word plant found it) (slice_get plant.types program)

-- the name of something outside program types, or of one
abbrev pub shared_word : PlantData → Item → Option (List ℕ)
shared_word plant (item.ProgramType program) = type_word plant program
shared_word plant item.Configuration = Some plant.configuration
shared_word plant (item.Global global) = variable_word plant.globals global
shared_word plant (item.Task task) = task_word plant task
shared_word plant (item.Instance instance) = instance_word plant instance
shared_word plant _ = None

-- the name of something, in a program type or not
abbrev pub word_at : PlantData → Item → Option ℕ → Option (List ℕ)
word_at plant it (Some program) = word_in plant program it
word_at plant it None = shared_word plant it

-- the name that the plant has for something; of an external that of the global variable
abbrev pub word_of : PlantData → Item → Option (List ℕ)
word_of plant it = word_at plant it (program_of it)

-- the bytes of a text are this word, but for case
abbrev pub IsWordAt : List ℕ → Span → Option (List ℕ) → Type 0
IsWordAt text span (Some word) = same_word (bytes text span) word ≡ true
IsWordAt text span None = ⊥

-- where something has a name, that stands there which the plant has under its number
abbrev pub IsNamedBy : List ℕ → PlantData → Option Span → Item → Type 0
IsNamedBy text plant (Some name) it = IsWordAt text name (word_of plant it)
IsNamedBy text plant None it = ⊤

abbrev pub IsEntryNamedBy : List ℕ → PlantData → Entry → Type 0
IsEntryNamedBy text plant entry = IsNamedBy text plant entry.name entry.item
