-- What is kept of the lines of scans and of program instances.
use Rattle.std.specs.Prelude.{ℕ, ◌≡◌, ◌<◌, ◌≤◌, ◌+◌, ◌-◌, List, [], ◌++◌, codes, map, take, Bool, Option, Some, None, slice_get, slice_set}
use Rattle.std.specs.Fmt.{decimal}
use Rattle.sfc_flags.specs.Flags.{places_from}
use Rattle.sfc_debug.specs.sfc_tables.Tables.{Tabled, tables_of}
use Rattle.sfc_plant.specs.Spaces.{Space}
use Rattle.sfc_plant.specs.Finding.{chart_of}
use Rattle.sfc_plant.specs.InstanceSpaces.{space_of}
use Rattle.sfc_plant.specs.Plants.{PlantData}
use Rattle.sfc_output.specs.declared.effects.Effects.{Effects}
use Rattle.sfc_output.specs.declared.kept_head.KeptHead.{KeptHead}
use Rattle.sfc_output.specs.declared.kept_text.KeptText.{KeptText}
use Rattle.sfc_output.specs.declared.kept_lines.Kept.{Kept}
use Rattle.sfc_output.specs.declared.kept_lines.KeptLines.{KeptLines}
use Rattle.sfc_output.specs.declared.kept_lines.ProgramMemory.{ProgramMemory}
use Rattle.sfc_output.specs.Lists.{listed}
use Rattle.sfc_plant.specs.PlantNames.{instance_name, task_name}
use Rattle.sfc_debug.specs.sfc_tables.ActionNames.{numbered_action}
use Rattle.sfc_output.specs.Programs.{scans_text, transition_text}
use Rattle.sfc_page.specs.Values.{line_end}

-- the end of the line of a program instance: the transitions that were cleared and the actions that were executed, as these sets have them
unfoldable pub effects_text : Space → Tabled → List Bool → List Bool → List ℕ
effects_text space tables cleared executed =
    codes " cleared " ++ listed (map transition_text (places_from cleared 0))
    ++ codes " run " ++ listed (map (numbered_action space tables) (places_from executed 0)) ++ line_end

-- the text that is kept
abbrev pub text_in : KeptText → List ℕ
text_in kept = take kept.count kept.bytes

-- if one is kept, it is this text
abbrev pub IsKept : List ℕ → KeptText → Type 0
IsKept text kept = 0 < kept.count → text_in kept ≡ text

-- a text that is kept is that of the sets that it is kept with, where the names and tables of a chart are these
abbrev pub IsRight : Space → Tabled → Effects → Type 0
IsRight space tables effects = IsKept (effects_text space tables effects.cleared effects.executed) effects.text

-- that is so of all that is kept of a program instance
abbrev pub AreRight : Space → Tabled → List Effects → Type 0
AreRight space tables all = (place : ℕ) (effects : Effects) → slice_get all place ≡ Some effects → IsRight space tables effects

-- what is kept of the program instances, by their numbers
abbrev pub programs_in : Option Kept → List ProgramMemory
programs_in None = []
programs_in (Some kept) = kept.programs.items

-- all that is kept of program instances is right, where the names and tables of their charts are these
abbrev pub AllRight : (ℕ → Space) → (ℕ → Tabled) → List ProgramMemory → Type 0
AllRight space tables programs =
    (k : ℕ) (program : ProgramMemory) → slice_get programs k ≡ Some program → AreRight (space k) (tables k) program.effects.items

-- what is written of a scan of this task behind its instant, where it has no overruns and no breakpoint was hit
unfoldable pub plain_scan_text : PlantData → ℕ → List ℕ
plain_scan_text plant task =
    codes " SCAN " ++ task_name plant (record { 0 = task }) ++ codes " overruns " ++ decimal 0 ++ line_end

-- this number of scans is one of the ten of a head
pub record HasScans (head : KeptHead) (scans : ℕ) : Type 0 where
  pub long : 8 ≤ head.text.count
  pub from : head.first ≤ scans
  pub below : scans < head.first + 10

-- with each of the ten numbers' last digit in place of its own, what is kept is the head of the line with that number
abbrev pub IsHead : List ℕ → KeptHead → Type 0
IsHead name head =
    (scans : ℕ) → HasScans head scans →
    slice_set (text_in head.text) (head.text.count - 8) (48 + (scans - head.first)) ≡ scans_text name scans

-- what is kept of the heads of program instances, by their numbers
abbrev pub heads_in : Option Kept → List KeptHead
heads_in None = []
heads_in (Some kept) = kept.heads.items

-- all that is kept of heads is right
abbrev pub HeadsRight : PlantData → List KeptHead → Type 0
HeadsRight plant heads =
    (k : ℕ) (head : KeptHead) → slice_get heads k ≡ Some head → IsHead (instance_name plant (record { 0 = k })) head

-- what is kept of tasks, by their numbers
abbrev pub tasks_in : Option Kept → List KeptText
tasks_in None = []
tasks_in (Some kept) = kept.tasks.items

-- all that is kept of tasks is right
abbrev pub TasksRight : PlantData → List KeptText → Type 0
TasksRight plant tasks = (k : ℕ) (kept : KeptText) → slice_get tasks k ≡ Some kept → IsKept (plain_scan_text plant k) kept

-- all that is kept is right for the tasks and the program instances of this plant
unfoldable pub Fits : PlantData → KeptLines → Type 0
Fits plant memory =
    TasksRight plant (tasks_in memory.kept)
    × HeadsRight plant (heads_in memory.kept)
    × AllRight (λ k. space_of plant (record { 0 = k })) (λ k. tables_of (chart_of plant (record { 0 = k }))) (programs_in memory.kept)
