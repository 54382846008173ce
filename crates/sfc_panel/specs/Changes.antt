-- What of a loaded chart is shown where it changes (our choice of format).
use Rattle.std.specs.Prelude.{ℕ, ◌≡◌, zero, suc, nat_lt, nat_eq, Bool, true, false, ◌&&◌, if◌then◌else◌, List, [], ◌∷◌, ◌++◌, codes, length}
use Rattle.std.specs.Prelude.{Option, None, Some, is_none}
use Rattle.std.specs.Bool.{beq}
use Rattle.std.specs.Cmp.Lexicographic.{pointwise}
use Rattle.sfc_base.specs.declared.ids.VarId.{VarId}
use Rattle.sfc_events.specs.InstanceSets.{has}
use Rattle.sfc_events.specs.declared.command.Answer.{Answer}
use Rattle.sfc_events.specs.declared.command.Answer.TheVariants.{Scanned}
use Rattle.sfc_output.specs.Programs.{program_line}
use Rattle.sfc_events.specs.History.{History}
use Rattle.sfc_output.specs.sfc_core.Agreement.{Agrees, plant_of}
use Rattle.sfc_output.specs.sfc_image.Values.{value_of, variable_count}
use Rattle.sfc_output.specs.sfc_instance.Answers.{is_step_active, is_transition_cleared, is_action_executed}
use Rattle.sfc_output.specs.sfc_instance.Life.{InstanceState}
use Rattle.sfc_output.specs.sfc_instance.declared.scan_end.ScanEnd.{ScanEnd}
use Rattle.sfc_output.specs.sfc_instance.declared.scan_end.ScanEnd.TheVariants.{Ran, Faulted}
use Rattle.sfc_output.specs.sfc_instances.PlantState.{PlantState}
use Rattle.sfc_output.specs.sfc_tables.Tables.{Tabled, tables_of}
use Rattle.sfc_plant.specs.Finding.{chart_of}
use Rattle.sfc_plant.specs.PlantNames.{image_name}
use Rattle.sfc_plant.specs.Plants.{PlantData}
use Rattle.sfc_page.specs.Values.{line_end, value_text}
use Rattle.sfc_panel.specs.declared.panel.Panel.{Panel}
use Rattle.sfc_panel.specs.declared.panel.Passed.{Passed}

-- both are of one plant, and were told these events
pub record Stands (passed : Passed) (h g : History) : Type 0 where
  pub plant : plant_of passed.behind.now ≡ plant_of passed.before.now
  pub before : Agrees passed.before.now h
  pub behind : Agrees passed.behind.now g

-- ---- programs

-- of the first n places each is in both or in neither
unfoldable pub are_alike : (ℕ → Bool) → (ℕ → Bool) → ℕ → Bool
are_alike one other zero = true
are_alike one other (suc n) = beq (one n) (other n) && are_alike one other n

-- the same steps are active, the latest scans cleared the same transitions and executed the same actions (2.6.2, 2.6.5, 2.6.4.5)
abbrev pub stands_alike : Tabled → InstanceState → InstanceState → Bool
stands_alike tables old new =
    are_alike (is_step_active tables old) (is_step_active tables new) (length tables.initial)
    && (are_alike (is_transition_cleared tables old) (is_transition_cleared tables new) (length tables.sides)
    && are_alike (is_action_executed tables old) (is_action_executed tables new) (length tables.actions))

-- by whether it stands as before
abbrev pub end_where : Bool → Option ScanEnd
end_where true = None
end_where false = Some Ran

-- How the scan of program k ended that is shown: of one that ran, where it stands otherwise than before; of one that a fault ended; and no
-- other one.
abbrev pub shown_end : PlantData → PlantState → PlantState → Answer → ℕ → Option ScanEnd
shown_end plant old new (Scanned ran faulted skipped overruns hit) k =
    if has ran k
    then end_where (stands_alike (tables_of (chart_of plant (record { 0 = k }))) (old.instance_state k) (new.instance_state k))
    else (if has faulted k then Some Faulted else None)
shown_end plant old new _ k = None

abbrev pub line_of : PlantData → PlantState → ℕ → Option ScanEnd → List ℕ
line_of plant new k None = []
line_of plant new k (Some scan_end) = program_line plant (record { 0 = k }) (new.instance_state k) scan_end

-- its line as a replay writes it, where it is shown
abbrev pub program_change : PlantData → PlantState → PlantState → Answer → ℕ → List ℕ
program_change plant old new answer k = line_of plant new k (shown_end plant old new answer k)

-- of none of the first n programs a line is shown
abbrev pub shows_none : PlantData → PlantState → PlantState → Answer → ℕ → Bool
shows_none plant old new answer zero = true
shows_none plant old new answer (suc n) = shows_none plant old new answer n && is_none (shown_end plant old new answer n)

-- the lines of the first n programs that are shown
abbrev pub program_changes : PlantData → PlantState → PlantState → Answer → ℕ → List ℕ
program_changes plant old new answer zero = []
program_changes plant old new answer (suc n) = program_changes plant old new answer n ++ program_change plant old new answer n

-- ---- variables

-- what it reads is written in this way before and behind
abbrev pub value_change : List ℕ → List ℕ → List ℕ → List ℕ
value_change name old new = if pointwise nat_eq old new then [] else name ++ codes " " ++ new ++ line_end

-- a variable of the plant and what it reads, where that is written otherwise than before
abbrev pub variable_change : PlantData → PlantState → PlantState → VarId → List ℕ
variable_change plant old new id =
    if nat_lt id.0 (variable_count plant)
    then value_change (image_name plant id) (value_text (value_of plant old.changes id.0)) (value_text (value_of plant new.changes id.0))
    else []

-- such a line of each of these variables
abbrev pub variable_changes : PlantData → PlantState → PlantState → List VarId → List ℕ
variable_changes plant old new [] = []
variable_changes plant old new (id ∷ ids) = variable_change plant old new id ++ variable_changes plant old new ids

-- ---- both

abbrev pub programs_shown : Bool → PlantData → PlantState → PlantState → Answer → List ℕ
programs_shown true plant old new answer = program_changes plant old new answer (length plant.instances)
programs_shown false plant old new answer = []

-- what is shown of a command that was answered so
abbrev pub changes : Panel → PlantData → PlantState → PlantState → Answer → List ℕ
changes panel plant old new answer =
    programs_shown panel.programs plant old new answer ++ variable_changes plant old new panel.variables.items
