-- Steps that are taken one after the other: the conditions until which they are, and which of them a line begins.
use Rattle.std.specs.Prelude.{◌≡◌, ℕ, ◌+◌, ◌==◌, ⊤, Bool, true, false, not, ◌&&◌, ◌||◌, nat_lt, if◌then◌else◌, List, [], ◌∷◌, length, codes}
use Rattle.std.specs.Prelude.{Option, Some, None, Ok, Err, option_map, option_and_then}
use Rattle.std.specs.Option.{option_or}
use Rattle.sfc_base.specs.Case.{same_word}
use Rattle.sfc_base.specs.declared.ids.ProgId.{ProgId}
use Rattle.sfc_plant.specs.Finding.{instance_named}
use Rattle.sfc_plant.specs.Plants.{PlantData}
use Rattle.sfc_asking.specs.sfc_debug.declared.break_condition.BreakCondition.{BreakCondition}
use Rattle.sfc_asking.specs.sfc_debug.Histories.{CommandHistory}
use Rattle.sfc_asking.specs.sfc_debug.Hits.{environment_after, is_met}
use Rattle.sfc_asking.specs.sfc_debug.Steered.{Steered}
use Rattle.sfc_asking.specs.sfc_output.Output.{Verdict, debugger_of, plant_state}
use Rattle.sfc_asking.specs.sfc_output.sfc_instances.PlantState.{PlantState}
use Rattle.sfc_asking.specs.sfc_script.Lines.{first_word, only_word}
use Rattle.sfc_asking.specs.sfc_script.Scripts.{ConditionReads}
use Rattle.sfc_asking.specs.sfc_script.Values.{decimal_of, limited}
use Rattle.sfc_panel.specs.Changes.{shows_none}
use Rattle.sfc_session.specs.declared.session.Session.{Session}
use Rattle.sfc_session.specs.declared.step.Step.{Step}
use Rattle.sfc_session.specs.declared.step.Step.TheVariants as steps
use Rattle.sfc_session.specs.Scanning.{ends_steps, step_after}
use Rattle.sfc_session.specs.Sessions.{IsTaken, Stays, steered_in}
use Rattle.sfc_prompt.specs.declared.course.Course.{Course}
use Rattle.sfc_prompt.specs.declared.course.Wanted.{Wanted}
use Rattle.sfc_prompt.specs.declared.course.Wanted.TheVariants.{Until, Several, Faulty}
use Rattle.sfc_prompt.specs.declared.line.Word.TheVariants as words
use Rattle.sfc_prompt.specs.Lines.{Said, Nothing, Remark, Says, Asks}
use Rattle.sfc_prompt.specs.Notes.{Adds}
use Rattle.sfc_prompt.specs.Orders.{Hints, is_stopped, text_step}
use Rattle.sfc_prompt.specs.Words.{from_word}

-- The condition is TRUE after these commands, as that of a breakpoint is after a scan; one of an instance that isn't there never is.
abbrev pub holds_after : Steered → CommandHistory → BreakCondition → Bool
holds_after steered h condition =
    nat_lt condition.program.0 (length steered.plant.instances)
    && is_met (environment_after steered.plant (plant_state steered ((debugger_of steered).state h)) condition.program) (Some condition)

-- the condition, if there is one
abbrev pub is_met_after : Steered → CommandHistory → Option BreakCondition → Bool
is_met_after steered h None = false
is_met_after steered h (Some condition) = holds_after steered h condition

-- ---- which steps a line begins

-- the most steps that one line takes
abbrev pub most : ℕ
most = 100000

-- so many of this step at the most, until the condition is TRUE, if there is one, of which each is shown or not
abbrev pub begun : Step → Option BreakCondition → ℕ → Bool → Course
begun step condition count all = record { step = step; shows_all = all; condition = condition; left = count; taken = 0 }

-- Behind a step of these they have ended, or one less is left.
abbrev pub IsBehindStep : Course → Option Course → Type 0
IsBehindStep course None = ⊤
IsBehindStep course (Some next) = next.left + 1 ≡ course.left

-- the last step so often; where there was none, what was under way stays
abbrev pub again : Option Step → ℕ → Bool → Option Course → Option Course
again None count all course = course
again (Some step) count all course = Some (begun step None count all)

-- how often the words behind AGAIN say: once where there are none, else a number from 1 to 100,000
abbrev pub from_one : ℕ → Option ℕ
from_one n = if n == 0 then None else Some n

abbrev pub number_said : List ℕ → Option ℕ
number_said word = option_and_then from_one (limited most (decimal_of word))

abbrev pub count_behind : List ℕ → Option (List ℕ × List ℕ) → Option ℕ
count_behind text None = Some 1
count_behind text (Some w) = option_and_then number_said (only_word text)

abbrev pub again_count : List ℕ → Option ℕ
again_count text = count_behind text (first_word text)

-- one step is shown, and of several each where that is wanted
abbrev pub again_by : Option ℕ → Bool → Option Step → Option Course → Option Course
again_by None all last course = course
again_by (Some count) all last course = again last count (all || count == 1) course

-- behind UNTIL: IN, the name of a program instance and the text of a condition; or the text, where there is one instance
abbrev pub asked_in : PlantData → List ℕ × List ℕ → Option (ProgId × List ℕ)
asked_in plant w = option_map (λ p. (p, from_word w.1)) (instance_named plant w.0)

abbrev pub asked_behind : PlantData → List ℕ × List ℕ → Option (ProgId × List ℕ)
asked_behind plant w = if same_word w.0 (codes "IN") then option_and_then (asked_in plant) (first_word w.1) else None

abbrev pub asked_alone : PlantData → List ℕ → Option (ProgId × List ℕ)
asked_alone plant text = if length plant.instances == 1 then Some (record { 0 = 0 }, text) else None

abbrev pub asked_first : PlantData → List ℕ → Option (ProgId × List ℕ)
asked_first plant text = option_and_then (asked_behind plant) (first_word text)

abbrev pub asked : PlantData → List ℕ → Option (ProgId × List ℕ)
asked plant text = option_or (asked_first plant text) (asked_alone plant text)

-- scans of the task that goes first, until the text is TRUE as a condition there, where it is one
abbrev pub until_by : Option (List BreakCondition) → Bool → Option Course → Option Course
until_by (Some (condition ∷ conditions)) all course = Some (begun steps.First (Some condition) most all)
until_by (Some []) all course = course
until_by None all course = course

abbrev pub BeginsUntil : PlantData → Option (ProgId × List ℕ) → Bool → Option Course → Option Course → Type 0
BeginsUntil plant None all old new = new ≡ old
BeginsUntil plant (Some a) all old new =
    (read : Option (List BreakCondition)) × ConditionReads plant 0 a.0 a.1 read × (new ≡ until_by read all old)

-- What is under way behind a line, where this step was the last one: what AGAIN, a line without words or UNTIL begins. Behind ALL each scan of
-- theirs is shown.
abbrev pub Begins : PlantData → Option Step → Said → Option Course → Option Course → Type 0
Begins plant last Nothing old new = new ≡ again last 1 true old
Begins plant last (Asks words.Again text) old new = new ≡ again_by (again_count text) false last old
Begins plant last (Asks words.AllAgain text) old new = new ≡ again_by (again_count text) true last old
Begins plant last (Asks words.Until text) old new = BeginsUntil plant (asked plant text) false old new
Begins plant last (Asks words.AllUntil text) old new = BeginsUntil plant (asked plant text) true old new
Begins plant last (Asks word text) old new = new ≡ old
Begins plant last (Says instant text) old new = new ≡ old
Begins plant last Remark old new = new ≡ old

-- the step that is taken again behind the line
abbrev pub step_behind : PlantData → Option Step → Said → Option Step
step_behind plant last (Says instant text) = option_or (text_step plant instant text) last
step_behind plant last (Asks word text) = last
step_behind plant last Remark = last
step_behind plant last Nothing = last

-- ---- a step of these

-- None of these steps is taken any more behind these commands: none is left, or the condition is TRUE.
abbrev pub is_over_after : Steered → CommandHistory → Course → Bool
is_over_after steered h course = course.left == 0 || is_met_after steered h course.condition

-- the same steps, of which one less is left
pub record IsOneLess (course next : Course) : Type 0 where
  pub step : next.step ≡ course.step
  pub shows : next.shows_all ≡ course.shows_all
  pub condition : next.condition ≡ course.condition
  pub left : next.left + 1 ≡ course.left

-- ---- which steps are shown

-- how the chart stands after these commands
abbrev pub state_after : Steered → CommandHistory → PlantState
state_after steered h = plant_state steered ((debugger_of steered).state h)

-- A scan that was answered so: each program that ran stands behind it as before it, in its active steps, the transitions that its latest scan
-- cleared and the actions that it executed (2.6.2, 2.6.5, 2.6.4.5), and no fault ended one.
abbrev pub is_quiet : Steered → CommandHistory → CommandHistory → Verdict → Bool
is_quiet steered h g (Err refusal) = false
is_quiet steered h g (Ok answer) =
    shows_none steered.plant (state_after steered h) (state_after steered g) answer (length steered.plant.instances)

-- A step behind which this is left of the steps, and in which nothing changed, isn't shown, unless each is or it was the last one.
abbrev pub hides_after : Steered → CommandHistory → Course → Bool → Bool
hides_after steered g next quiet = not next.shows_all && quiet && not (is_over_after steered g next)

-- what stands behind a step that is shown or not
abbrev pub shown_by : Bool → List ℕ → List ℕ → List ℕ
shown_by hides before middle = if hides then before else middle

-- How steps ended is told where they had a condition.
abbrev pub TellsEnd : Option BreakCondition → List ℕ → List ℕ → Type 0
TellsEnd None before behind = behind ≡ before
TellsEnd (Some condition) before behind = Adds before behind

-- Behind a step that ends them none is under way, and behind its lines is told what serves in a halted resource, and how they ended; behind any
-- other one less is left, and its lines are shown or not.
abbrev pub GoesBehind : Steered → CommandHistory → CommandHistory → Verdict → Course → List ℕ → List ℕ → List ℕ → Bool → Option Course → Type 0
GoesBehind steered h g told course before middle behind true next =
    (next ≡ None) × (noted : List ℕ) × Hints (is_stopped told) middle noted × TellsEnd course.condition noted behind
GoesBehind steered h g told course before middle behind false None = ⊥
GoesBehind steered h g told course before middle behind false (Some next) =
    IsOneLess course next × (behind ≡ shown_by (hides_after steered g next (is_quiet steered h g told)) before middle)

-- Where they are over none is under way any more, that is told, and nothing was accepted. Else the next one was taken, in the words of a
-- replay, and what it was answered says whether they go on.
abbrev pub StepsOn : Session → Session → List ℕ → List ℕ → CommandHistory → List ℕ → Course → Option Course → Bool → Type 0
StepsOn old new before behind h lines course next true =
    (next ≡ None) × TellsEnd course.condition before behind × Stays old new h lines
StepsOn old new before behind h lines course next false =
    (told : Verdict) × (middle : List ℕ) × IsTaken old new before middle told h lines (step_after (steered_in old) h course.step)
    × GoesBehind (steered_in old) h ((debugger_of (steered_in old)).after h (step_after (steered_in old) h course.step)) told course
    before middle behind (ends_steps told) next

-- ---- what is read of it

-- what is under way, where this is wanted
abbrev pub wanted_course : Wanted → Bool → Option Course → Option Course
wanted_course (Until condition) all course = Some (begun steps.First (Some condition) most all)
wanted_course Several all course = course
wanted_course (Faulty fault) all course = course
