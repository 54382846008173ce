-- Where a case stands, and what a condition reads there.
use Rattle.std.specs.Prelude.{◌&&◌, ◌||◌, Bool, false, cond, not, if◌then◌else◌, nat_lt, List, [], ◌∷◌, length, ℤ, pos}
use Rattle.std.specs.Prelude.{Option, Some, None, Result, Ok}
use Rattle.sfc_base.specs.declared.ids.ProgId.{ProgId}
use Rattle.sfc_base.specs.declared.value.Value.{Value}
use Rattle.sfc_base.specs.declared.value.Value.TheVariants as value
use Rattle.sfc_expr.specs.Meaning as meaning
use Rattle.sfc_expr.specs.declared.fault.Fault.{Fault}
use Rattle.sfc_replay.specs.sfc_debug.declared.break_condition.BreakCondition.{BreakCondition}
use Rattle.sfc_replay.specs.sfc_debug.Histories.{CommandHistory, TimedCommand}
use Rattle.sfc_replay.specs.sfc_debug.Hits.{environment_after}
use Rattle.sfc_replay.specs.sfc_debug.Steered.{Steered}
use Rattle.sfc_replay.specs.sfc_instances.PlantState.{PlantState}
use Rattle.sfc_replay.specs.sfc_output.Output.{debugger_of, plant_state}
use Rattle.sfc_cases.specs.declared.instant.Instant.{Instant}
use Rattle.sfc_cases.specs.declared.joined.Condition.{Condition}
use Rattle.sfc_cases.specs.declared.joined.Joint.{Joint}
use Rattle.sfc_cases.specs.declared.joined.Joint.TheVariants.{And, Or}
use Rattle.sfc_cases.specs.declared.joined.Part.{Part}
use Rattle.sfc_cases.specs.declared.stimulus.Stimulus.{Stimulus}
use Rattle.sfc_cases.specs.Lines.{instant_after}

-- what was accepted so far, the newest first; where the test's clock stands, in raw microseconds; and the stimuli of the case
pub record Moment : Type 0 where
  pub history : CommandHistory
  pub clock : ℤ
  pub stimuli : List Stimulus

abbrev pub opening : Moment
opening = record { history = []; clock = pos 0; stimuli = [] }

-- the clock goes to an instant
abbrev pub at_instant : Moment → Instant → Moment
at_instant m instant = record { history = m.history; clock = instant_after m.clock instant; stimuli = m.stimuli }

-- a command that is given at its instant, and the stimuli behind it
pub record Step : Type 0 where
  pub timed : TimedCommand
  pub stimuli : List Stimulus

-- one that isn't of a stimulus
abbrev pub plain_step : Moment → TimedCommand → Step
plain_step m timed = record { timed = timed; stimuli = m.stimuli }

abbrev pub behind_step : Steered → Moment → Step → Moment
behind_step steered m step =
    record { history = (debugger_of steered).after m.history step.timed; clock = step.timed.1; stimuli = step.stimuli }

abbrev pub behind_command : Steered → Moment → TimedCommand → Moment
behind_command steered m timed = behind_step steered m (plain_step m timed)

-- the moment behind each of these commands in turn
abbrev pub moments : Steered → Moment → List Step → List Moment
moments steered m [] = []
moments steered m (step ∷ later) = behind_step steered m step ∷ moments steered (behind_step steered m step) later

-- the last of these moments
abbrev pub last_moment : Moment → List Moment → Moment
last_moment m [] = m
last_moment m (next ∷ later) = last_moment next later

-- how the plant stands
abbrev pub plant_at : Steered → Moment → PlantState
plant_at steered m = plant_state steered ((debugger_of steered).state m.history)

-- ---- conditions

-- the two are the same
abbrev pub agree : Bool → Bool → Bool
agree a b = cond a b (not b)

abbrev pub is_there : Steered → ProgId → Bool
is_there steered p = nat_lt p.0 (length steered.plant.instances)

-- what an expression evaluates to, as that of a breakpoint does behind the latest scan
abbrev pub value_at : Steered → Moment → BreakCondition → Result Value Fault
value_at steered m condition =
    meaning.value_of (environment_after steered.plant (plant_at steered m) condition.program) condition.condition

abbrev pub truth_of : Result Value Fault → Option Bool
truth_of (Ok (value.Bool b)) = Some b
truth_of _ = None

-- TRUE or FALSE; neither where its evaluation ends with a fault, or the program instance isn't there
abbrev pub truth_at : Steered → Moment → BreakCondition → Option Bool
truth_at steered m condition =
    if is_there steered condition.program then truth_of (value_at steered m condition) else None

-- a fault of either is one of both
abbrev pub both : Option Bool → Option Bool → Option Bool
both (Some a) (Some b) = Some (a && b)
both _ _ = None

abbrev pub either : Option Bool → Option Bool → Option Bool
either (Some a) (Some b) = Some (a || b)
either _ _ = None

-- AND binds closer than OR: of the alternatives before, and of the one that goes on, behind a part
abbrev pub whole_behind : Joint → Option Bool → Option Bool → Option Bool
whole_behind And whole current = whole
whole_behind Or whole current = either whole current

abbrev pub current_behind : Joint → Option Bool → Option Bool → Option Bool
current_behind And current part = both current part
current_behind Or current part = part

abbrev pub truth_from : Steered → Moment → Option Bool → Option Bool → List Part → Option Bool
truth_from steered m whole current [] = either whole current
truth_from steered m whole current (part ∷ parts) =
    truth_from steered m (whole_behind part.joint whole current)
    (current_behind part.joint current (truth_at steered m part.condition)) parts

-- of no parts it is FALSE
abbrev pub truth : Steered → Moment → Condition → Option Bool
truth steered m condition = truth_from steered m (Some false) (Some false) condition.parts

abbrev pub is_truth : Bool → Option Bool → Bool
is_truth wanted None = false
is_truth wanted (Some b) = agree wanted b

-- The condition is TRUE, or FALSE, as is wanted.
abbrev pub reads : Steered → Moment → Bool → Condition → Bool
reads steered m wanted condition = is_truth wanted (truth steered m condition)
