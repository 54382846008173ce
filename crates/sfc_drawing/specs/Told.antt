-- What is told of an instance, and how that stands in what is drawn of it.
use Rattle.std.specs.Prelude.{ℤ, ℕ, List, [], Bool, true, false, Option, Some, None, is_some}
use Rattle.sfc_base.specs.TimeText.{time_text}
use Rattle.sfc_drawing.specs.declared.drawn.ActionMark.{ActionMark}
use Rattle.sfc_drawing.specs.declared.drawn.StepMark.{StepMark}
use Rattle.sfc_drawing.specs.declared.drawn.TransitionMark.{TransitionMark}
use Rattle.sfc_drawing.specs.declared.marks.StepState.{StepState}

-- of an association, or of the body of an action
abbrev pub action_mark : Option ActionMark → ActionMark
action_mark None = record { is_executed = false; is_forced = false; is_never = false }
action_mark (Some mark) = mark

abbrev pub transition_mark : Option TransitionMark → TransitionMark
transition_mark None = record { is_enabled = false; is_cleared = false; is_never = false }
transition_mark (Some mark) = mark

-- for how long a step is active, if it is
abbrev pub time_told : Option ℤ → List ℕ
time_told None = []
time_told (Some micros) = time_text micros

abbrev pub step_mark : Option StepState → StepMark
step_mark None = record { is_active = false; time = []; is_never = false }
step_mark (Some state) = record { is_active = is_some state.active; time = time_told state.active; is_never = state.is_never }

-- of the associations of a step
abbrev pub rows_told : Option StepState → List ActionMark
rows_told None = []
rows_told (Some state) = state.rows
