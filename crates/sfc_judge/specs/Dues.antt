-- Which command of a stimulus comes next.
use Rattle.std.specs.Prelude.{ℕ, ◌+◌, if◌then◌else◌, List, [], ◌∷◌, ℤ, int_le, int_lt, slice_set, Option, Some, None}
use Rattle.std.specs.Option.{option_and_then}
use Rattle.sfc_cases.specs.declared.stimulus.Stimulus.{Stimulus}
use Rattle.sfc_cases.specs.Lines.{instant_after}
use Rattle.sfc_cases.specs.Stimuli.{behind_one, is_left}
use Rattle.sfc_judge.specs.declared.due.Due.{Due}
use Rattle.sfc_judge.specs.Moments.{Moment, Step}

-- the one of the earlier instant, the first of the same; a stimulus without a command that is left has none
abbrev pub sooner : Option Due → Due → Option Due
sooner None due = if is_left due.stimulus.left then Some due else None
sooner (Some best) due =
    if is_left due.stimulus.left then (if int_lt due.instant best.instant then Some due else Some best) else Some best

abbrev pub due_of : ℤ → ℕ → Stimulus → Due
due_of clock k s = record { place = k; instant = instant_after clock s.first; stimulus = s }

-- of these, which are counted from k on, and the one before them
abbrev pub first_due : ℤ → Option Due → ℕ → List Stimulus → Option Due
first_due clock best k [] = best
first_due clock best k (s ∷ others) = first_due clock (sooner best (due_of clock k s)) (k + 1) others

-- the later of two instants
abbrev pub later : ℤ → ℤ → ℤ
later a b = if int_le a b then b else a

-- The command that comes next is given at its instant; at the clock's, where that is later.
abbrev pub given_at : Moment → Due → ℤ
given_at m due = later m.clock due.instant

abbrev pub if_by : ℤ → ℤ → Due → Option Due
if_by limit instant due = if int_le instant limit then Some due else None

-- the stimulus whose command comes next, where that is given up to a limit
abbrev pub due_by : Moment → ℤ → Option Due
due_by m limit = option_and_then (λ due. if_by limit (given_at m due) due) (first_due m.clock None 0 m.stimuli)

abbrev pub stimulus_step : Moment → Due → Step
stimulus_step m due = record {
  timed = (due.stimulus.command, given_at m due);
  stimuli = slice_set m.stimuli due.place (behind_one due.instant due.stimulus);
}
