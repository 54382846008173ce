-- Conditions that are watched while a case runs, and what becomes of lines.
use Rattle.std.specs.Prelude.{◌≡◌, ◌⊎◌, Bool, true, false, ◌&&◌, ◌||◌, List, [], ◌∷◌, ◌++◌, map, ℤ, Option, Some, None}
use Rattle.std.specs.List.{list_all}
use Rattle.sfc_replay.specs.sfc_debug.Histories.{TimedCommand}
use Rattle.sfc_replay.specs.sfc_debug.Steered.{Steered}
use Rattle.sfc_cases.specs.declared.joined.Condition.{Condition}
use Rattle.sfc_cases.specs.declared.line.Line.{Line}
use Rattle.sfc_judge.specs.declared.pending.Pending.{Pending}
use Rattle.sfc_judge.specs.declared.pending.Watched.{Watched}
use Rattle.sfc_cases.specs.declared.watch.Watch.{Watch}
use Rattle.sfc_cases.specs.declared.watch.Watch.TheVariants.{Stays, Responds}
use Rattle.sfc_judge.specs.Courses.{behind_line, behind_lines, steps_of}
use Rattle.sfc_judge.specs.Holding.{are_fine, held, is_fine, passes_from, responds, stays}
use Rattle.sfc_judge.specs.Moments.{Moment, Step, behind_step, last_moment, moments, plain_step}
use Rattle.sfc_judge.specs.Scans.{is_reached, most, run_steps}
use Rattle.sfc_judge.specs.Dues.{later}

-- ---- what is watched

-- what is watched: where the clock stood when it began, and whether it is over; and of a response whether the cause was TRUE at the moment
-- before, and by when the effect has to be
pub record Held : Type 0 where
  pub watch : Watch
  pub from : ℤ
  pub over : Bool
  pub was : Bool
  pub due : Option ℤ

abbrev pub as_held : Watched → Held
as_held watched = record {
  watch = watched.watch.now;
  from = watched.from;
  over = watched.is_over;
  was = watched.was;
  due = watched.due;
}

unfoldable pub held_in : Pending → List Held
held_in pending = map as_held pending.watched.items

-- it holds at each of these moments up to its end
abbrev pub still_by : Steered → List Moment → Held → Watch → Bool
still_by steered ms h (Stays steady) = h.over || stays steered h.from steady ms
still_by steered ms h (Responds response) = responds steered response h.was h.due ms

abbrev pub still_held : Steered → List Moment → Held → Bool
still_held steered ms h = still_by steered ms h h.watch

abbrev pub all_held : Steered → List Held → List Moment → Bool
all_held steered hs ms = list_all (still_held steered ms) hs

-- Over these moments all of them hold, and then those go on; or one of them doesn't hold, whatever comes behind.
abbrev pub GoOver : Steered → List Held → List Moment → List Held → Type 0
GoOver steered old over new = (ms : List Moment) → all_held steered old (over ++ ms) ≡ all_held steered new ms

abbrev pub IsBroken : Steered → List Held → List Moment → Type 0
IsBroken steered hs over = (ms : List Moment) → all_held steered hs (over ++ ms) ≡ false

-- it holds at a moment, or is over from it on or before, and then goes on; or it doesn't hold
abbrev pub LooksAt : Steered → Moment → Held → Held → Bool → Type 0
LooksAt steered m old new true = (ms : List Moment) → still_held steered (m ∷ ms) old ≡ still_held steered ms new
LooksAt steered m old new false = (ms : List Moment) → still_held steered (m ∷ ms) old ≡ false

-- one that begins at a moment, and joins the others
abbrev pub first_held : Moment → Watch → Held
first_held m watch = record { watch = watch; from = m.clock; over = false; was = false; due = None }

abbrev pub Begins : Steered → Moment → Watch → List Held → List Held → Bool → Type 0
Begins steered m watch old new holds = (h : Held) × (new ≡ old ++ h ∷ []) × LooksAt steered m (first_held m watch) h holds

-- nothing is wrong with one that begins, and the others decide; or something is
abbrev pub Starts : {X : Type 0} → Steered → Moment → Watch → List Held → List Held → Option X → Type 0
Starts steered m watch old new None =
    (ms : List Moment) → (held steered m.clock watch (m ∷ ms) && all_held steered old ms) ≡ all_held steered new ms
Starts steered m watch old new (Some x) = (ms : List Moment) → held steered m.clock watch (m ∷ ms) ≡ false

-- nothing is wrong at a moment, or one of them doesn't hold
abbrev pub Looks : {X : Type 0} → Steered → Moment → List Held → List Held → Option X → Type 0
Looks steered m old new None = GoOver steered old (m ∷ []) new
Looks steered m old new (Some x) = IsBroken steered old (m ∷ [])

-- ---- what becomes of lines

-- Over these moments what should be right is right, and all hold that are watched; or something is wrong.
abbrev pub Goes : {X : Type 0} → Steered → Bool → List Moment → List Held → List Held → Option X → Type 0
Goes steered right over old new None = (right ≡ true) × GoOver steered old over new
Goes steered right over old new (Some x) = (right ≡ false) ⊎ IsBroken steered old over

-- a command that should be accepted, behind which these lines stand
abbrev pub ChecksStep : {X : Type 0} → Steered → Moment → Step → List Line → List Held → List Held → Option X → Type 0
ChecksStep steered m step lines old new wrong =
    Goes steered (is_fine steered lines m.history step.timed) (behind_step steered m step ∷ []) old new wrong

abbrev pub Checks : {X : Type 0} → Steered → Moment → TimedCommand → List Line → List Held → List Held → Option X → Type 0
Checks steered m timed lines old new wrong = ChecksStep steered m (plain_step m timed) lines old new wrong

-- the commands of a run, up to this raw instant
abbrev pub steps_from : Steered → Option Condition → ℤ → Moment → List Step
steps_from steered until limit m = run_steps steered until limit most m

abbrev pub end_of : Steered → Option Condition → ℤ → Moment → Moment
end_of steered until limit m = last_moment m (moments steered m (steps_from steered until limit m))

abbrev pub Runs : {X : Type 0} → Steered → Option Condition → ℤ → Moment → List Line → List Held → List Held → Option X → Type 0
Runs steered until limit m lines old new wrong =
    Goes steered (are_fine steered lines m (steps_from steered until limit m)
    && is_reached steered until (steps_from steered until limit m) (end_of steered until limit m))
    (moments steered m (steps_from steered until limit m)) old new wrong

-- where a run ends: behind RUN at its limit, behind UNTIL at its last command
abbrev pub run_end : Steered → Option Condition → ℤ → Moment → Moment
run_end steered None limit m = record {
  history = (end_of steered None limit m).history;
  clock = later (end_of steered None limit m).clock limit;
  stimuli = (end_of steered None limit m).stimuli;
}
run_end steered (Some until) limit m = end_of steered (Some until) limit m

-- what these lines give from this moment on, and where the case ends
abbrev pub rest_moments : Steered → Moment → List Line → List Moment
rest_moments steered m lines = moments steered m (steps_of steered m lines) ++ behind_lines steered m lines ∷ []

-- From this moment on the lines pass, and all hold that are watched.
abbrev pub rest_passes : Steered → Moment → List Held → List Line → Bool
rest_passes steered m hs lines = passes_from steered m lines && all_held steered hs (rest_moments steered m lines)

-- Nothing is wrong with a line, and the others decide; or something is.
abbrev pub Obeys : {X : Type 0} → Steered → Moment → Line → List Line → List Held → List Held → Option X → Type 0
Obeys steered m line lines old new None =
    rest_passes steered m old (line ∷ lines) ≡ rest_passes steered (behind_line steered m line) new lines
Obeys steered m line lines old new (Some x) = rest_passes steered m old (line ∷ lines) ≡ false
