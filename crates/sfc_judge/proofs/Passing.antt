-- A line, and the lines behind it.
use Rattle.std.proofs.Common.{◌≡◌, ◌∙◌, append_assoc, refl, sym, ap, subst, ℕ, Bool, true, false, ◌&&◌, List, [], ◌∷◌, ◌++◌, ℤ, Option, Some, None, inl, inr}
use Rattle.std.specs.Prelude.{◌||◌, is_none, IfNone, IfOk, OnOk, Result, Ok, Err}
use Rattle.sfc_replay.specs.sfc_debug.Steered.{Steered}
use Rattle.sfc_cases.specs.declared.joined.Condition.{Condition}
use Rattle.sfc_cases.specs.declared.stimulus.Stimulus.{Stimulus}
use Rattle.sfc_events.specs.declared.command.Command.{Command}
use Rattle.sfc_replay.specs.sfc_output.Output.{debugger_of}
use Rattle.sfc_judge.specs.declared.bench.Bench.{Bench}
use Rattle.sfc_cases.specs.declared.deed.Deed.{Deed}
use Rattle.sfc_cases.specs.declared.deed.Deed.TheVariants as deeds
use Rattle.sfc_cases.specs.declared.instant.Instant.{Instant}
use Rattle.sfc_cases.specs.declared.line.Line.{Line}
use Rattle.sfc_cases.specs.declared.watch.Watch.{Watch}
use Rattle.sfc_cases.specs.declared.watch.Watch.TheVariants.{Stays, Responds}
use Rattle.sfc_judge.specs.Courses.{behind, behind_line, behind_lines, given, here, settled, steps_of}
use Rattle.sfc_judge.specs.Holding.{held, holds, is_refused, is_right, passes_from}
use Rattle.sfc_cases.specs.Lines.{instant_after}
use Rattle.sfc_judge.specs.Moments.{Moment, Step, behind_command, behind_step, last_moment, moments}
use Rattle.sfc_judge.specs.Running.Benches.{Stands}
use Rattle.sfc_judge.specs.Running.Watching.{Checks, Goes, Held, Looks, Obeys, Runs, Starts, all_held, rest_moments, rest_passes, run_end, still_by}
use Rattle.sfc_judge.proofs.Watched.{and_false}

-- ---- moments

-- they go by what was accepted
pub moments_same : (st : Steered) (m n : Moment) (cs : List Step) → m.history ≡ n.history → moments st m cs ≡ moments st n cs
moments_same st m n [] e = refl
moments_same st m n (step ∷ cs) e =
    ap (λ h. let next : Moment = record { history = (debugger_of st).after h step.timed; clock = step.timed.1; stimuli = step.stimuli } in next ∷ moments st next cs) e

pub moments_appended : (st : Steered) (m : Moment) (cs ds : List Step)
    → moments st m (cs ++ ds) ≡ moments st m cs ++ moments st (last_moment m (moments st m cs)) ds
moments_appended st m [] ds = refl
moments_appended st m (step ∷ cs) ds = ap (λ ms. behind_step st m step ∷ ms) (moments_appended st (behind_step st m step) cs ds)

pub settled_history : (deed : Deed) (clock : ℤ) (m : Moment) → (settled deed clock m).history ≡ m.history
settled_history (deeds.Begins name) clock m = refl
settled_history (deeds.Gives command) clock m = refl
settled_history (deeds.Refuses n command) clock m = refl
settled_history (deeds.Runs None limit) clock m = refl
settled_history (deeds.Runs (Some until) limit) clock m = refl
settled_history (deeds.Expects condition) clock m = refl
settled_history (deeds.Active p steps) clock m = refl
settled_history (deeds.Faulted fault p) clock m = refl
settled_history (deeds.Overran n task) clock m = refl
settled_history (deeds.Watches watch) clock m = refl
settled_history (deeds.Stirs stimulus) clock m = refl

-- ---- lines

module _ (st : Steered) (m : Moment) (line : Line) (lines : List Line) where
  abbrev at : Moment
  at = here m line

  abbrev over : List Moment
  over = moments st at (given st at line.deed)

  abbrev behind_it : Moment
  behind_it = behind_line st m line

  abbrev later : List Moment
  later = rest_moments st behind_it lines

  abbrev ended : List Moment
  ended = behind_lines st behind_it lines ∷ []

  all_moments : rest_moments st m (line ∷ lines) ≡ over ++ later
  all_moments =
      ap (λ ms. ms ++ ended) (moments_same st m at (given st at line.deed ++ steps_of st behind_it lines) refl
      ∙ moments_appended st at (given st at line.deed) (steps_of st behind_it lines)
      ∙ ap (λ ms. over ++ ms) (moments_same st (last_moment at over) behind_it (steps_of st behind_it lines)
      (sym (settled_history line.deed at.clock (last_moment at over)))))
      ∙ append_assoc over (moments st behind_it (steps_of st behind_it lines)) ended

  this_line : (hs : List Held) → rest_passes st m hs (line ∷ lines)
      ≡ ((is_right st at line.deed lines && passes_from st behind_it lines) && all_held st hs (over ++ later))
  this_line hs = ap (λ ms. (is_right st at line.deed lines && passes_from st behind_it lines) && all_held st hs ms) all_moments

  -- what is right or wrong with the line, and what is watched over its moments
  pub obeys : {X : Type 0} (old new : List Held) (wrong : Option X) → Goes st (is_right st at line.deed lines) over old new wrong
      → Obeys st m line lines old new wrong
  obeys old new None goes =
      this_line old ∙ ap (λ r. (r && passes_from st behind_it lines) && all_held st old (over ++ later)) goes.0
      ∙ ap (λ h. passes_from st behind_it lines && h) (goes.1 later)
  obeys old new (Some x) (inl wrong) =
      this_line old ∙ ap (λ r. (r && passes_from st behind_it lines) && all_held st old (over ++ later)) wrong
  obeys old new (Some x) (inr broken) =
      this_line old ∙ ap (λ h. (is_right st at line.deed lines && passes_from st behind_it lines) && h) (broken later)
      ∙ and_false (is_right st at line.deed lines && passes_from st behind_it lines)

-- ---- what each deed says

module _ (st : Steered) (m : Moment) (line : Line) (lines : List Line) {X : Type 0} (old new : List Held) (wrong : Option X) where
  abbrev now : Moment
  now = here m line

  abbrev GoesBy : Deed → Type 0
  GoesBy deed = Goes st (is_right st now deed lines) (moments st now (given st now deed)) old new wrong

  by_deed : (deed : Deed) → line.deed ≡ deed → GoesBy deed → Obeys st m line lines old new wrong
  by_deed deed e goes = obeys st m line lines old new wrong (subst (λ (d : Deed). GoesBy d) (sym e) goes)

  pub obeys_giving : (command : Command) → line.deed ≡ deeds.Gives command → Checks st now (command, now.clock) lines old new wrong
      → Obeys st m line lines old new wrong
  obeys_giving command e checks = by_deed (deeds.Gives command) e checks

  pub obeys_refusing : (n : ℕ) (command : Command) → line.deed ≡ deeds.Refuses n command
      → Goes st (is_refused n ((debugger_of st).verdict now.history (command, now.clock))) (behind_command st now (command, now.clock) ∷ []) old new wrong
      → Obeys st m line lines old new wrong
  obeys_refusing n command e goes = by_deed (deeds.Refuses n command) e goes

  pub obeys_running : (until : Option Condition) (limit : Instant) → line.deed ≡ deeds.Runs until limit
      → Runs st until (instant_after now.clock limit) now lines old new wrong → Obeys st m line lines old new wrong
  obeys_running None limit e runs = by_deed (deeds.Runs None limit) e runs
  obeys_running (Some until) limit e runs = by_deed (deeds.Runs (Some until) limit) e runs

pub obeys_watching : (st : Steered) (m : Moment) (line : Line) (lines : List Line) {X : Type 0} (old new : List Held) (wrong : Option X) (watch : Watch)
    → line.deed ≡ deeds.Watches watch → Starts st (here m line) watch old new wrong → Obeys st m line lines old new wrong
obeys_watching st m line lines {X = X} old new wrong watch e starts =
    subst (λ (d : Deed). Obeys st m (record { number = line.number; instant = line.instant; deed = d }) lines old new wrong) (sym e) (by wrong starts)
  where
    at : Moment
    at = here m line

    watching : Line
    watching = record { number = line.number; instant = line.instant; deed = deeds.Watches watch }

    rest : List Moment
    rest = rest_moments st at lines

    same : moments st m (steps_of st at lines) ++ behind_lines st at lines ∷ [] ≡ rest
    same = ap (λ ms. ms ++ behind_lines st at lines ∷ []) (moments_same st m at (steps_of st at lines) refl)

    swapped : (a b c : Bool) → ((a && b) && c) ≡ (b && (a && c))
    swapped true b c = refl
    swapped false true c = refl
    swapped false false c = refl

    begun : rest_passes st m old (watching ∷ lines) ≡ (passes_from st at lines && (held st at.clock watch (at ∷ rest) && all_held st old rest))
    begun = ap (λ ms. (held st at.clock watch (at ∷ rest) && passes_from st at lines) && all_held st old ms) same
        ∙ swapped (held st at.clock watch (at ∷ rest)) (passes_from st at lines) (all_held st old rest)

    by : (w : Option X) → Starts st at watch old new w → Obeys st m watching lines old new w
    by None starts = begun ∙ ap (λ t. passes_from st at lines && t) (starts rest)
    by (Some x) starts = begun ∙ ap (λ t. passes_from st at lines && (t && all_held st old rest)) (starts rest) ∙ and_false (passes_from st at lines)

-- a deed that says something of a moment alone
pub obeys_plain : (st : Steered) (m : Moment) (line : Line) (lines : List Line) {X : Type 0} (held : List Held) (wrong : Option X) (deed : Deed)
    → line.deed ≡ deed → given st (here m line) deed ≡ [] → is_right st (here m line) deed lines ≡ is_none wrong
    → Obeys st m line lines held held wrong
obeys_plain st m line lines {X = X} held None deed e none right =
    obeys st m line lines {X = X} held held None
    (subst (λ (d : Deed). Goes {X = X} st (is_right st (here m line) d lines) (moments st (here m line) (given st (here m line) d)) held held None) (sym e)
    (right, λ ms. ap (λ cs. all_held st held (moments st (here m line) cs ++ ms)) none))
obeys_plain st m line lines {X = X} held (Some x) deed e none right =
    obeys st m line lines {X = X} held held (Some x)
    (subst (λ (d : Deed). Goes {X = X} st (is_right st (here m line) d lines) (moments st (here m line) (given st (here m line) d)) held held (Some x)) (sym e)
    (inl right))

-- the deeds that say something of a moment alone
pub plain_deed : (st : Steered) (at : Moment) (deed : Deed) (lines : List Line) → ((c : Command) → deed ≡ deeds.Gives c → ⊥)
    → ((n : ℕ) (c : Command) → deed ≡ deeds.Refuses n c → ⊥)
    → ((u : Option Condition) (l : Instant) → deed ≡ deeds.Runs u l → ⊥) → ((w : Watch) → deed ≡ deeds.Watches w → ⊥)
    → ((s : Stimulus) → deed ≡ deeds.Stirs s → ⊥)
    → (given st at deed ≡ []) × (is_right st at deed lines ≡ holds st at deed) × (behind st at deed ≡ at)
plain_deed st m (deeds.Begins name) lines a b c d f = (refl, refl, refl)
plain_deed st m (deeds.Gives command) lines a b c d f = absurd (a command refl)
plain_deed st m (deeds.Refuses n command) lines a b c d f = absurd (b n command refl)
plain_deed st m (deeds.Runs until limit) lines a b c d f = absurd (c until limit refl)
plain_deed st m (deeds.Expects condition) lines a b c d f = (refl, refl, refl)
plain_deed st m (deeds.Active p steps) lines a b c d f = (refl, refl, refl)
plain_deed st m (deeds.Faulted fault p) lines a b c d f = (refl, refl, refl)
plain_deed st m (deeds.Overran n task) lines a b c d f = (refl, refl, refl)
plain_deed st m (deeds.Watches watch) lines a b c d f = absurd (d watch refl)
plain_deed st m (deeds.Stirs stimulus) lines a b c d f = absurd (f stimulus refl)

-- where a run ends
pub run_behind : (st : Steered) (at : Moment) (until : Option Condition) (limit : Instant)
    → run_end st until (instant_after at.clock limit) at ≡ behind st at (deeds.Runs until limit)
run_behind st m None limit = refl
run_behind st m (Some until) limit = refl

-- where a case has ended
pub all_end : (st : Steered) (hs : List Held) → all_held st hs [] ≡ true
all_end st [] = refl
all_end st (h ∷ hs) = ap (λ t. t && all_held st hs []) (by h.watch) ∙ all_end st hs
  where
    or_true : (t : Bool) → (t || true) ≡ true
    or_true true = refl
    or_true false = refl

    by : (w : Watch) → still_by st [] h w ≡ true
    by (Stays steady) = or_true h.over
    by (Responds response) = refl

pub ends : {X : Type 0} (st : Steered) (m : Moment) (old new : List Held) (wrong : Option X) → Looks st m old new wrong
    → is_none wrong ≡ all_held st old (m ∷ [])
ends st m old new None looks = sym (looks [] ∙ all_end st new)
ends st m old new (Some x) broken = sym (broken [])

pub each_ok : {A E : Type 0} (result : Result A E) (P Q : A → Type 0) → ((a : A) → P a → Q a) → IfOk result P → IfOk result Q
each_ok (Ok a) P Q every has = every a has
each_ok (Err error) P Q every has = tt

pub whatever : {X : Type 0} (wrong : Option X) (P : Type 0) → P → IfNone wrong P
whatever None P has = has
whatever (Some x) P has = tt

-- where a case stands behind a stimulus that begins
pub stirs_stands : {X E : Type 0} (result : Result (Option X) E) (bench : Bench) (m n : Moment) → m ≡ n → OnOk result (Stands bench n)
    → IfOk result (λ wrong. IfNone wrong (Stands bench m))
stirs_stands (Ok wrong) bench m n e stands = whatever wrong (Stands bench m) (subst (λ (x : Moment). Stands bench x) (sym e) stands)
stirs_stands (Err error) bench m n e stands = tt
