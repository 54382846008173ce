-- Which commands a line gives, and where a case stands behind it.
use Rattle.std.specs.Prelude.{List, [], ◌∷◌, ◌++◌, map, ℤ, None}
use Rattle.sfc_replay.specs.sfc_debug.Histories.{TimedCommand}
use Rattle.sfc_replay.specs.sfc_debug.Steered.{Steered}
use Rattle.sfc_cases.specs.declared.deed.Deed.{Deed}
use Rattle.sfc_cases.specs.declared.deed.Deed.TheVariants.{Gives, Refuses, Runs, Stirs}
use Rattle.sfc_cases.specs.declared.line.Line.{Line}
use Rattle.sfc_cases.specs.Lines.{instant_after}
use Rattle.sfc_judge.specs.Moments.{Moment, Step, at_instant, last_moment, moments, plain_step}
use Rattle.sfc_judge.specs.Scans.{most, run_steps}
use Rattle.sfc_cases.specs.Stimuli.{begun}
use Rattle.sfc_judge.specs.Dues.{later}

-- the commands that a deed gives from this moment on, the first first
abbrev pub given : Steered → Moment → Deed → List Step
given steered m (Gives command) = plain_step m (command, m.clock) ∷ []
given steered m (Refuses n command) = plain_step m (command, m.clock) ∷ []
given steered m (Runs until limit) = run_steps steered until (instant_after m.clock limit) most m
given steered m _ = []

-- Behind RUN the clock stands at its instant, also where no command came then; a stimulus goes on from its line.
abbrev pub settled : Deed → ℤ → Moment → Moment
settled (Runs None limit) clock m =
    record { history = m.history; clock = later m.clock (instant_after clock limit); stimuli = m.stimuli }
settled (Stirs stimulus) clock m =
    record { history = m.history; clock = m.clock; stimuli = m.stimuli ++ begun clock stimulus ∷ [] }
settled _ clock m = m

-- where the case stands behind a deed
abbrev pub behind : Steered → Moment → Deed → Moment
behind steered m deed = settled deed m.clock (last_moment m (moments steered m (given steered m deed)))

-- where the deed of a line begins, and where the case stands behind the line
abbrev pub here : Moment → Line → Moment
here m line = at_instant m line.instant

abbrev pub behind_line : Steered → Moment → Line → Moment
behind_line steered m line = behind steered (here m line) line.deed

-- what these lines give
abbrev pub steps_of : Steered → Moment → List Line → List Step
steps_of steered m [] = []
steps_of steered m (line ∷ lines) =
    given steered (here m line) line.deed ++ steps_of steered (behind_line steered m line) lines

-- The commands of these lines: the case as a script.
abbrev pub commands_of : Steered → Moment → List Line → List TimedCommand
commands_of steered m lines = map (λ step. step.timed) (steps_of steered m lines)

-- where a case stands behind all these lines
abbrev pub behind_lines : Steered → Moment → List Line → Moment
behind_lines steered m [] = m
behind_lines steered m (line ∷ lines) = behind_lines steered (behind_line steered m line) lines
