-- What a prompt holds, and whether it goes on.
use Rattle.std.specs.Prelude.{Option, []}
use Rattle.sfc_session.specs.declared.step.Step.{Step}
use Rattle.sfc_prompt.specs.declared.course.Course.{Course}
use Rattle.sfc_prompt.specs.declared.line.Word.TheVariants.{Quit}
use Rattle.sfc_prompt.specs.declared.prompt.Flow.{Flow}
use Rattle.sfc_prompt.specs.declared.prompt.Flow.TheVariants.{GoesOn, Ends}
use Rattle.sfc_prompt.specs.declared.prompt.Prompt.{Prompt}
use Rattle.sfc_session.specs.declared.session.Session.{Session}
use Rattle.sfc_prompt.specs.Lines.{Said, Asks}

-- its session
unfoldable pub session_in : Prompt → Session
session_in prompt = prompt.session

-- the steps that are under way, if there are any
unfoldable pub course_in : Prompt → Option Course
course_in prompt = prompt.course

-- the step that was last taken, if there is one
unfoldable pub last_in : Prompt → Option Step
last_in prompt = prompt.last

-- it ends at QUIT alone
abbrev pub flow_of : Said → Flow
flow_of (Asks Quit []) = Ends
flow_of _ = GoesOn
