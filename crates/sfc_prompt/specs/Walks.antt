-- What becomes of lines: each is obeyed, and all steps that it begins are taken; one that is too long is told. Behind QUIT nothing is done.
use Rattle.std.specs.Prelude.{◌≡◌, ◌⊎◌, ℕ, zero, suc, nat_lt, Bool, true, false, List, [], ◌∷◌, ◌++◌, length, codes, Some, None}
use Rattle.sfc_asking.specs.sfc_debug.Histories.{CommandHistory}
use Rattle.sfc_session.specs.Sessions.{HasSaid, steered_in}
use Rattle.sfc_prompt.specs.declared.course.Course.{Course}
use Rattle.sfc_prompt.specs.declared.prompt.Flow.{Flow}
use Rattle.sfc_prompt.specs.declared.prompt.Flow.TheVariants.{GoesOn, Ends}
use Rattle.sfc_prompt.specs.declared.prompt.Prompt.{Prompt}
use Rattle.sfc_prompt.specs.Courses.{Begins, StepsOn, is_over_after, step_behind}
use Rattle.sfc_prompt.specs.Lines.{line_said}
use Rattle.sfc_prompt.specs.Orders.{Obeys, order_of}
use Rattle.sfc_prompt.specs.Prompts.{course_in, flow_of, last_in, session_in}

-- ---- a line

-- What the line says was obeyed, and this was put for it.
pub record IsAnswered (old new : Prompt) (line text : List ℕ) : Type 0 where
  pub obeys : (h : CommandHistory) (lines : List ℕ) → HasSaid (session_in old) h lines →
      Obeys (session_in old) (session_in new) [] text h lines (order_of (steered_in (session_in old)) h (line_said line))
  pub last : last_in new ≡ step_behind (steered_in (session_in old)).plant (last_in old) (line_said line)
  pub begins : Begins (steered_in (session_in old)).plant (last_in old) (line_said line) (course_in old) (course_in new)

-- The next of the steps under way was taken, or they have ended, and this was put for it.
pub record IsNext (old new : Prompt) (text : List ℕ) : Type 0 where
  pub course : Course
  pub under_way : course_in old ≡ Some course
  pub steps : (h : CommandHistory) (lines : List ℕ) → HasSaid (session_in old) h lines →
      StepsOn (session_in old) (session_in new) [] text h lines course (course_in new) (is_over_after (steered_in (session_in old)) h course)
  pub last : last_in new ≡ last_in old

-- that so often, one after the other
abbrev pub TakesSteps : ℕ → Prompt → Prompt → List ℕ → Type 0
TakesSteps zero old new text = (new ≡ old) × (text ≡ [])
TakesSteps (suc n) old new text =
    (mid : Prompt) × (first : List ℕ) × (rest : List ℕ) × TakesSteps n old mid first × IsNext mid new rest × (text ≡ first ++ rest)

abbrev pub TakesSome : Prompt → Prompt → List ℕ → Type 0
TakesSome old new text = (count : ℕ) × TakesSteps count old new text

-- The line was obeyed, then the steps that it began were taken until none was under way, and this was put for them.
abbrev pub TakesAll : Prompt → Prompt → List ℕ → List ℕ → Type 0
TakesAll old new line text =
    (mid : Prompt) × (first : List ℕ) × (rest : List ℕ) × IsAnswered old mid line first × TakesSome mid new rest × (course_in new ≡ None)
    × (text ≡ first ++ rest)

-- Before an error some of the steps under way were taken, and this was put for them.
abbrev pub StepsInto : Prompt → List ℕ → Type 0
StepsInto old text = (later : Prompt) × TakesSome old later text

-- Before an error the line was obeyed, and this was put for it; or nothing was put.
abbrev pub AnswersInto : Prompt → List ℕ → List ℕ → Type 0
AnswersInto old line text = (text ≡ []) ⊎ ((later : Prompt) × IsAnswered old later line text)

-- it has more than 1,048,576 bytes
abbrev pub is_long : List ℕ → Bool
is_long line = nat_lt 1048576 (length line)

-- which is told so
abbrev pub too_long : List ℕ
too_long = codes "; the line has more than 1048576 bytes\n"

-- A line that is too long is told, and nothing else is done; any other is obeyed.
abbrev pub TakesLine : Bool → Prompt → Prompt → List ℕ → List ℕ → Type 0
TakesLine true old new line text = (new ≡ old) × (text ≡ too_long)
TakesLine false old new line text = TakesAll old new line text

-- ---- lines

-- One that is too long doesn't end the session, whatever it says.
abbrev pub flow_line : Bool → List ℕ → Flow
flow_line true line = GoesOn
flow_line false line = flow_of (line_said line)

abbrev pub flow_behind : Flow → Flow → Flow
flow_behind GoesOn later = later
flow_behind Ends later = Ends

-- whether more lines are obeyed behind these
abbrev pub flow_after : List (List ℕ) → Flow
flow_after [] = GoesOn
flow_after (line ∷ lines) = flow_behind (flow_line (is_long line) line) (flow_after lines)

-- what shows where to write, so often
abbrev pub invitations : ℕ → List ℕ
invitations zero = []
invitations (suc n) = codes "sfc> " ++ invitations n

-- At a terminal it is shown, however often; elsewhere it is not.
abbrev pub Invites : Bool → List ℕ → Type 0
Invites true text = (count : ℕ) × (text ≡ invitations count)
Invites false text = text ≡ []

-- the one where the session goes on, the other where it has ended
abbrev pub IfOn : Flow → Type 0 → Type 0 → Type 0
IfOn GoesOn more none = more
IfOn Ends more none = none

-- The lines were taken in their order, each once, up to QUIT, and this was put for them, at a terminal or elsewhere. Between what is put for
-- two of them stand invitations alone.
abbrev pub Walks : Bool → List (List ℕ) → Prompt → Prompt → List ℕ → Type 0
Walks terminal [] old new text = (new ≡ old) × Invites terminal text
Walks terminal (line ∷ lines) old new text =
    (mid : Prompt) × (asked : List ℕ) × (first : List ℕ) × (rest : List ℕ) × Invites terminal asked
    × TakesLine (is_long line) old mid line first
    × IfOn (flow_line (is_long line) line) (Walks terminal lines mid new rest) ((new ≡ mid) × (rest ≡ []))
    × (text ≡ asked ++ first ++ rest)

-- ---- lines before an error

-- The line was obeyed, some of the steps that it began were taken, and this was put for them.
abbrev pub TakesPart : Prompt → List ℕ → List ℕ → Type 0
TakesPart old line text =
    (mid : Prompt) × (later : Prompt) × (first : List ℕ) × (rest : List ℕ) × IsAnswered old mid line first × TakesSome mid later rest
    × (text ≡ first ++ rest)

-- This was put for a line before an error: that it is too long; or nothing, or what was put for a part of it.
abbrev pub BreaksLine : Bool → Prompt → List ℕ → List ℕ → Type 0
BreaksLine true old line text = text ≡ too_long
BreaksLine false old line text = (text ≡ []) ⊎ TakesPart old line text

-- The error came before the first of these lines, or in it.
abbrev pub BreaksAt : Bool → List (List ℕ) → Prompt → List ℕ → Type 0
BreaksAt terminal [] old text = Invites terminal text
BreaksAt terminal (line ∷ lines) old text = Invites terminal text ⊎ BreaksLine (is_long line) old line text

-- A front of the lines was taken, and this was put for them, and for the next one before an error.
pub record WalksInto (terminal : Bool) (lines : List (List ℕ)) (old : Prompt) (text : List ℕ) : Type 0 where
  pub done : List (List ℕ)
  pub rest : List (List ℕ)
  pub mid : Prompt
  pub first : List ℕ
  pub last : List ℕ
  pub parts : lines ≡ done ++ rest
  pub walks : Walks terminal done old mid first
  pub breaks : BreaksAt terminal rest mid last
  pub whole : text ≡ first ++ last
