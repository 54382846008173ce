-- What a session reads from a device, and writes to another.
use Rattle.std.specs.Prelude.{◌≡◌, ◌⊎◌, ◌<◌, ◌^◌, ⊤, ℕ, Bool, true, false, List, [], ◌++◌, codes, length, Option, Some, None, Result, Ok, Err}
use Rattle.std.specs.Io.KnownBytes.{Appends, Consumes, IsAtEnd}
use Rattle.sfc_base.specs.Writing.{AppendsFront}
use Rattle.sfc_asking.specs.sfc_debug.Histories.{CommandHistory}
use Rattle.sfc_asking.specs.sfc_script.Lines.{lines_of}
use Rattle.sfc_asking.specs.sfc_script.sfc_load.Accepted.{IsAccepted}
use Rattle.sfc_replay.specs.declared.replay_error.ReplayError.{ReplayError}
use Rattle.sfc_replay.specs.Acceptance.{Accepts, OfChart, most}
use Rattle.sfc_replay.specs.Reading.{Device, IsUntouched, LosesAtMost}
use Rattle.sfc_replay.specs.Working.Faults.{IsInputFault}
use Rattle.sfc_session.specs.declared.session.Session.{Session}
use Rattle.sfc_session.specs.Sessions.{HasSaid, script_in, steered_in}
use Rattle.sfc_prompt.specs.declared.prompt.Flow.{Flow}
use Rattle.sfc_prompt.specs.declared.prompt.Flow.TheVariants.{GoesOn, Ends}
use Rattle.sfc_prompt.specs.declared.prompt.Prompt.{Prompt}
use Rattle.sfc_prompt.specs.Prompts.{course_in, last_in, session_in}
use Rattle.sfc_prompt.specs.Transcripts.{HasGoneOn}
use Rattle.sfc_prompt.specs.Walks.{Walks, WalksInto, flow_after}

-- From one session to a later one its transcript was written.
abbrev pub Told : Session → Session → Option (List ℕ) → Option (List ℕ) → Type 0
Told old new before behind = (h : CommandHistory) (lines : List ℕ) → HasSaid old h lines
    → (text : List ℕ) × HasGoneOn (steered_in old) h lines (script_in old) text new × Appends before behind text

-- A session has gone on, and a front of its transcript was written.
abbrev pub BreaksOff : Session → Option (List ℕ) → Option (List ℕ) → Type 0
BreaksOff old before behind = (h : CommandHistory) (lines : List ℕ) → HasSaid old h lines
    → (later : Session) × (text : List ℕ) × HasGoneOn (steered_in old) h lines (script_in old) text later × AppendsFront before behind text

-- the whole, or before an error a front
abbrev pub Tells : {X E : Type 0} → Session → Session → Option (List ℕ) → Option (List ℕ) → Result X E → Type 0
Tells old new before behind (Ok x) = Told old new before behind
Tells old new before behind (Err e) = BreaksOff old before behind

-- ---- line by line

-- All of a text was written of which this holds, with what was answered; or before an error a front of one of which that holds.
abbrev pub WritesBy : {X E : Type 0} → Option (List ℕ) → Option (List ℕ) → Result X E → (X → List ℕ → Type 0) → (List ℕ → Type 0) → Type 0
WritesBy before behind (Ok x) Whole Part = (text : List ℕ) × Whole x text × Appends before behind text
WritesBy before behind (Err e) Whole Part = (text : List ℕ) × Part text × AppendsFront before behind text

-- At a terminal the line of the last invitation may be ended.
abbrev pub Leaves : Bool → List ℕ → Type 0
Leaves true text = (text ≡ []) ⊎ (text ≡ codes "\n")
Leaves false text = text ≡ []

-- The lines were taken, and this was put for them and for the end.
abbrev pub WalksOut : Bool → List (List ℕ) → Prompt → Prompt → List ℕ → Type 0
WalksOut terminal lines old new text =
    (walked : List ℕ) × (end : List ℕ) × Walks terminal lines old new walked × Leaves terminal end × (text ≡ walked ++ end)

-- A front of them was taken before an error.
abbrev pub WalksOff : Bool → List (List ℕ) → Prompt → List ℕ → Type 0
WalksOff terminal lines old text =
    (walked : List ℕ) × (end : List ℕ) × WalksInto terminal lines old walked × Leaves terminal end × (text ≡ walked ++ end)

-- Where these bytes were read and the session would go on behind them, the reader had no more; or it has given 2^63 bytes.
abbrev pub ReadsOut : Flow → List ℕ → Option (List ℕ) → Type 0
ReadsOut GoesOn bytes left = length bytes < 2 ^ 63 → IsAtEnd left
ReadsOut Ends bytes left = ⊤

-- The lines of the bytes that the reader lost were taken, which are all up to its end or QUIT, and what was put for them was written. Before an
-- error a front of the lines of such bytes was taken, with which begins what the reader had, and a front of what was put for them was written.
abbrev pub Serves : {X E : Type 0} → Bool → Device → Device → Prompt → Prompt → Result X E → Type 0
Serves terminal reader writer old new (Ok x) =
    (bytes : List ℕ) × Consumes reader.0 reader.1 bytes × ReadsOut (flow_after (lines_of bytes)) bytes reader.1
    × (text : List ℕ) × WalksOut terminal (lines_of bytes) old new text × Appends writer.0 writer.1 text
Serves terminal reader writer old new (Err e) =
    (bytes : List ℕ) × (left : List ℕ) × Consumes reader.0 (Some left) bytes
    × (text : List ℕ) × WalksOff terminal (lines_of bytes) old text × AppendsFront writer.0 writer.1 text

-- ---- with a chart

-- a prompt with a session on the plant that the text is, at which nothing was said
pub record IsOpened (text : List ℕ) (prompt : Prompt) : Type 0 where
  pub loaded : IsAccepted text (steered_in (session_in prompt)).plant
  pub said : HasSaid (session_in prompt) [] []
  pub script : script_in (session_in prompt) ≡ []
  pub course : course_in prompt ≡ None
  pub last : last_in prompt ≡ None

-- why there is none: the chart wasn't taken whole from its reader, or it is refused; or memory was
abbrev pub IsUnopened : Device → ReplayError → Type 0
IsUnopened chart error = (IsInputFault error × LosesAtMost most chart) ⊎ OfChart chart (λ text. Accepts text (Err error))

-- what opening one answers, and what it takes from the reader of the chart
abbrev pub OpensPrompt : Device → Result Prompt ReplayError → Type 0
OpensPrompt chart (Ok prompt) = OfChart chart (λ text. IsOpened text prompt)
OpensPrompt chart (Err error) = IsUnopened chart error

-- A prompt was opened on the text, and then the lines were served there.
pub record IsHeld (terminal : Bool) (reader writer : Device) (result : Result (Unit {0}) ReplayError) (text : List ℕ) : Type 0 where
  pub old : Prompt
  pub new : Prompt
  pub opened : IsOpened text old
  pub tells : Tells (session_in old) (session_in new) writer.0 writer.1 result
  pub serves : Serves terminal reader writer old new result

-- none was opened: no line was taken, and nothing was written
abbrev pub IsUnheld : Device → Device → Device → Result (Unit {0}) ReplayError → Type 0
IsUnheld chart reader writer (Ok done) = ⊥
IsUnheld chart reader writer (Err error) = IsUnopened chart error × IsUntouched reader × IsUntouched writer

-- What holding a session answers, with what it takes from the reader of the chart and that of the lines, and what it writes.
abbrev pub Holds : Bool → Device → Device → Device → Result (Unit {0}) ReplayError → Type 0
Holds terminal chart reader writer result =
    OfChart chart (IsHeld terminal reader writer result) ⊎ IsUnheld chart reader writer result
