-- What a session has written: pieces of which those of accepted commands are what a replay writes for them, and a script that says them.
use Rattle.std.specs.Prelude.{◌≡◌, ℕ, List, [], ◌++◌, length, reverse}
use Rattle.sfc_plant.specs.Plants.{PlantData}
use Rattle.sfc_asking.specs.sfc_debug.Histories.{CommandHistory}
use Rattle.sfc_asking.specs.sfc_debug.Steered.{Steered}
use Rattle.sfc_asking.specs.sfc_output.Output.{closing_lines, commands_lines, debugger_of, session_after, text_of}
use Rattle.sfc_replay.specs.Replay.{IsOutput}
use Rattle.sfc_session.specs.declared.session.Session.{Session}
use Rattle.sfc_prompt.specs.Pieces.{Piece, written, history_after, said, saved, commands, added, AreNamed, AreSaid}
use Rattle.sfc_session.specs.Sessions.{HasSaid, script_in, steered_in}

-- A session that steered this, has said this of these commands and had this script has gone on, and in between the text was written. Where
-- each task is found by its name, the lines of the script that came behind say the commands that were accepted.
pub record HasGoneOn (steered : Steered) (h : CommandHistory) (lines before : List ℕ) (text : List ℕ) (session : Session) : Type 0 where
  pub pieces : List Piece
  pub whole : text ≡ written pieces
  pub said : HasSaid session (history_after h pieces) (lines ++ said pieces)
  pub script : script_in session ≡ before ++ saved pieces
  pub plant : (steered_in session).plant ≡ steered.plant
  pub table : (steered_in session).table ≡ steered.table ++ added pieces
  pub says : AreNamed steered.plant → AreSaid steered.plant (length steered.table) pieces

-- a plant before any breakpoint waits for a condition
abbrev pub opened_on : PlantData → Steered
opened_on plant = record { plant = plant; table = [] }

-- All that a session has written since its opening: what is said of its accepted commands is what a replay writes of them, over the
-- conditions that the session has, and the replay accepts all of them; and the script has a line for each.
pub record IsTranscript (session : Session) (text : List ℕ) : Type 0 where
  pub pieces : List Piece
  pub whole : text ≡ written pieces
  pub lines : said pieces ≡ commands_lines (debugger_of (steered_in session)) (text_of (steered_in session)) [] (commands pieces)
  pub accepted : session_after (debugger_of (steered_in session)) [] (commands pieces) ≡ reverse (commands pieces)
  pub script : script_in session ≡ saved pieces

-- A replay of the session's script on a chart writes what was said of its accepted commands, and then the lines of the variables.
pub record IsReplayed (chart : List ℕ) (session : Session) (text : List ℕ) : Type 0 where
  pub transcript : IsTranscript session text
  pub output : IsOutput chart (script_in session) (said transcript.pieces
      ++ closing_lines (debugger_of (steered_in session)) (text_of (steered_in session)) (reverse (commands transcript.pieces)))

-- From one session to a later one a text was put behind another.
abbrev pub GoesOn : Session → Session → List ℕ → List ℕ → CommandHistory → List ℕ → Type 0
GoesOn old new before behind h lines =
    (text : List ℕ) × (behind ≡ before ++ text) × HasGoneOn (steered_in old) h lines (script_in old) text new

-- What it has in it of accepted commands is what a replay writes of them, whatever was accepted before.
abbrev pub Puts : Session → Session → List ℕ → List ℕ → Type 0
Puts old new before behind = (h : CommandHistory) (lines : List ℕ) → HasSaid old h lines → GoesOn old new before behind h lines
