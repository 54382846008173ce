-- What a session writes, piece by piece: the lines of each command that it accepts, but of steps in which nothing changed, and between them
-- refusals, notes and what is shown; and what the script of these commands says, where it is read again.
use Rattle.std.specs.Prelude.{◌≡◌, ℕ, ◌<◌, ◌+◌, true, ⊤, List, [], ◌∷◌, ◌++◌, length, codes, ℤ, Some}
use Rattle.sfc_base.specs.Names.{IsName}
use Rattle.sfc_base.specs.TimeText.{time_text}
use Rattle.sfc_plant.specs.Finding.{task_named}
use Rattle.sfc_plant.specs.Names.{task_name}
use Rattle.sfc_plant.specs.Plants.{PlantData}
use Rattle.sfc_asking.specs.sfc_debug.declared.break_condition.BreakCondition.{BreakCondition}
use Rattle.sfc_asking.specs.sfc_debug.Histories.{CommandHistory, TimedCommand}
use Rattle.sfc_asking.specs.sfc_script.Commands.{said_of}
use Rattle.sfc_asking.specs.sfc_script.Lines.{is_one_line}
use Rattle.sfc_asking.specs.sfc_script.Scripts.{LineReads}
use Rattle.sfc_session.specs.Sessions.{script_line}

-- a piece of it
pub data Piece : Type 0 where
  -- what is said of a command that was accepted, and before it the conditions that joined the table with the command, and its words
  Accepted : TimedCommand → List BreakCondition → List ℕ → List ℕ → Piece
  -- a step that was accepted, with its words and what is said of it, which isn't shown
  Hidden : TimedCommand → List ℕ → List ℕ → Piece
  -- anything else
  Other : List ℕ → Piece

abbrev pub piece_text : Piece → List ℕ
piece_text (Accepted timed conditions words text) = text
piece_text (Hidden timed words text) = []
piece_text (Other text) = text

-- the whole of it
abbrev pub written : List Piece → List ℕ
written [] = []
written (piece ∷ pieces) = piece_text piece ++ written pieces

-- the commands that were accepted, behind others; the newest is the first
abbrev pub history_after : CommandHistory → List Piece → CommandHistory
history_after h [] = h
history_after h (Accepted timed conditions words text ∷ pieces) = history_after (timed ∷ h) pieces
history_after h (Hidden timed words text ∷ pieces) = history_after (timed ∷ h) pieces
history_after h (Other text ∷ pieces) = history_after h pieces

-- what is said of them
abbrev pub said : List Piece → List ℕ
said [] = []
said (Accepted timed conditions words text ∷ pieces) = text ++ said pieces
said (Hidden timed words text ∷ pieces) = text ++ said pieces
said (Other text ∷ pieces) = said pieces

-- their lines of the script, in order
abbrev pub saved : List Piece → List ℕ
saved [] = []
saved (Accepted timed conditions words text ∷ pieces) = script_line timed.1 words ++ saved pieces
saved (Hidden timed words text ∷ pieces) = script_line timed.1 words ++ saved pieces
saved (Other text ∷ pieces) = saved pieces

-- the commands that were accepted, in order
abbrev pub commands : List Piece → List TimedCommand
commands [] = []
commands (Accepted timed conditions words text ∷ pieces) = timed ∷ commands pieces
commands (Hidden timed words text ∷ pieces) = timed ∷ commands pieces
commands (Other text ∷ pieces) = commands pieces

-- the conditions that joined the table, in order
abbrev pub added : List Piece → List BreakCondition
added [] = []
added (Accepted timed conditions words text ∷ pieces) = conditions ++ added pieces
added (Hidden timed words text ∷ pieces) = added pieces
added (Other text ∷ pieces) = added pieces

-- ---- its script, read again

-- the task with this number is found by its name, and that is a name
pub record IsNamed (plant : PlantData) (task : ℕ) : Type 0 where
  pub name : IsName (task_name plant.tasks task)
  pub found : task_named plant (task_name plant.tasks task) ≡ Some (record { 0 = task })

abbrev pub AreNamed : PlantData → Type 0
AreNamed plant = (task : ℕ) → task < length plant.tasks → IsNamed plant task

-- the line of a command, without its end
abbrev pub line_text : ℤ → List ℕ → List ℕ
line_text raw words = time_text raw ++ codes " " ++ words

-- The line with these words says the command behind lines with k conditions, and adds these conditions.
pub record IsSaid (plant : PlantData) (k : ℕ) (timed : TimedCommand) (conditions : List BreakCondition) (words : List ℕ) : Type 0 where
  pub whole : is_one_line (line_text timed.1 words) ≡ true
  pub says : LineReads plant k (said_of plant (line_text timed.1 words)) (Some (record { commands = timed ∷ []; table = conditions }))

-- so do all lines of the script
abbrev pub AreSaid : PlantData → ℕ → List Piece → Type 0
AreSaid plant k [] = ⊤
AreSaid plant k (Accepted timed conditions words text ∷ pieces) =
    IsSaid plant k timed conditions words × AreSaid plant (k + length conditions) pieces
AreSaid plant k (Hidden timed words text ∷ pieces) = IsSaid plant k timed [] words × AreSaid plant k pieces
AreSaid plant k (Other text ∷ pieces) = AreSaid plant k pieces
