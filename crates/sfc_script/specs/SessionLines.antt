-- What a line of a session says: commands have no instants there (our choice of format).
use Rattle.std.specs.Prelude.{ℕ, List, Option, Some, None, if◌then◌else◌}
use Rattle.sfc_plant.specs.Plants.{PlantData}
use Rattle.sfc_events.specs.declared.command.Command.{Command}
use Rattle.sfc_script.specs.declared.session_line.SessionLine.{SessionLine}
use Rattle.sfc_script.specs.declared.session_line.SessionLine.TheVariants.{Skipped, Says, Faulty}
use Rattle.sfc_script.specs.Commands.{begins_comment, command_of}
use Rattle.sfc_script.specs.Lines.{first_word}

abbrev pub said_now : Option Command → SessionLine
said_now None = Faulty
said_now (Some command) = Says command

abbrev pub session_line_by : PlantData → List ℕ → Option (List ℕ × List ℕ) → SessionLine
session_line_by plant line None = Skipped
session_line_by plant line (Some w) = if begins_comment w.0 then Skipped else said_now (command_of plant line)

-- A line without words, and one whose first word begins with a semicolon, is skipped. Any other is a command without a condition.
abbrev pub session_line : PlantData → List ℕ → SessionLine
session_line plant line = session_line_by plant line (first_word line)
