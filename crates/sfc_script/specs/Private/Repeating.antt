-- Lines that are taken off one by one, and commands that are said again.
use Rattle.std.specs.Prelude.{◌≡◌, ℕ, List, [], ◌∷◌, ◌++◌, Option, Some, None, IfSome}
use Rattle.std.specs.Option.{option_map}
use Rattle.sfc_plant.specs.Plants.{PlantData}
use Rattle.sfc_events.specs.declared.command.Command.{Command}
use Rattle.sfc_script.specs.declared.repeated.Repeated.{Repeated}
use Rattle.sfc_script.specs.Lines.{lines_of}
use Rattle.sfc_script.specs.Commands.{Said, command_of, said_of}

-- the command that the first line is behind its instant, and the lines behind it
abbrev pub command_first : PlantData → List (List ℕ) → Option (Command × List (List ℕ))
command_first plant [] = None
command_first plant (text ∷ lines) = option_map (λ command. (command, lines)) (command_of plant text)

-- these bytes are this command with the end of its line, whatever follows
abbrev pub Repeats : PlantData → List ℕ → Command → Type 0
Repeats plant tail command =
    (rest : List ℕ) → command_first plant (lines_of (tail ++ rest)) ≡ Some (command, lines_of rest)

-- what is kept, if anything is, is a command with the end of its line
abbrev pub IsLast : PlantData → Option Repeated → Type 0
IsLast plant last = IfSome last (λ r. Repeats plant r.tail.now r.command)

-- the first line of these bytes says this, and these bytes follow it
pub record Begins (plant : PlantData) (bytes : List ℕ) (said : Said) (rest : List ℕ) : Type 0 where
  pub line : List ℕ
  pub lines : lines_of bytes ≡ line ∷ lines_of rest
  pub is : said_of plant line ≡ said
