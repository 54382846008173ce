-- Which lines of a session ask how all stands (our choice of format).
use Rattle.std.specs.Prelude.{ℕ, Bool, false, ◌||◌, if◌then◌else◌, List, Option, None, Some, codes}
use Rattle.sfc_base.specs.Case.{same_word}
use Rattle.sfc_plant.specs.Plants.{PlantData}
use Rattle.sfc_replay.specs.sfc_script.Lines.{first_word}
use Rattle.sfc_replay.specs.sfc_script.SessionLines.{session_line}
use Rattle.sfc_replay.specs.sfc_script.declared.session_line.SessionLine.{SessionLine}
use Rattle.sfc_replay.specs.sfc_script.declared.session_line.SessionLine.TheVariants.{Skipped}

-- in any case of its letters
abbrev pub is_question : List ℕ → Bool
is_question word =
    same_word word (codes "SHOW") || same_word word (codes "IMAGE") || same_word word (codes "WHY") || same_word word (codes "POINTS")
    || same_word word (codes "TRACE") || same_word word (codes "LIST") || same_word word (codes "EXPLAIN") || same_word word (codes "HELP")

abbrev pub asks_by : Option (List ℕ × List ℕ) → Bool
asks_by None = false
asks_by (Some w) = is_question w.0

-- by its first word
abbrev pub is_asking : List ℕ → Bool
is_asking line = asks_by (first_word line)

-- What a line of the session of a run says: one that asks says nothing to the run.
unfoldable pub run_line : PlantData → List ℕ → SessionLine
run_line plant line = if is_asking line then Skipped else session_line plant line
