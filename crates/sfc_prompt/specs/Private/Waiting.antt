-- Bytes that have come and wait, line by line.
use Rattle.std.specs.Prelude.{◌≡◌, ℕ, ◌-◌, ◌<◌, Bool, true, false, List, [], ◌∷◌, ◌++◌, drop, length, Some, None}
use Rattle.sfc_asking.specs.sfc_script.Arriving.{ended_line}
use Rattle.sfc_asking.specs.sfc_script.Lines.{lines_of}
use Rattle.sfc_prompt.specs.declared.arrived.Arrived.{Arrived}
use Rattle.sfc_prompt.specs.declared.prompt.Flow.{Flow}
use Rattle.sfc_prompt.specs.declared.prompt.Flow.TheVariants.{GoesOn}
use Rattle.sfc_prompt.specs.declared.prompt.Prompt.{Prompt}
use Rattle.sfc_prompt.specs.Walks.{Walks, flow_after, is_long}

-- These bytes were passed over, if any were: a front of a line that is too long, whether its last one is a CR of its end or not.
abbrev pub IsPassed : Bool → List ℕ → Type 0
IsPassed false passed = passed ≡ []
IsPassed true passed = (1048577 < length passed) × (ended_line passed ≡ None)

-- These bytes wait. Those that were passed over are no longer held.
pub record Waits (arrived : Arrived) (bytes : List ℕ) : Type 0 where
  pub passed : List ℕ
  pub front : IsPassed arrived.is_cut passed
  pub whole : bytes ≡ passed ++ arrived.lines

-- Of these bytes the first line that has its end: whether it is too long, it itself where it isn't, and how many bytes wait behind it.
pub record IsFirst (arrived : Arrived) (bytes line : List ℕ) (long : Bool) (left : ℕ) : Type 0 where
  pub first : List ℕ
  pub rest : List ℕ
  pub ended : ended_line bytes ≡ Some (first, rest)
  pub length_is : long ≡ is_long first
  pub line_is : long ≡ false → line ≡ first
  pub behind : rest ≡ drop (length arrived.lines - left) arrived.lines

-- These bytes are one line, which has no end: whether it is too long, and it itself where it isn't.
pub record IsOnly (bytes line : List ℕ) (long : Bool) : Type 0 where
  pub only : lines_of bytes ≡ bytes ∷ []
  pub length_is : long ≡ is_long bytes
  pub line_is : long ≡ false → line ≡ bytes

-- Of bytes that waited the lines that have their ends were taken, up to QUIT, and this was put for them; the rest waits.
pub record TakesEnded (terminal : Bool) (old new : Prompt) (bytes : List ℕ) (arrived : Arrived) (flow : Flow) (text : List ℕ) : Type 0 where
  pub done : List (List ℕ)
  pub left : List ℕ
  pub waits : Waits arrived left
  pub parts : (more : List ℕ) → lines_of (bytes ++ more) ≡ done ++ lines_of (left ++ more)
  pub walks : Walks terminal done old new text
  pub flows : flow ≡ flow_after done
  pub no_more : flow ≡ GoesOn → ended_line left ≡ None
