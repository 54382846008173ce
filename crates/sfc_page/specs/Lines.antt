-- A text whose end stands in a line.
use Rattle.std.specs.Prelude.{ℕ, List, ◌++◌, ◌+◌, ◌≤◌, length}

-- what stands at the end of a buffer and in the line behind it
unfoldable pub written : List ℕ → List ℕ → List ℕ
written items line = items ++ line

-- so many bytes more have room in the line
abbrev pub HasRoom : List ℕ → ℕ → Type 0
HasRoom line count = length line + count ≤ 1024
