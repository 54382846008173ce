-- The first lines of a text.
use Rattle.std.specs.Prelude.{ℕ, ◌-◌, nat_eq, cond, List, [], ◌∷◌}

-- how many lines are left behind a byte, which may be the LF of one
abbrev pub lines_left : ℕ → ℕ → ℕ
lines_left left byte = cond (nat_eq byte 10) (left - 1) left

-- so many of them, each with its LF, and what stands behind the last LF as a line more
unfoldable pub first_lines : ℕ → List ℕ → List ℕ
first_lines count [] = []
first_lines count (byte ∷ text) = cond (nat_eq count 0) [] (byte ∷ first_lines (lines_left count byte) text)
