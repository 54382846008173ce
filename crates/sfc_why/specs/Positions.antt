-- Lines and columns, counted from 1 (our choice): a line ends with LF; in a column stands a character, whatever its width. The bytes
-- EF BB BF at the start of a text are in no column.
use Rattle.std.specs.Prelude.{ℕ, suc, List, [], ◌∷◌, Bool, ◌==◌, ◌&&◌, nat_lt, not, if◌then◌else◌}
use Rattle.sfc_tokens.specs.Texts.{without_mark}
use Rattle.sfc_why.specs.declared.position.Position.{Position}

-- the line that is reached behind these bytes from a line
unfoldable pub line_behind : ℕ → List ℕ → ℕ
line_behind line [] = line
line_behind line (b ∷ bs) = line_behind (if b == 10 then suc line else line) bs

-- a byte that goes on a character (UTF-8)
abbrev pub goes_on : ℕ → Bool
goes_on b = not (nat_lt b 128) && nat_lt b 192

-- the column that is reached behind a byte, and behind these bytes, from a column
abbrev pub next_column : ℕ → ℕ → ℕ
next_column column b = if b == 10 then 1 else (if goes_on b then column else suc column)

unfoldable pub column_behind : ℕ → List ℕ → ℕ
column_behind column [] = column
column_behind column (b ∷ bs) = column_behind (next_column column b) bs

-- the line and the column behind the front of a text
abbrev pub position_behind : List ℕ → Position
position_behind front = record { line = line_behind 1 front; column = column_behind 1 (without_mark front) }
