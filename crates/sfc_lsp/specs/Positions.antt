-- Places in texts (Language Server Protocol): lines and columns, both counted from 0.
use Rattle.std.specs.Prelude.{◌≡◌, ℕ, suc, ◌+◌, ◌-◌, ◌<◌, ◌≤◌, nat_lt, Bool, ◌==◌, ◌||◌, ◌&&◌, not, if◌then◌else◌, List, [], ◌∷◌, length, take, drop, Option, Some, None, slice_get}
use Rattle.sfc_responses.specs.declared.position.Position.{Position}

-- LF and CR end lines, and CR LF is one end
abbrev pub is_end : ℕ → Bool
is_end b = b == 10 || b == 13

abbrev pub ends_line : ℕ → List ℕ → Bool
ends_line b [] = is_end b
ends_line b (next ∷ bs) = if next == 10 then b == 10 else is_end b

-- the places behind the ends of lines, where so many bytes stand before
unfoldable pub starts_behind : ℕ → List ℕ → List ℕ
starts_behind place [] = []
starts_behind place (b ∷ bs) = if ends_line b bs then suc place ∷ starts_behind (suc place) bs else starts_behind (suc place) bs

-- where the lines of a text begin
abbrev pub line_starts : List ℕ → List ℕ
line_starts text = 0 ∷ starts_behind 0 text

-- how many UTF-16 units a character has, by the bytes of its UTF-8: two where it has four bytes; they count at its first byte
abbrev pub columns_of : ℕ → ℕ
columns_of b = if not (nat_lt b 128) && nat_lt b 192 then 0 else (if not (nat_lt b 240) then 2 else 1)

-- those of more bytes, and of so many before them
unfoldable pub columns : ℕ → List ℕ → ℕ
columns before [] = before
columns before (b ∷ bs) = columns (before + columns_of b) bs

-- how many bytes stand before a column of a line, and so many before them; all of the line where it has fewer columns
unfoldable pub bytes_before : ℕ → ℕ → List ℕ → ℕ
bytes_before count column [] = count
bytes_before count column (b ∷ bs) =
    if is_end b || nat_lt column (columns_of b) then count else bytes_before (suc count) (column - columns_of b) bs

-- the byte at a column of the line that begins at a place; the end of the text where there is no such line
abbrev pub byte_in : List ℕ → Option ℕ → ℕ → ℕ
byte_in text None column = length text
byte_in text (Some start) column =
    if nat_lt (length text) start then length text else start + bytes_before 0 column (drop start text)

-- the byte at a place
abbrev pub byte_at : List ℕ → List ℕ → Position → ℕ
byte_at text starts position = byte_in text (slice_get starts position.line) position.character

-- a place before the next line
abbrev pub IsBefore : ℕ → Option ℕ → Type 0
IsBefore byte None = 0 ≤ byte
IsBefore byte (Some next) = byte < next

-- the line begins at a place, and the byte stands in it
abbrev pub IsLineAt : List ℕ → ℕ → ℕ → ℕ → Type 0
IsLineAt starts byte line start = (slice_get starts line ≡ Some start) × (start ≤ byte) × IsBefore byte (slice_get starts (line + 1))

-- Where a byte stands: in its line, behind so many columns. A client that goes there finds it.
abbrev pub IsPosition : List ℕ → List ℕ → ℕ → Position → Type 0
IsPosition text starts byte position =
    ((start : ℕ) × IsLineAt starts byte position.line start × (position.character ≡ columns 0 (drop start (take byte text))))
    × (byte_at text starts position ≡ byte)
