-- What the front of a stream is. A head is lines, each of which ends with LF; the empty line, which may have a CR, is its last.
use Rattle.std.specs.Prelude.{◌≡◌, ⊤, ℕ, zero, suc, ◌+◌, ◌-◌, ◌*◌, ◌==◌, nat_lt, nat_le, Bool, true, false, ◌&&◌, ◌||◌, if◌then◌else◌, List, [], ◌∷◌, ◌++◌, length, take, drop, Option, Some, None, codes}
use Rattle.sfc_frames.specs.declared.frame_fault.Malformed.{Malformed}
use Rattle.sfc_frames.specs.declared.frame_fault.Malformed.TheVariants as malformed
use Rattle.sfc_frames.specs.declared.line.Field.{Field}
use Rattle.sfc_frames.specs.declared.line.Field.TheVariants as fields

-- ---- lines

-- a byte before a line
abbrev pub onto : ℕ → Option (List ℕ × List ℕ) → Option (List ℕ × List ℕ)
onto b None = None
onto b (Some (line, rest)) = Some (b ∷ line, rest)

-- the bytes before the first LF, and those behind it
unfoldable pub line_of : List ℕ → Option (List ℕ × List ℕ)
line_of [] = None
line_of (b ∷ bytes) = if b == 10 then Some ([], bytes) else onto b (line_of bytes)

-- the line is empty, but for a CR
abbrev pub is_end : List ℕ → Bool
is_end [] = true
is_end (b ∷ []) = b == 13
is_end (b ∷ c ∷ line) = false

-- ---- what a line says

-- the letter as a small one
abbrev pub small : ℕ → ℕ
small b = if nat_le 65 b && nat_le b 90 then b + 32 else b

-- what stands behind a name of small letters, in any case of the letters
abbrev pub behind_name : List ℕ → List ℕ → Option (List ℕ)
behind_name [] line = Some line
behind_name (letter ∷ letters) [] = None
behind_name (letter ∷ letters) (b ∷ line) = if small b == letter then behind_name letters line else None

abbrev pub without_blanks : List ℕ → List ℕ
without_blanks [] = []
without_blanks (b ∷ text) = if b == 32 then without_blanks text else b ∷ text

-- the most bytes of a message
abbrev pub longest : ℕ
longest = 16777216

abbrev pub is_no_digit : ℕ → Bool
is_no_digit b = nat_lt b 48 || nat_lt 57 b

abbrev pub is_empty : List ℕ → Bool
is_empty [] = true
is_empty (b ∷ text) = false

-- the number with a digit behind it; what is above the most bytes of a message stays
abbrev pub next_number : ℕ → ℕ → ℕ
next_number number digit = if nat_lt longest number then number else number * 10 + digit

-- the number that these digits say behind others, up to a CR at the end; None where one is no digit
abbrev pub number_behind : ℕ → List ℕ → Option ℕ
number_behind number [] = Some number
number_behind number (digit ∷ digits) =
    if digit == 13 && is_empty digits then Some number else
    if is_no_digit digit then None else number_behind (next_number number (digit - 48)) digits

abbrev pub length_by : Option ℕ → Field
length_by None = fields.Wrong malformed.NotANumber
length_by (Some number) = if nat_le number longest then fields.Length number else fields.Wrong malformed.MessageTooLong

abbrev pub length_of : List ℕ → Field
length_of value = if is_end value then fields.Wrong malformed.NotANumber else length_by (number_behind 0 value)

abbrev pub field_by : Option (List ℕ) → Field
field_by None = fields.Other
field_by (Some value) = length_of (without_blanks value)

abbrev pub field_of : List ℕ → Field
field_of line = field_by (behind_name (codes "content-length:") line)

-- ---- the front of a stream

-- What the front of a stream is: a message, and what stands behind its frame; less than a frame; or no front of one.
pub data Cut : Type 0 where
  Whole : List ℕ → List ℕ → Cut
  Short : Cut
  Wrong : Malformed → Cut

-- behind the empty line
abbrev pub body : Option ℕ → List ℕ → Cut
body None bytes = Wrong malformed.NoLength
body (Some n) bytes = if nat_lt (length bytes) n then Short else Whole (take n bytes) (drop n bytes)

-- a line has at most 1,024 bytes
abbrev pub is_long : List ℕ → Bool
is_long line = nat_lt 1024 (length line)

-- how the head goes on behind a line that says this
abbrev pub by_field : (Option ℕ → Cut) → Option ℕ → Field → Cut
by_field go said fields.Other = go said
by_field go said (fields.Length n) = go (Some n)
by_field go said (fields.Wrong why) = Wrong why

-- how it goes on behind this line
abbrev pub by_line : (Option ℕ → List ℕ → Cut) → Option ℕ → List ℕ → List ℕ → Cut
by_line go said line rest = if is_end line then body said rest else by_field (λ said. go said rest) said (field_of line)

abbrev pub by_lines : (Option ℕ → List ℕ → Cut) → Option ℕ → List ℕ → Option (List ℕ × List ℕ) → Cut
by_lines go said bytes None = if is_long bytes then Wrong malformed.HeadTooLong else Short
by_lines go said bytes (Some (line, rest)) = if is_long line then Wrong malformed.HeadTooLong else by_line go said line rest

-- a head of at most so many lines, before which this length was said
unfoldable pub head : ℕ → Option ℕ → List ℕ → Cut
head zero said bytes = Wrong malformed.HeadTooLong
head (suc k) said bytes = by_lines (head k) said bytes (line_of bytes)

-- the first message of a stream; its head has at most 16 lines
unfoldable pub first : List ℕ → Cut
first bytes = head 16 None bytes

-- What was cut of a front of a stream stays where more comes; what is less than a frame may be anything then.
abbrev pub Stays : Cut → Cut → List ℕ → Type 0
Stays (Whole message rest) later more = later ≡ Whole message (rest ++ more)
Stays Short later more = ⊤
Stays (Wrong why) later more = later ≡ Wrong why
