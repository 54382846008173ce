-- How a message stands on a stream: fields of a head, each a line that ends with CR LF; an empty line; and its bytes.
use Rattle.std.specs.Prelude.{◌≡◌, ⊤, ℕ, ◌<◌, ◌==◌, Bool, true, not, ◌&&◌, List, [], ◌∷◌, ◌++◌, length, codes, decimal}
use Rattle.std.specs.List.{flat_map}
use Rattle.sfc_frames.specs.Heads.{field_of}
use Rattle.sfc_frames.specs.declared.line.Field.TheVariants.{Other}

-- the field that says how many bytes the message has
abbrev pub length_field : ℕ → List ℕ
length_field count = codes "Content-Length: " ++ decimal count

-- as it is written: that field alone
unfoldable pub frame : List ℕ → List ℕ
frame message = length_field (length message) ++ (codes "\r\n\r\n" ++ message)

-- the line of a field
abbrev pub line : List ℕ → List ℕ
line field = field ++ codes "\r\n"

-- a frame that has other fields before the length and behind it
unfoldable pub framed : List (List ℕ) → List (List ℕ) → List ℕ → List ℕ
framed before behind message =
    flat_map line before ++ (line (length_field (length message)) ++ (flat_map line behind ++ (codes "\r\n" ++ message)))

-- no LF is among the bytes
abbrev pub is_plain : List ℕ → Bool
is_plain [] = true
is_plain (b ∷ bytes) = not (b == 10) && is_plain bytes

-- a field that says nothing of the length
pub record IsOther (field : List ℕ) : Type 0 where
  pub some : 0 < length field
  pub short : length field < 1024
  pub plain : is_plain field ≡ true
  pub other : field_of (field ++ codes "\r") ≡ Other

abbrev pub AreOther : List (List ℕ) → Type 0
AreOther [] = ⊤
AreOther (field ∷ fields) = IsOther field × AreOther fields
