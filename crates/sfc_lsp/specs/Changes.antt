-- Texts as clients change them (Language Server Protocol).
use Rattle.std.specs.Prelude.{ℕ, nat_lt, if◌then◌else◌, List, [], ◌++◌, length, take, drop}
use Rattle.sfc_responses.specs.declared.position.Position.{Position}
use Rattle.sfc_responses.specs.declared.position.Range.{Range}
use Rattle.sfc_lsp.specs.Positions.{byte_at, line_starts}

-- the bytes before a place, and from it on
abbrev pub front : List ℕ → ℕ → List ℕ
front text place = if nat_lt (length text) place then text else take place text

abbrev pub behind : List ℕ → ℕ → List ℕ
behind text place = if nat_lt (length text) place then [] else drop place text

-- the byte at a place
abbrev pub byte_of : List ℕ → Position → ℕ
byte_of text position = byte_at text (line_starts text) position

-- the text with another one in place of what stands between two places
abbrev pub changed : List ℕ → Range → List ℕ → List ℕ
changed text range more = front text (byte_of text range.from) ++ more ++ behind text (byte_of text range.to)
