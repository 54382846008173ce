-- The numbers and names of what may be wrong with a text, and how a refusal is told (our choice).
use Rattle.std.specs.Prelude.{ℕ, List, ◌++◌, Result, codes}
use Rattle.std.specs.Fmt.{decimal}
use Rattle.sfc_events.specs.declared.read_error.ReadError.{ReadError}
use Rattle.sfc_events.specs.declared.read_error.ReadErrorKind.{ReadErrorKind}
use Rattle.sfc_events.specs.declared.read_error.ReadErrorKind.TheVariants.{TooLong, NotAscii, BadToken, Syntax, TooDeep, BadDuration, BadNumber, Memory}

-- what reading gives: a value, or what is wrong
abbrev pub Read : Type 0 → Type 0
Read X = Result X ReadErrorKind

abbrev pub number_of : ReadErrorKind → ℕ
number_of TooLong = 1
number_of NotAscii = 2
number_of BadToken = 3
number_of Syntax = 4
number_of TooDeep = 5
number_of BadDuration = 6
number_of BadNumber = 7
number_of Memory = 8

abbrev pub name_of : ReadErrorKind → List ℕ
name_of TooLong = codes "TooLong"
name_of NotAscii = codes "NotAscii"
name_of BadToken = codes "BadToken"
name_of Syntax = codes "Syntax"
name_of TooDeep = codes "TooDeep"
name_of BadDuration = codes "BadDuration"
name_of BadNumber = codes "BadNumber"
name_of Memory = codes "Memory"

-- its number, its name and its line; want of memory has none of them
abbrev pub text_of : ReadErrorKind → ℕ → List ℕ
text_of Memory line = codes "out of memory"
text_of kind line = codes "refused " ++ decimal (number_of kind) ++ codes " " ++ name_of kind ++ codes " line " ++ decimal line

abbrev pub error_text : ReadError → List ℕ
error_text error = text_of error.kind error.line

-- want of memory, which has no place in the text
abbrev pub out_of_memory : ReadError
out_of_memory = record { kind = Memory; line = 1 }
