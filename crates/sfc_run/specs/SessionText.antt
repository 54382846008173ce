-- What a session tells (our choice of format).
use Rattle.std.specs.Prelude.{ℕ, List, ◌++◌, codes}
use Rattle.std.specs.Fmt.{decimal}

-- a number, and the end of its line
abbrev pub last_text : ℕ → List ℕ
last_text number = decimal number ++ codes "\n"

-- a line that is no command, by its number from 1
abbrev pub faulty_text : ℕ → List ℕ
faulty_text number = codes "script line " ++ last_text number
