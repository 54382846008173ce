-- Lines that tell of a fault (our choice of format).
use Rattle.std.specs.Prelude.{ℕ, List, ◌++◌, codes}

-- a semicolon, a text, and a name or a number behind it
abbrev pub note_line : List ℕ → List ℕ → List ℕ
note_line text name = codes "; " ++ text ++ name ++ codes "\n"
