-- Parts of an SVG text: what a chart says has no markup of its own.
use Rattle.std.specs.Prelude.{◌≡◌, ◌==◌, ◌++◌, ◌-◌, ℕ, Bool, List, [], ◌∷◌, length, take, flat_map, nat_lt, Option, Some, None, codes, if◌then◌else◌}
use denote.Ref.{Bor}
use Rattle.std.specs.Fmt.{decimal}
use Rattle.sfc_drawing.specs.declared.part.Part.{Part}
use Rattle.sfc_drawing.specs.declared.part.Part.TheVariants.{Markup, Said, Cut, Number, Pixel}

-- a byte that would be markup stands by the name of its character: & < > "
abbrev pub escaped_byte : ℕ → List ℕ
escaped_byte b =
    if b == 38 then codes "&amp;"
    else if b == 60 then codes "&lt;"
    else if b == 62 then codes "&gt;"
    else if b == 34 then codes "&quot;"
    else b ∷ []

abbrev pub escaped : List ℕ → List ℕ
escaped said = flat_map escaped_byte said

-- at most so many characters of it, with two dots where it has more
unfoldable pub cut : ℕ → List ℕ → List ℕ
cut most said = if nat_lt most (length said) then escaped (take (most - 2) said) ++ codes ".." else escaped said

-- the name, where the byte has one
abbrev pub IsEntity : ℕ → Option (Bor (List ℕ)) → Type 0
IsEntity b (Some name) = escaped_byte b ≡ name.now
IsEntity b None = escaped_byte b ≡ b ∷ []

abbrev pub part_text : Part → List ℕ
part_text (Markup text) = text.now
part_text (Said text) = escaped text.now
part_text (Cut most text) = cut most text.now
part_text (Number n) = decimal n
part_text (Pixel n) = decimal n

-- a text and the parts behind it
abbrev pub joined : List ℕ → List Part → List ℕ
joined text [] = text
joined text (part ∷ parts) = joined (text ++ part_text part) parts

-- the word, if so
unfoldable pub word_if : Bool → List ℕ → List ℕ
word_if is word = if is then word else []
