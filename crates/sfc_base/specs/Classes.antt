-- What a byte may begin (2.1.1).
use Rattle.std.specs.Prelude.{ℕ, List, [], ◌∷◌, Bool, nat_le, ◌==◌, ◌&&◌, ◌||◌, if◌then◌else◌, Option, Some, None}
use Rattle.sfc_base.specs.declared.delimiter.Delimiter.{Delimiter}
use Rattle.sfc_base.specs.declared.delimiter.Delimiter.TheVariants as sign
use Rattle.sfc_base.specs.declared.class.Class.{Class}
use Rattle.sfc_base.specs.declared.class.Class.TheVariants.{Space, Letter, Underscore, Digit, Sharp, Percent, Brace, Sign, High, Other}

abbrev pub between : ℕ → ℕ → ℕ → Bool
between low high b = nat_le low b && nat_le b high

-- the marks that part other tokens
abbrev pub mark_of : ℕ → Option Delimiter
mark_of b =
    if b == 40 then Some sign.Open else
    if b == 41 then Some sign.Close else
    if b == 58 then Some sign.Colon else
    if b == 59 then Some sign.Semicolon else
    if b == 44 then Some sign.Comma else
    if b == 46 then Some sign.Dot else None

-- the signs that join operands
abbrev pub operator_class : ℕ → Class
operator_class b =
    if b == 43 then Sign sign.Plus else
    if b == 45 then Sign sign.Minus else
    if b == 42 then Sign sign.Star else
    if b == 47 then Sign sign.Slash else
    if b == 38 then Sign sign.Ampersand else
    if b == 60 then Sign sign.Less else
    if b == 62 then Sign sign.Greater else
    if b == 61 then Sign sign.Equal else Other

abbrev pub mark_class : Option Delimiter → Class → Class
mark_class (Some d) k = Sign d
mark_class None k = k

-- space, tab, CR, LF; letters; `_`; digits; `#`; `%`; `{`; bytes over 127; then the delimiters
unfoldable pub class_of : ℕ → Class
class_of b =
    if b == 32 || b == 9 || b == 13 || b == 10 then Space else
    if between 65 90 b || between 97 122 b then Letter else
    if b == 95 then Underscore else
    if between 48 57 b then Digit else
    if b == 35 then Sharp else
    if b == 37 then Percent else
    if b == 123 then Brace else
    if nat_le 128 b then High else
    mark_class (mark_of b) (operator_class b)

abbrev pub first_class : List ℕ → Class
first_class [] = Other
first_class (b ∷ bs) = class_of b
