-- Rectangles, texts, lines and arrow heads as SVG.
use Rattle.std.specs.Prelude.{◌++◌, ◌+◌, ◌-◌, ℕ, List, codes}
use Rattle.std.specs.Fmt.{decimal}
use Rattle.sfc_drawing.specs.declared.shape.Point.{Point}
use Rattle.sfc_drawing.specs.declared.shape.Rect.{Rect}
use Rattle.sfc_drawing.specs.declared.shape.Way.{Way}
use Rattle.sfc_drawing.specs.declared.shape.Way.TheVariants.{Left, Right, Up, Down}
use Rattle.sfc_drawing.specs.Parts.{cut}

abbrev pub point : ℕ → ℕ → Point
point x y = record { x = x; y = y }

unfoldable pub rect_text : List ℕ → Rect → List ℕ
rect_text class r =
    codes "<rect class=\"" ++ class ++ codes "\" x=\"" ++ decimal r.x ++ codes "\" y=\"" ++ decimal r.y
    ++ codes "\" width=\"" ++ decimal r.width ++ codes "\" height=\"" ++ decimal r.height ++ codes "\"/>\n"

-- a text of this class
unfoldable pub text_around : List ℕ → Point → List ℕ → List ℕ
text_around class at inner =
    codes "<text class=\"" ++ class ++ codes "\" x=\"" ++ decimal at.x ++ codes "\" y=\"" ++ decimal at.y
    ++ codes "\">" ++ inner ++ codes "</text>\n"

-- of which at most so many characters are shown
abbrev pub text_text : List ℕ → Point → ℕ → List ℕ → List ℕ
text_text class at most said = text_around class at (cut most said)

-- a number as a text of this class
abbrev pub number_text : List ℕ → Point → ℕ → List ℕ
number_text class at n = text_around class at (decimal n)

unfoldable pub triangle_text : Point → Point → Point → List ℕ
triangle_text a b tip =
    codes "<path class=\"head\" d=\"M" ++ decimal a.x ++ codes " " ++ decimal a.y ++ codes "L" ++ decimal b.x ++ codes " " ++ decimal b.y
    ++ codes "L" ++ decimal tip.x ++ codes " " ++ decimal tip.y ++ codes "Z\"/>\n"

abbrev pub left_of : ℕ → ℕ → Point
left_of x y = point (x - 4) y

abbrev pub right_of : ℕ → ℕ → Point
right_of x y = point (x + 4) y

abbrev pub above : ℕ → ℕ → Point
above x y = point x (y - 4)

abbrev pub below : ℕ → ℕ → Point
below x y = point x (y + 4)

-- the tip of an arrow that leads this way; where it leads down, its line ends there
abbrev pub tip_of : Way → ℕ → ℕ → Point
tip_of Left x y = point x y
tip_of Right x y = point x y
tip_of Up x y = point x y
tip_of Down x y = point x (y + 8)

unfoldable pub head_text : Way → ℕ → ℕ → List ℕ
head_text Left x y = triangle_text (above (x + 8) y) (below (x + 8) y) (tip_of Left x y)
head_text Right x y = triangle_text (above (x - 8) y) (below (x - 8) y) (tip_of Right x y)
head_text Up x y = triangle_text (left_of x (y + 8)) (right_of x (y + 8)) (tip_of Up x y)
head_text Down x y = triangle_text (left_of x y) (right_of x y) (tip_of Down x y)

-- a line down
unfoldable pub down_text : ℕ → ℕ → ℕ → List ℕ
down_text x top bottom =
    codes "<path class=\"l\" d=\"M" ++ decimal x ++ codes " " ++ decimal top ++ codes "V" ++ decimal bottom ++ codes "\"/>\n"

-- a line to the left or to the right
unfoldable pub along_text : ℕ → ℕ → ℕ → List ℕ
along_text from y to =
    codes "<path class=\"l\" d=\"M" ++ decimal from ++ codes " " ++ decimal y ++ codes "H" ++ decimal to ++ codes "\"/>\n"
