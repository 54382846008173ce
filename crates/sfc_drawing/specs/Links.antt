-- Links between steps and transitions (2.6.5): lines, loops, and jumps to the name of their target.
use Rattle.std.specs.Prelude.{◌++◌, ◌+◌, ◌-◌, ◌/◌, ℕ, List, [], Option, Some, None, codes, if◌then◌else◌}
use Rattle.std.specs.Fmt.{decimal}
use Rattle.sfc_layout.specs.declared.drawing.Drawing.{Drawing}
use Rattle.sfc_layout.specs.declared.drawing.Drawing.TheVariants.{Line, Jump, Loop}
use Rattle.sfc_drawing.specs.declared.drawn.DrawnLink.{DrawnLink}
use Rattle.sfc_drawing.specs.declared.drawn.End.{End}
use Rattle.sfc_drawing.specs.declared.drawn.End.TheVariants.{Step, Transition}
use Rattle.sfc_drawing.specs.declared.shape.Point.{Point}
use Rattle.sfc_drawing.specs.declared.shape.Way.TheVariants.{Down, Right, Up}
use Rattle.sfc_drawing.specs.Parts.{escaped}
use Rattle.sfc_drawing.specs.Shapes.{point, text_text, number_text, down_text, head_text}
use Rattle.sfc_drawing.specs.Elements.{sheet_text, title_end, element_end}

-- what stands in the id of the link
unfoldable pub end_id : End → List ℕ
end_id (Step name) = escaped name
end_id (Transition number) = decimal number

unfoldable pub end_said : End → List ℕ
end_said (Step name) = codes "step " ++ escaped name
end_said (Transition number) = codes "transition " ++ decimal number

unfoldable pub kind_text : Drawing → List ℕ
kind_text (Line x top bottom) = codes "fall"
kind_text (Jump x top bottom) = codes "jump"
kind_text (Loop x top bottom side is_first) = codes "loop"

unfoldable pub id_begin : List ℕ → List ℕ
id_begin chart = codes "<g id=\"" ++ escaped chart ++ codes "-link-"

unfoldable pub class_text : Drawing → List ℕ
class_text drawing = codes "\" class=\"link " ++ kind_text drawing

unfoldable pub link_head : List ℕ → DrawnLink → List ℕ
link_head chart l = id_begin chart ++ end_id l.source ++ codes "-" ++ end_id l.target ++ class_text l.drawing

unfoldable pub link_title : DrawnLink → List ℕ
link_title l = codes "from " ++ end_said l.source ++ codes " to " ++ end_said l.target ++ title_end

-- the name of the target, to which a jump leads
unfoldable pub target_text : Point → End → List ℕ
target_text at (Step name) = text_text (codes "n") at 32 name
target_text at (Transition number) =
    codes "<text class=\"n\" x=\"" ++ decimal at.x ++ codes "\" y=\"" ++ decimal at.y ++ codes "\">T" ++ decimal number ++ codes "</text>\n"

-- a loop: down, to the left; the first of those of a step then up, and to the line of that step
unfoldable pub aside_text : ℕ → ℕ → ℕ → ℕ → List ℕ
aside_text x top bottom side =
    codes "<path class=\"l\" d=\"M" ++ decimal x ++ codes " " ++ decimal top ++ codes "V" ++ decimal bottom ++ codes "H" ++ decimal side

unfoldable pub up_text : ℕ → ℕ → List ℕ
up_text entry line = codes "V" ++ decimal entry ++ codes "H" ++ decimal line ++ codes "\"/>\n"

unfoldable pub return_text : ℕ → ℕ → ℕ → ℕ → List ℕ
return_text bottom side entry line =
    up_text entry line ++ head_text Up side (entry + (bottom - entry) / 2 - 4) ++ head_text Right line entry

unfoldable pub jump_text : ℕ → ℕ → ℕ → End → List ℕ
jump_text x top bottom target = down_text x top bottom ++ head_text Down x bottom ++ target_text (point (x + 10) (bottom + 8)) target

unfoldable pub drawing_text : DrawnLink → Drawing → List ℕ
drawing_text l (Line x top bottom) = down_text x top bottom
drawing_text l (Jump x top bottom) = jump_text x top bottom l.target
drawing_text l (Loop x top bottom side is_first) =
    aside_text x top bottom side ++ (if is_first then return_text bottom side l.entry l.line else codes "\"/>\n")

-- where the link begins
abbrev pub begin_of : Drawing → Point
begin_of (Line x top bottom) = point x top
begin_of (Jump x top bottom) = point x top
begin_of (Loop x top bottom side is_first) = point x top

-- a priority that was given, at a branch (2.6.5)
unfoldable pub priority_text : Point → Option ℕ → List ℕ
priority_text from None = []
priority_text from (Some priority) = number_text (codes "q") (point (from.x + 4) (from.y + 11)) priority

unfoldable pub link_text : List ℕ → DrawnLink → List ℕ
link_text chart l =
    link_head chart l ++ sheet_text l.sheet ++ link_title l ++ drawing_text l l.drawing ++ priority_text (begin_of l.drawing) l.priority
    ++ element_end
