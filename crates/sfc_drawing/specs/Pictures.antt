-- Charts, and the whole text.
use Rattle.std.specs.Prelude.{◌++◌, ◌+◌, ℕ, List, codes, flat_map}
use Rattle.std.specs.Fmt.{decimal}
use Rattle.sfc_drawing.specs.declared.drawn.Corner.{Corner}
use Rattle.sfc_drawing.specs.declared.drawn.DrawnBody.{DrawnBody}
use Rattle.sfc_drawing.specs.declared.drawn.DrawnChart.{DrawnChart}
use Rattle.sfc_drawing.specs.declared.drawn.Picture.{Picture}
use Rattle.sfc_drawing.specs.declared.shape.Rect.{Rect}
use Rattle.sfc_drawing.specs.declared.style.TheConstants.{STYLE}
use Rattle.sfc_drawing.specs.Parts.{escaped, word_if}
use Rattle.sfc_drawing.specs.Shapes.{point, rect_text, text_text}
use Rattle.sfc_drawing.specs.Elements.{title_end, element_end, line_text, numbered}
use Rattle.sfc_drawing.specs.Steps.{step_text}
use Rattle.sfc_drawing.specs.Transitions.{transition_text}
use Rattle.sfc_drawing.specs.Links.{link_text}

-- ---- bodies of actions (2.6.4.1)

unfoldable pub body_head : List ℕ → DrawnBody → List ℕ
body_head chart b =
    codes "<g id=\"" ++ escaped chart ++ codes "-action-" ++ escaped b.name ++ codes "\" class=\"body"
    ++ word_if b.mark.is_executed (codes " ran") ++ word_if b.mark.is_never (codes " never") ++ codes "\"><title>action "
    ++ escaped b.name ++ word_if b.mark.is_never (codes ", never executed") ++ title_end

-- the name in a frame above, and below it the frame of the lines
abbrev pub name_frame : DrawnBody → Rect
name_frame b = record { x = b.left; y = b.top; width = b.width; height = 22 }

abbrev pub lines_frame : DrawnBody → Rect
lines_frame b = record { x = b.left; y = b.top + 22; width = b.width; height = b.height }

unfoldable pub frames_text : DrawnBody → List ℕ
frames_text b =
    rect_text (codes "cell") (name_frame b) ++ text_text (codes "q") (point (b.left + 8) (b.top + 15)) 6 (codes "ACTION")
    ++ text_text (codes "n") (point (b.left + 54) (b.top + 15)) 90 b.name ++ rect_text (codes "cell") (lines_frame b)

unfoldable pub body_text : List ℕ → DrawnBody → List ℕ
body_text chart b = body_head chart b ++ frames_text b ++ flat_map (line_text (codes "c") 90) b.lines ++ element_end

-- ---- charts

unfoldable pub chart_head : List ℕ → List ℕ → List ℕ
chart_head name note =
    codes "<g id=\"" ++ escaped name ++ codes "\" class=\"chart\"><title>PROGRAM " ++ escaped name ++ escaped note ++ title_end

unfoldable pub chart_title : Corner → List ℕ → List ℕ → List ℕ
chart_title corner name note =
    codes "<text class=\"n\" x=\"" ++ decimal corner.left ++ codes "\" y=\"" ++ decimal (corner.top + 14) ++ codes "\">PROGRAM "
    ++ escaped name ++ escaped note ++ codes "</text>\n"

-- each link, each step, each transition and each body once
unfoldable pub chart_text : DrawnChart → List ℕ
chart_text c =
    chart_head c.name c.note ++ chart_title c.corner c.name c.note ++ flat_map (link_text c.name) c.links
    ++ flat_map (step_text c.name) c.steps ++ numbered (transition_text c.name) 1 c.transitions ++ flat_map (body_text c.name) c.bodies
    ++ element_end

-- ---- the whole

unfoldable pub picture_head : ℕ → ℕ → List ℕ
picture_head width height =
    codes "<svg xmlns=\"http://www.w3.org/2000/svg\" viewBox=\"0 0 " ++ decimal width ++ codes " " ++ decimal height
    ++ codes "\" width=\"" ++ decimal width ++ codes "\" height=\"" ++ decimal height ++ codes "\">\n"

unfoldable pub paper_text : ℕ → ℕ → List ℕ
paper_text width height =
    codes "<rect class=\"paper\" width=\"" ++ decimal width ++ codes "\" height=\"" ++ decimal height ++ codes "\"/>\n"

unfoldable pub picture_text : Picture → List ℕ
picture_text p =
    picture_head p.width p.height ++ STYLE.now ++ paper_text p.width p.height ++ flat_map chart_text p.charts ++ codes "</svg>\n"
