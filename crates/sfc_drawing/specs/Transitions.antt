-- Transitions with their conditions (2.6.3).
use Rattle.std.specs.Prelude.{◌++◌, ◌+◌, ◌-◌, ℕ, Bool, List, [], Option, Some, None, codes, flat_map}
use Rattle.std.specs.Fmt.{decimal}
use Rattle.sfc_layout.specs.declared.node_box.NodeBox.{NodeBox}
use Rattle.sfc_drawing.specs.declared.drawn.DrawnTransition.{DrawnTransition}
use Rattle.sfc_drawing.specs.declared.drawn.Stubs.{Stubs}
use Rattle.sfc_drawing.specs.declared.drawn.TransitionMark.{TransitionMark}
use Rattle.sfc_drawing.specs.declared.shape.Rect.{Rect}
use Rattle.sfc_drawing.specs.declared.shape.Way.TheVariants.{Down}
use Rattle.sfc_drawing.specs.Parts.{escaped, word_if}
use Rattle.sfc_drawing.specs.Shapes.{point, rect_text, text_text, number_text, down_text, head_text}
use Rattle.sfc_drawing.specs.Elements.{sheet_text, title_end, element_end, own_text, line_text}

-- by its number among those of the chart, counted from 1
unfoldable pub transition_head : List ℕ → ℕ → TransitionMark → List ℕ
transition_head chart number mark =
    codes "<g id=\"" ++ escaped chart ++ codes "-transition-" ++ decimal number ++ codes "\" class=\"trans"
    ++ word_if mark.is_enabled (codes " enabled") ++ word_if mark.is_cleared (codes " fired") ++ word_if mark.is_never (codes " never")

unfoldable pub name_said : Option (List ℕ) → List ℕ
name_said None = []
name_said (Some name) = codes " " ++ escaped name

unfoldable pub priority_said : Option ℕ → List ℕ
priority_said None = []
priority_said (Some priority) = codes " with priority " ++ decimal priority

unfoldable pub number_said : ℕ → List ℕ
number_said number = codes "transition " ++ decimal number

-- the whole condition
unfoldable pub condition_said : List ℕ → Bool → List ℕ
condition_said condition is_never = codes ": " ++ escaped condition ++ word_if is_never (codes ", never cleared") ++ title_end

unfoldable pub transition_title : ℕ → DrawnTransition → List ℕ
transition_title number t =
    number_said number ++ name_said t.name ++ priority_said t.priority ++ condition_said t.condition t.mark.is_never

abbrev pub bar_of : NodeBox → Rect
bar_of p = record { x = p.x - 15; y = p.top + 4; width = 30; height = 4 }

-- the bar, with its number at the left
unfoldable pub bar_text : ℕ → NodeBox → List ℕ
bar_text number p = rect_text (codes "bar") (bar_of p) ++ number_text (codes "q end") (point (p.x - 19) (p.top + 10)) number

unfoldable pub name_text : NodeBox → Option (List ℕ) → List ℕ
name_text p None = []
name_text p (Some name) = text_text (codes "n") (point (p.x + 21) (p.top + 10)) 34 name

-- where links without a line come to its double line: an arrow, and the names of their steps
unfoldable pub stubs_text : Option Stubs → List ℕ
stubs_text None = []
stubs_text (Some s) = down_text s.x s.top s.bottom ++ head_text Down s.x s.bottom ++ flat_map (line_text (codes "n") 32) s.names

unfoldable pub transition_text : List ℕ → ℕ → DrawnTransition → List ℕ
transition_text chart number t =
    transition_head chart number t.mark ++ sheet_text t.sheet ++ transition_title number t ++ flat_map own_text t.own
    ++ bar_text number t.place ++ name_text t.place t.name ++ flat_map (line_text (codes "c") 90) t.lines ++ stubs_text t.stubs ++ element_end
