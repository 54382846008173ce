-- Steps with their action blocks (2.6.2, 2.6.4).
use Rattle.std.specs.Prelude.{◌++◌, ◌+◌, ◌-◌, ◌/◌, ◌==◌, ℕ, List, [], ◌∷◌, Bool, Option, Some, None, codes, flat_map, if◌then◌else◌}
use Rattle.std.specs.Fmt.{decimal}
use Rattle.sfc_layout.specs.declared.node_box.NodeBox.{NodeBox}
use Rattle.sfc_drawing.specs.declared.drawn.Columns.{Columns}
use Rattle.sfc_drawing.specs.declared.drawn.DrawnRow.{DrawnRow}
use Rattle.sfc_drawing.specs.declared.drawn.DrawnStep.{DrawnStep}
use Rattle.sfc_drawing.specs.declared.drawn.Entry.{Entry}
use Rattle.sfc_drawing.specs.declared.drawn.StepMark.{StepMark}
use Rattle.sfc_drawing.specs.declared.shape.Rect.{Rect}
use Rattle.sfc_drawing.specs.declared.shape.Way.TheVariants.{Left}
use Rattle.sfc_drawing.specs.Parts.{escaped, word_if}
use Rattle.sfc_drawing.specs.Shapes.{point, rect_text, text_text, along_text, head_text}
use Rattle.sfc_drawing.specs.Elements.{sheet_text, title_end, element_end, word_before, own_text, numbered}

-- ---- action blocks (2.6.4.3)

-- the element of a line begins with its number among those of its step
unfoldable pub row_head : List ℕ → List ℕ → ℕ → DrawnRow → List ℕ
row_head chart step number row =
    codes "<g id=\"" ++ escaped chart ++ codes "-step-" ++ escaped step ++ codes "-" ++ decimal number ++ codes "\" class=\"act"
    ++ word_if row.mark.is_executed (codes " ran") ++ word_if row.mark.is_forced (codes " forced")
    ++ word_if row.mark.is_never (codes " never") ++ codes "\"><title>"

unfoldable pub row_title : DrawnRow → List ℕ
row_title row =
    escaped row.qualifier ++ word_before (codes " ") row.time ++ escaped row.time ++ codes " " ++ escaped row.action
    ++ word_before (codes " with ") row.indicators ++ escaped row.indicators
    ++ word_if row.mark.is_forced (codes ", forced") ++ word_if row.mark.is_never (codes ", never executed") ++ title_end

-- a field with its text, where the block has that column; at most so many characters are shown
unfoldable pub field_text : List ℕ → Rect → ℕ → List ℕ → List ℕ
field_text class field most said =
    if field.width == 0 then [] else rect_text (codes "cell") field ++ text_text class (point (field.x + 5) (field.y + 14)) most said

abbrev pub field_at : ℕ → ℕ → ℕ → Rect
field_at left top width = record { x = left; y = top; width = width; height = 20 }

-- an action with a body is set apart from a variable
unfoldable pub action_class : Bool → List ℕ
action_class has_body = if has_body then codes "declared" else codes "c"

unfoldable pub fields_text : ℕ → Columns → DrawnRow → List ℕ
fields_text left c row =
    field_text (codes "c") (field_at left row.top c.qualifier) 24 row.qualifier
    ++ field_text (codes "c") (field_at (left + c.qualifier) row.top c.time) 24 row.time
    ++ field_text (action_class row.has_body) (field_at (left + c.qualifier + c.time) row.top c.action) 28 row.action
    ++ field_text (codes "c") (field_at (left + c.qualifier + c.time + c.action) row.top c.indicators) 24 row.indicators

unfoldable pub row_text : List ℕ → DrawnStep → ℕ → DrawnRow → List ℕ
row_text chart step number row =
    row_head chart step.name number row ++ row_title row ++ fields_text (step.place.right + 14) step.columns row ++ element_end

-- the line from the step to its action block
unfoldable pub block_line : NodeBox → List DrawnRow → List ℕ
block_line place [] = []
block_line place (row ∷ rows) = along_text place.right (place.top + 17) (place.right + 14)

-- ---- steps (2.6.2)

unfoldable pub step_head : List ℕ → DrawnStep → List ℕ
step_head chart s =
    codes "<g id=\"" ++ escaped chart ++ codes "-step-" ++ escaped s.name ++ codes "\" class=\"step"
    ++ word_if s.is_initial (codes " initial") ++ word_if s.mark.is_active (codes " on") ++ word_if s.mark.is_never (codes " never")

unfoldable pub step_word : Bool → List ℕ
step_word is_initial = if is_initial then codes "initial step " else codes "step "

unfoldable pub step_title : Bool → List ℕ → StepMark → List ℕ
step_title is_initial name mark =
    step_word is_initial ++ escaped name ++ word_if mark.is_active (codes ", active for ") ++ escaped mark.time
    ++ word_if mark.is_never (codes ", never active") ++ title_end

-- the arrow at which jumps come to it, with the transitions from which they come
unfoldable pub entry_text : ℕ → Option Entry → List ℕ
entry_text x None = []
entry_text x (Some e) =
    along_text (x + 15) e.y (x + 8) ++ head_text Left x e.y ++ text_text (codes "q") (point (x + 18) (e.y + 3)) 60 e.from

abbrev pub box_of : NodeBox → Rect
box_of p = record { x = p.left + 4; y = p.top; width = p.right - (p.left + 4); height = p.bottom - p.top }

abbrev pub inner_of : NodeBox → Rect
inner_of p = record { x = p.left + 8; y = p.top + 4; width = p.right - (p.left + 12); height = p.bottom - (p.top + 8) }

-- the box; that of an initial step is double
unfoldable pub box_text : Bool → NodeBox → List ℕ
box_text is_initial p =
    rect_text (codes "box") (box_of p) ++ (if is_initial then rect_text (codes "l inner") (inner_of p) else [])

-- the name stands higher where the time stands below it
unfoldable pub name_height : Bool → ℕ
name_height is_active = if is_active then 16 else 21

-- a token, which shows where the step is active
unfoldable pub token_text : NodeBox → List ℕ
token_text p =
    codes "<circle class=\"token\" cx=\"" ++ decimal (p.left + 15) ++ codes "\" cy=\"" ++ decimal (p.top + 12) ++ codes "\" r=\"4\"/>\n"

unfoldable pub label_text : NodeBox → List ℕ → StepMark → List ℕ
label_text p name mark =
    text_text (codes "n mid") (point p.x (p.top + name_height mark.is_active)) 32 name ++ token_text p
    ++ text_text (codes "time mid") (point p.x (p.top + 28)) ((p.right - (p.left + 14)) / 6) mark.time

-- an asterisk, where branches begin: they win from left to right (2.6.5)
unfoldable pub branches_text : ℕ → Option ℕ → List ℕ
branches_text x None = []
branches_text x (Some y) = text_text (codes "q") (point (x + 4) (y - 2)) 1 (codes "*")

unfoldable pub step_text : List ℕ → DrawnStep → List ℕ
step_text chart s =
    step_head chart s ++ sheet_text s.sheet ++ step_title s.is_initial s.name s.mark ++ flat_map own_text s.own
    ++ entry_text s.place.x s.entry ++ box_text s.is_initial s.place ++ label_text s.place s.name s.mark ++ block_line s.place s.rows
    ++ numbered (row_text chart s) 1 s.rows ++ branches_text s.place.x s.branches ++ element_end
