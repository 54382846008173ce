-- Boxes and their sizes after a write.
use Rattle.std.proofs.Common.{◌≡◌, ◌≢◌, ◌<◌, ◌≤◌, ◌+◌, ◌/◌, ℕ, List, length, get_or, set, subst, sym, inl, inr, arith}
use Rattle.std.proofs.lemmas.List.{get_or-set_same, get_or-set_other, length-set}
use Rattle.std.proofs.lemmas.Bool.{cases_eq}
use Rattle.sfc_layout.specs.declared.chart.Link.{Link}
use Rattle.sfc_layout.specs.Links.{AreLinks, AreWithin}
use Rattle.sfc_layout.specs.declared.extent.Extent.{Extent}
use Rattle.sfc_layout.specs.declared.node_box.NodeBox.{NodeBox}
use Rattle.sfc_layout.specs.declared.skyline.Reach.{Reach}
use Rattle.sfc_layout.specs.declared.chart.Step.{Step}
use Rattle.sfc_layout.specs.declared.chart.Transition.{Transition}
use Rattle.sfc_layout.specs.Sizes.{IsOfSize, HasSize, SameBut, AreStepBoxes, AreTransitionBoxes}
use Rattle.sfc_layout.specs.Skyline.{IsWithin}

-- a write changes one box
pub same_but-set : (node : ℕ) (boxes : List NodeBox) (box : NodeBox) → SameBut node boxes (set boxes node box)
same_but-set node boxes box = record {
  len = length-set boxes node box;
  others = λ v d other. get_or-set_other boxes node v box d other;
}

-- and that is the one written
pub has_size-set : (own : Extent) (height : ℕ) (boxes : List NodeBox) (node : ℕ) (box : NodeBox) → IsOfSize own height box →
    HasSize own height (set boxes node box) node
has_size-set own height boxes node box sized d lt =
    let within : node < length boxes = omega (arith, length-set boxes node box) in
    subst (λ b. IsOfSize own height b) (sym (get_or-set_same boxes node box d within)) sized

-- what all cells of a wide reach are not taken down to, those of a narrow one aren't
pub clear_within : (depths : ℕ → ℕ) (wide : Reach) (left right highest top : ℕ) → wide.left ≤ left → right ≤ wide.right → highest ≤ top →
    ((cell : ℕ) → IsWithin wide cell → depths cell ≤ highest) →
    (cell : ℕ) → IsWithin (record { left = left; right = right }) cell → depths cell ≤ top
clear_within depths wide left right highest top to_left to_right up clear cell within =
    let from : left / 8 ≤ cell = within.left in
    let to : cell ≤ right / 8 = within.right in
    let down : depths cell ≤ highest = clear cell (record { left = omega arith; right = omega arith }) in
    omega arith

-- what holds of the boxes of the first nodes holds of one more, where that one alone was written
pub more_boxes : (want : ℕ → NodeBox → Type 0) (old new : List NodeBox) (n : ℕ) (d : NodeBox) →
    ((v : ℕ) → v < n → want v (get_or old v d)) → want n (get_or new n d) → SameBut n old new →
    (v : ℕ) → v < n + 1 → want v (get_or new v d)
more_boxes want old new n d before here same v lt = elim (cases_eq v n) [
  | inl e ↦ subst (λ k. want k (get_or new k d)) (sym e) here
  | inr other ↦ subst (λ b. want v b) (sym (same.others v d other)) (before v (omega (arith, other)))
]

-- the same of the boxes behind those of the first `base` nodes
pub more_boxes_behind : (want : ℕ → NodeBox → Type 0) (old new : List NodeBox) (base n : ℕ) (d : NodeBox) →
    ((v : ℕ) → v < n → want v (get_or old (base + v) d)) → want n (get_or new (base + n) d) → SameBut (base + n) old new →
    (v : ℕ) → v < n + 1 → want v (get_or new (base + v) d)
more_boxes_behind want old new base n d before here same v lt = elim (cases_eq v n) [
  | inl e ↦ subst (λ k. want k (get_or new (base + k) d)) (sym e) here
  | inr other ↦
      let apart : base + v ≢ base + n = λ e. other (omega (arith, e)) in
      subst (λ b. want v b) (sym (same.others (base + v) d apart)) (before v (omega (arith, other)))
]

-- the ends of links are nodes
pub within_links : (steps transitions nodes : ℕ) (links : List Link) → nodes ≡ steps + transitions → AreLinks steps transitions links →
    AreWithin nodes links
within_links steps transitions nodes links e ok k d lt = elim (ok k d lt) [
  | inl p ↦ (omega (arith, e, p.0), omega (arith, e, p.2))
  | inr p ↦ (omega (arith, e, p.2), omega (arith, e, p.0))
]

-- a box of one size is of another that is equal
pub sized_as : (own want : Extent) (height wanted : ℕ) (box : NodeBox) → own ≡ want → height ≡ wanted → IsOfSize own height box →
    IsOfSize want wanted box
sized_as own want height wanted box e f sized =
    subst (λ h. IsOfSize want h box) f (subst (λ o. IsOfSize o height box) e sized)

-- boxes of steps, where steps and boxes are other names for the same
pub step_boxes_as : (steps same : List Step) (old new : List NodeBox) → steps ≡ same → new ≡ old → AreStepBoxes steps old → AreStepBoxes same new
step_boxes_as steps same old new e f all =
    subst (λ xs. AreStepBoxes same xs) (sym f) (subst (λ xs. AreStepBoxes xs old) e all)

-- the same of transitions
pub transition_boxes_as : (count counted : ℕ) (transitions same : List Transition) (old new : List NodeBox) → count ≡ counted →
    transitions ≡ same → new ≡ old → AreTransitionBoxes count transitions old → AreTransitionBoxes counted same new
transition_boxes_as count counted transitions same old new n e f all =
    subst (λ xs. AreTransitionBoxes counted same xs) (sym f)
    (subst (λ xs. AreTransitionBoxes counted xs old) e (subst (λ k. AreTransitionBoxes k transitions old) n all))

-- the ends of links are nodes, where links and boxes are other names for the same
pub within_as : (steps transitions : ℕ) (boxes named : List NodeBox) (links called : List Link) → named ≡ boxes → called ≡ links →
    length boxes ≡ steps + transitions → AreLinks steps transitions links → AreWithin (length named) called
within_as steps transitions boxes named links called e f count ok =
    subst (λ xs. AreWithin (length xs) called) (sym e)
    (subst (λ xs. AreWithin (length boxes) xs) (sym f) (within_links steps transitions (length boxes) links count ok))
