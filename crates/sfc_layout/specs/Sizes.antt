-- How large the boxes of nodes are.
use Rattle.std.specs.Prelude.{ℕ, ◌≡◌, ◌≢◌, ◌+◌, ◌<◌, List, length, slice_index_or}
use Rattle.sfc_layout.specs.declared.chart.Step.{Step}
use Rattle.sfc_layout.specs.declared.chart.Transition.{Transition}
use Rattle.sfc_layout.specs.declared.extent.Extent.{Extent}
use Rattle.sfc_layout.specs.declared.node_box.NodeBox.{NodeBox}

-- the box goes so far to the left and to the right of its line, and is so high
pub record IsOfSize (own : Extent) (height : ℕ) (box : NodeBox) : Type 0 where
  pub to_left : box.x ≡ box.left + own.left
  pub to_right : box.right ≡ box.x + own.right
  pub down : box.bottom ≡ box.top + height

-- so does that of this node, where it is there
abbrev pub HasSize : Extent → ℕ → List NodeBox → ℕ → Type 0
HasSize own height boxes node = (d : NodeBox) → node < length boxes → IsOfSize own height (slice_index_or boxes node d)

-- the boxes of all nodes but this one are what they were
pub record SameBut (node : ℕ) (old new : List NodeBox) : Type 0 where
  pub len : length new ≡ length old
  pub others : (v : ℕ) (d : NodeBox) → v ≢ node → slice_index_or new v d ≡ slice_index_or old v d

-- the box of a step: its half widths, 4 pixels more at its left, and 34 pixels down
abbrev pub step_extent : Step → Extent
step_extent step = record { left = step.half + 4; right = step.half }

-- the box of a transition: its number, its bar of 30 pixels with 6 between, and 12 pixels down
abbrev pub transition_extent : Transition → Extent
transition_extent transition = record { left = transition.number + 21; right = 15 }

-- each step has its box
abbrev pub AreStepBoxes : List Step → List NodeBox → Type 0
AreStepBoxes steps boxes = (v : ℕ) (s : Step) (d : NodeBox) → v < length steps →
    IsOfSize (step_extent (slice_index_or steps v s)) 34 (slice_index_or boxes v d)

-- each transition has its box, behind those of so many steps
abbrev pub AreTransitionBoxes : ℕ → List Transition → List NodeBox → Type 0
AreTransitionBoxes steps transitions boxes = (t : ℕ) (s : Transition) (d : NodeBox) → t < length transitions →
    IsOfSize (transition_extent (slice_index_or transitions t s)) 12 (slice_index_or boxes (steps + t) d)
