-- Boxes that share no point.
use Rattle.std.specs.Prelude.{ℕ, ◌≡◌, ◌<◌, ◌≤◌, ◌/◌, List, length, slice_index, slice_index_or}
use Rattle.sfc_layout.specs.declared.node_box.NodeBox.{NodeBox}

-- the point lies in the box of this sheet
pub record IsIn (box : NodeBox) (on x y : ℕ) : Type 0 where
  pub sheet : box.sheet ≡ on
  pub left : box.left ≤ x
  pub right : x ≤ box.right
  pub top : box.top ≤ y
  pub bottom : y < box.bottom

-- no point lies in the boxes of two nodes
abbrev pub AreApart : List NodeBox → Type 0
AreApart boxes = (v w sheet x y : ℕ) (d : NodeBox) → v < w → w < length boxes →
    IsIn (slice_index_or boxes v d) sheet x y → IsIn (slice_index_or boxes w d) sheet x y → ⊥

-- the boxes of this sheet lie above how far down the cells are taken
abbrev pub AreCovered : List ℕ → ℕ → List NodeBox → Type 0
AreCovered cells sheet boxes = (v x y : ℕ) (d : NodeBox) → v < length boxes →
    IsIn (slice_index_or boxes v d) sheet x y → y < slice_index cells (x / 8)

-- no box is on a later sheet
abbrev pub AreUpTo : ℕ → List NodeBox → Type 0
AreUpTo sheet boxes = (v : ℕ) (d : NodeBox) → v < length boxes → (slice_index_or boxes v d).sheet ≤ sheet
