-- Boxes over a skyline that grows.
use Rattle.std.proofs.Common.{◌≡◌, ◌≢◌, ◌⊎◌, inl, inr, ◌<◌, ◌≤◌, ◌/◌, ℕ, List, length, get_or, set, subst, sym, ap, ◌∙◌, arith}
use Rattle.std.proofs.lemmas.List.{get_or-set_same, get_or-set_other, length-set}
use Rattle.std.proofs.lemmas.Bool.{cases_eq}
use Rattle.sfc_layout.specs.declared.node_box.NodeBox.{NodeBox}
use Rattle.sfc_layout.specs.declared.skyline.Reach.{Reach}
use Rattle.sfc_layout.specs.Skyline.{IsWithin}
use Rattle.sfc_layout.specs.Apart.{IsIn, AreApart, AreCovered, AreUpTo}

-- what the cells cover, cells that are taken further down cover
pub covered-kept : (old new : List ℕ) (sheet : ℕ) (boxes : List NodeBox) →
    ((cell : ℕ) → get_or old cell 0 ≤ get_or new cell 0) → AreCovered old sheet boxes → AreCovered new sheet boxes
covered-kept old new sheet boxes kept covered v x y d lt is_in =
    let before : y < get_or old (x / 8) 0 = covered v x y d lt is_in in
    let more : get_or old (x / 8) 0 ≤ get_or new (x / 8) 0 = kept (x / 8) in
    omega arith

-- what holds of a box after a write holds of the one written, or of one that was there
after_set : (P : NodeBox → Type 0) (boxes : List NodeBox) (n : ℕ) (box : NodeBox) (v : ℕ) (d : NodeBox) → v < length boxes →
    P (get_or (set boxes n box) v d) → ((v ≡ n) × P box) ⊎ ((v ≢ n) × P (get_or boxes v d))
after_set P boxes n box v d lt p = elim (cases_eq v n) [
  | inl e ↦ inl (e, subst P (ap (λ k. get_or (set boxes n box) k d) e ∙ get_or-set_same boxes n box d (omega (arith, e))) p)
  | inr other ↦ inr (other, subst P (get_or-set_other boxes n v box d other) p)
]

-- a box that the cells cover is written
pub covered-set : (cells : List ℕ) (sheet : ℕ) (boxes : List NodeBox) (n : ℕ) (box : NodeBox) →
    AreCovered cells sheet boxes → ((x y : ℕ) → IsIn box sheet x y → y < get_or cells (x / 8) 0) →
    AreCovered cells sheet (set boxes n box)
covered-set cells sheet boxes n box covered own v x y d lt is_in =
    let within : v < length boxes = omega (arith, length-set boxes n box) in
    elim (after_set (λ b. IsIn b sheet x y) boxes n box v d within is_in) [
      | inl p ↦ own x y p.1
      | inr p ↦ covered v x y d within p.1
    ]

-- a box is written that shares no point with the others
pub apart-set : (boxes : List NodeBox) (n : ℕ) (box : NodeBox) → AreApart boxes →
    ((v on x y : ℕ) (d : NodeBox) → v < length boxes → IsIn (get_or boxes v d) on x y → IsIn box on x y → ⊥) →
    AreApart (set boxes n box)
apart-set boxes n box apart clear v w on x y d order lt is_v is_w =
    let within : w < length boxes = omega (arith, length-set boxes n box) in
    let before : v < length boxes = omega arith in
    elim (after_set (λ b. IsIn b on x y) boxes n box v d before is_v) [
      | inl p ↦ elim (after_set (λ b. IsIn b on x y) boxes n box w d within is_w) [
        | inl q ↦ absurd (omega (arith, p.0, q.0))
        | inr q ↦ clear w on x y d within q.1 p.1
      ]
      | inr p ↦ elim (after_set (λ b. IsIn b on x y) boxes n box w d within is_w) [
        | inl q ↦ clear v on x y d before p.1 q.1
        | inr q ↦ apart v w on x y d order within p.1 q.1
      ]
    ]

-- a box of this sheet is written
pub up_to-set : (sheet : ℕ) (boxes : List NodeBox) (n : ℕ) (box : NodeBox) → AreUpTo sheet boxes → box.sheet ≡ sheet →
    AreUpTo sheet (set boxes n box)
up_to-set sheet boxes n box up_to here v d lt =
    let within : v < length boxes = omega (arith, length-set boxes n box) in
    elim (cases_eq v n) [
      | inl e ↦ omega (arith, here, ap (λ (b : NodeBox). b.sheet) (ap (λ k. get_or (set boxes n box) k d) e ∙ get_or-set_same boxes n box d (omega (arith, e))))
      | inr other ↦ omega (arith, up_to v d within, ap (λ (b : NodeBox). b.sheet) (get_or-set_other boxes n v box d other))
    ]

-- how far a box goes to the left and to the right
abbrev reach_of : NodeBox → Reach
reach_of box = record { left = box.left; right = box.right }

-- the cell of a point of a box lies within the reach of the box
cell_within : (box : NodeBox) (on x y : ℕ) → IsIn box on x y → IsWithin (reach_of box) (x / 8)
cell_within box on x y is_in =
    let left : box.left ≤ x = is_in.left in
    let right : x ≤ box.right = is_in.right in
    record { left = omega arith; right = omega arith }

-- a box whose cells are taken down to its bottom is covered
pub is_taken : (cells : List ℕ) (box : NodeBox) →
    ((cell : ℕ) → IsWithin (reach_of box) cell → box.bottom ≤ get_or cells cell 0) →
    (on x y : ℕ) → IsIn box on x y → y < get_or cells (x / 8) 0
is_taken cells box taken on x y is_in =
    let below : y < box.bottom = is_in.bottom in
    let down : box.bottom ≤ get_or cells (x / 8) 0 = taken (x / 8) (cell_within box on x y is_in) in
    omega arith

-- a box that begins below all its cells shares no point with the boxes of its sheet
pub is_clear : (cells : List ℕ) (sheet : ℕ) (boxes : List NodeBox) (box : NodeBox) → AreCovered cells sheet boxes → box.sheet ≡ sheet →
    ((cell : ℕ) → IsWithin (reach_of box) cell → get_or cells cell 0 ≤ box.top) →
    (v on x y : ℕ) (d : NodeBox) → v < length boxes → IsIn (get_or boxes v d) on x y → IsIn box on x y → ⊥
is_clear cells sheet boxes box covered here clear v on x y d lt is_v is_in =
    let same : on ≡ sheet = sym is_in.sheet ∙ here in
    let there : IsIn (get_or boxes v d) sheet x y = subst (λ s. IsIn (get_or boxes v d) s x y) same is_v in
    let above : y < get_or cells (x / 8) 0 = covered v x y d lt there in
    let down : get_or cells (x / 8) 0 ≤ box.top = clear (x / 8) (cell_within box on x y is_in) in
    let under : box.top ≤ y = is_in.top in
    omega arith
