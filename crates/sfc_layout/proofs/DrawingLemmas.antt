-- Links that are drawn, one after the other.
use Rattle.std.proofs.Common.{◌≡◌, ◌<◌, ◌+◌, ℕ, List, [], ◌∷◌, ◌++◌, length, get_or, subst, sym, ◌∙◌, ap, inl, inr, arith}
use Rattle.std.proofs.lemmas.List.{get_or_default, get_or_push, get_or_append_left}
use Rattle.std.proofs.lemmas.Bool.{cases_eq}
use Rattle.sfc_layout.specs.declared.chart.Link.{Link}
use Rattle.sfc_layout.specs.declared.drawing.Drawing.{Drawing}
use Rattle.sfc_layout.specs.declared.node_box.NodeBox.{NodeBox}
use Rattle.sfc_layout.specs.Links.{AreDrawn, AreWithin, IsDrawn}

-- the drawing lies between the boxes of the nodes of this link
abbrev Between : List NodeBox → NodeBox → Link → Drawing → Type 0
Between boxes b link drawing = IsDrawn (get_or boxes link.source b) (get_or boxes link.target b) drawing

-- what is read of boxes and links that are there is the same whatever is read elsewhere
drawn_any : (boxes : List NodeBox) (links : List Link) (n : ℕ) (l r : Link) (b c : NodeBox) (drawing : Drawing) → n < length links →
    AreWithin (length boxes) links → Between boxes b (get_or links n l) drawing → Between boxes c (get_or links n r) drawing
drawn_any boxes links n l r b c drawing lt within drawn =
    let link : Link = get_or links n r in
    let same : Between boxes b link drawing = subst (λ m. Between boxes b m drawing) (get_or_default links n l r lt) drawn in
    let source : get_or boxes link.source b ≡ get_or boxes link.source c = get_or_default boxes link.source b c (within n r lt).0 in
    let target : get_or boxes link.target b ≡ get_or boxes link.target c = get_or_default boxes link.target b c (within n r lt).1 in
    subst (λ p. IsDrawn (get_or boxes link.source c) p drawing) target
    (subst (λ p. IsDrawn p (get_or boxes link.target b) drawing) source same)

-- one more link is drawn
pub more_drawn : (boxes : List NodeBox) (links : List Link) (old new : List Drawing) (n : ℕ) (drawing : Drawing) (l : Link) (b : NodeBox) →
    n < length links → AreWithin (length boxes) links → length old ≡ n → new ≡ old ++ drawing ∷ [] →
    Between boxes b (get_or links n l) drawing →
    ((k : ℕ) (r : Link) (d : Drawing) (c : NodeBox) → k < n → Between boxes c (get_or links k r) (get_or old k d)) →
    (k : ℕ) (r : Link) (d : Drawing) (c : NodeBox) → k < n + 1 → Between boxes c (get_or links k r) (get_or new k d)
more_drawn boxes links old new n drawing l b lt within count e drawn before k r d c below = elim (cases_eq k n) [
  | inl here ↦
      let last : drawing ≡ get_or new n d = sym (ap (λ xs. get_or xs n d) e ∙ get_or_push old drawing d n count) in
      let at_n : Between boxes c (get_or links n r) (get_or new n d) =
      subst (λ x. Between boxes c (get_or links n r) x) last (drawn_any boxes links n l r b c drawing lt within drawn) in
      subst (λ m. Between boxes c (get_or links m r) (get_or new m d)) (sym here) at_n
  | inr other ↦
      let less : k < n = omega (arith, other) in
      let kept : get_or old k d ≡ get_or new k d =
      sym (ap (λ xs. get_or xs k d) e ∙ get_or_append_left old (drawing ∷ []) d k (omega (arith, count))) in
      subst (λ x. Between boxes c (get_or links k r) x) kept (before k r d c less)
]

-- links that are drawn, where links and boxes are other names for the same
pub drawn_as : (boxes named : List NodeBox) (links called : List Link) (drawings : List Drawing) → named ≡ boxes → called ≡ links →
    AreDrawn named called drawings → AreDrawn boxes links drawings
drawn_as boxes named links called drawings e f all =
    subst (λ xs. AreDrawn boxes xs drawings) f (subst (λ xs. AreDrawn xs called drawings) e all)
