-- Links, and how they may be drawn.
use Rattle.std.specs.Prelude.{ℕ, ◌≡◌, ◌⊎◌, ◌+◌, ◌<◌, ◌≤◌, List, length, slice_index_or}
use Rattle.sfc_layout.specs.declared.chart.Link.{Link as ChartLink}
use Rattle.sfc_layout.specs.declared.drawing.Drawing.{Drawing}
use Rattle.sfc_layout.specs.declared.drawing.Drawing.TheVariants.{Line, Jump, Loop}
use Rattle.sfc_layout.specs.declared.layout_error.LayoutError.{LayoutError}
use Rattle.sfc_layout.specs.declared.layout_error.LayoutError.TheVariants.{Link, TooLarge, OutOfMemory}
use Rattle.sfc_layout.specs.declared.node_box.NodeBox.{NodeBox}

-- the link leads from a step to a transition, or the other way, where there are so many steps, and so many transitions behind them
abbrev pub IsLink : ℕ → ℕ → ChartLink → Type 0
IsLink steps transitions link =
    ((link.source < steps) × (steps ≤ link.target) × (link.target < steps + transitions))
    ⊎ ((link.target < steps) × (steps ≤ link.source) × (link.source < steps + transitions))

-- all links do
abbrev pub AreLinks : ℕ → ℕ → List ChartLink → Type 0
AreLinks steps transitions links = (k : ℕ) (d : ChartLink) → k < length links → IsLink steps transitions (slice_index_or links k d)

-- this one is the first that doesn't
pub record IsWrong (steps transitions : ℕ) (links : List ChartLink) (k : ℕ) : Type 0 where
  pub within : k < length links
  pub wrong : (d : ChartLink) → IsLink steps transitions (slice_index_or links k d) → ⊥
  pub first : (j : ℕ) (d : ChartLink) → j < k → IsLink steps transitions (slice_index_or links j d)

-- an error of a link names the first that doesn't
abbrev pub IsOfWrong : ℕ → ℕ → List ChartLink → LayoutError → Type 0
IsOfWrong steps transitions links (Link k) = IsWrong steps transitions links k
IsOfWrong steps transitions links TooLarge = Unit {0}
IsOfWrong steps transitions links OutOfMemory = Unit {0}

-- a line leads down on one sheet from the box of its source, not past that of its target; a loop begins below its source on the
-- sheet of its target; a jump begins below its source
abbrev pub IsDrawn : NodeBox → NodeBox → Drawing → Type 0
IsDrawn source target (Line x top bottom) = (source.sheet ≡ target.sheet) × (source.top ≤ top) × (top ≤ bottom) × (bottom ≤ target.bottom)
IsDrawn source target (Jump x top bottom) = (source.top ≤ top) × (top ≤ bottom)
IsDrawn source target (Loop x top bottom side first) = (source.sheet ≡ target.sheet) × (source.top ≤ top) × (top ≤ bottom)

-- each link is drawn, between the boxes of its nodes
abbrev pub AreDrawn : List NodeBox → List ChartLink → List Drawing → Type 0
AreDrawn boxes links drawings = (k : ℕ) (l : ChartLink) (d : Drawing) (b : NodeBox) → k < length links →
    IsDrawn (slice_index_or boxes (slice_index_or links k l).source b) (slice_index_or boxes (slice_index_or links k l).target b)
    (slice_index_or drawings k d)

-- the nodes of all links are among so many
abbrev pub AreWithin : ℕ → List ChartLink → Type 0
AreWithin nodes links = (k : ℕ) (d : ChartLink) → k < length links →
    ((slice_index_or links k d).source < nodes) × ((slice_index_or links k d).target < nodes)
