-- The place of a breakpoint, one after the other.
use Rattle.std.proofs.Common.{◌≡◌, ◌∙◌, ℕ, ◌+◌, ◌<◌, ◌≤◌, true, false, cond, List, length, drop, Some, None, slice_index_or, ap}
use Rattle.std.proofs.lemmas.List.{at_drop_more, drop_all}
use Rattle.sfc_base.specs.declared.ids.ProgId.{ProgId}
use Rattle.sfc_events.specs.declared.command.Point.{Point}
use Rattle.sfc_debug.specs.declared.breakpoint.Breakpoint.{Breakpoint}
use Rattle.sfc_debug.specs.Points.{is_at, place_from}

-- it is the next one
pub here : (p : ProgId) (point : Point) (set : List Breakpoint) (k : ℕ) (d : Breakpoint) → k < length set →
    is_at p point (slice_index_or set k d) ≡ true → place_from k p point (drop k set) ≡ Some k
here p point set k d lt e =
    at_drop_more (place_from k p point) set k d lt
    ∙ ap (λ b. cond b (Some k) (place_from (k + 1) p point (drop (k + 1) set))) e

-- it is behind the next one
pub behind : (p : ProgId) (point : Point) (set : List Breakpoint) (k : ℕ) (d : Breakpoint) → k < length set →
    is_at p point (slice_index_or set k d) ≡ false → place_from k p point (drop k set) ≡ place_from (k + 1) p point (drop (k + 1) set)
behind p point set k d lt e =
    at_drop_more (place_from k p point) set k d lt
    ∙ ap (λ b. cond b (Some k) (place_from (k + 1) p point (drop (k + 1) set))) e

-- there is none left
pub nowhere : (p : ProgId) (point : Point) (set : List Breakpoint) (k : ℕ) → length set ≤ k →
    place_from k p point (drop k set) ≡ None
nowhere p point set k le = ap (place_from k p point) (drop_all k set le)
