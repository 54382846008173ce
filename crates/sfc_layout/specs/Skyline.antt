-- How far down the cells of a sheet are taken.
use Rattle.std.specs.Prelude.{ℕ, ◌≤◌, ◌/◌, slice_index}
use Rattle.sfc_layout.specs.declared.skyline.Reach.{Reach}
use Rattle.sfc_layout.specs.declared.skyline.Skyline.{Skyline}

-- how far down a cell is taken: not at all, where nothing was put that far to the right
abbrev pub depth : Skyline → ℕ → ℕ
depth sky cell = slice_index sky.cells.items cell

-- something that goes so far to the left and to the right stands over this cell
pub record IsWithin (reach : Reach) (cell : ℕ) : Type 0 where
  pub left : reach.left / 8 ≤ cell
  pub right : cell ≤ reach.right / 8
