-- The ends of a crew.
use Rattle.std.specs.Prelude.{ℕ, ◌≡◌, ◌<◌, List, length, slice_index_or}
use Rattle.sfc_control.specs.declared.post.Post.{Post}
use Rattle.sfc_control.specs.declared.work.WorkerEnd.{WorkerEnd}
use Rattle.sfc_control.specs.Ends.{IsEndOf}

module _ {X G C : Type 0} where
  abbrev pub IsEndFor : Post X G C → WorkerEnd X → Type 0
  IsEndFor post end = IsEndOf post.task post.seat end

  -- one end for each post, in order
  abbrev pub AreEndsFor : List (Post X G C) → List (WorkerEnd X) → Type 0
  AreEndsFor posts ends =
      (length ends ≡ length posts)
      × ((k : ℕ) (p : Post X G C) (e : WorkerEnd X) → k < length posts →
      IsEndFor (slice_index_or posts k p) (slice_index_or ends k e))
