-- The posts of the workers of a run.
use Rattle.std.specs.Prelude.{ℕ, ◌≡◌, ◌<◌, List, length, slice_index_or}
use Rattle.sfc_control.specs.declared.post.Post.{Post}
use Rattle.sfc_control.specs.declared.seat.Seat.{Seat}

module _ {X G C : Type 0} where
  -- the task of the number k is scanned from the seat
  abbrev pub IsPostOf : ℕ → Seat X → Post X G C → Type 0
  IsPostOf k seat post = (post.task ≡ record { 0 = k }) × (post.seat ≡ seat)

  -- one post for each seat, in order
  abbrev pub ArePostsOf : List (Seat X) → List (Post X G C) → Type 0
  ArePostsOf seats posts =
      (length posts ≡ length seats)
      × ((k : ℕ) (s : Seat X) (p : Post X G C) → k < length seats → IsPostOf k (slice_index_or seats k s) (slice_index_or posts k p))
