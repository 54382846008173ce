-- One post more.
use Rattle.std.proofs.Common.{◌≡◌, ℕ, ◌+◌, ◌<◌, ◌≤◌, List, [], ◌∷◌, ◌++◌, refl, sym, subst, length, length-append, arith, below_more}
use Rattle.std.proofs.lemmas.List.{get_or_append_left, get_or_push}
use Rattle.std.specs.Prelude.{min, slice_index_or}
use Rattle.sfc_control.specs.declared.post.Post.{Post}
use Rattle.sfc_control.specs.declared.seat.Seat.{Seat}
use Rattle.sfc_run.specs.Posting.{IsPostOf, ArePostsOf}

module _ {X G C : Type 0} where
  -- the posts of the first seats, whose tasks have the numbers up to 255
  abbrev pub Posts : List (Seat X) → List (Post X G C) → Type 0
  Posts seats posts =
      (length posts ≡ length seats)
      × ((k : ℕ) (s : Seat X) (p : Post X G C) → k < length seats → IsPostOf (min k 255) (slice_index_or seats k s) (slice_index_or posts k p))

  pub posts_none : Posts [] []
  posts_none = (refl, λ k s p low. absurd (omega arith))

  pub posts_push : (seats : List (Seat X)) (posts : List (Post X G C)) (seat : Seat X) (post : Post X G C) → Posts seats posts →
      IsPostOf (min (length seats) 255) seat post → Posts (seats ++ seat ∷ []) (posts ++ post ∷ [])
  posts_push seats posts seat post are is =
      let At : ℕ → Seat X → Post X G C → Type 0 = λ k s p. IsPostOf (min k 255) s p in
      let more : length (seats ++ seat ∷ []) ≡ length seats + 1 = length-append seats (seat ∷ []) in
      let grown : length (posts ++ post ∷ []) ≡ length posts + 1 = length-append posts (post ∷ []) in
      let old : (k : ℕ) → k < length seats → (s : Seat X) (p : Post X G C) → At k (slice_index_or (seats ++ seat ∷ []) k s) (slice_index_or (posts ++ post ∷ []) k p) =
      λ k low s p.
      let low' : k < length posts = omega (arith, are.0) in
      let a : slice_index_or (seats ++ seat ∷ []) k s ≡ slice_index_or seats k s = get_or_append_left seats (seat ∷ []) s k low in
      let b : slice_index_or (posts ++ post ∷ []) k p ≡ slice_index_or posts k p = get_or_append_left posts (post ∷ []) p k low' in
      let there : At k (slice_index_or seats k s) (slice_index_or posts k p) = are.1 k s p low in
      subst (λ (q : Seat X). At k q (slice_index_or (posts ++ post ∷ []) k p)) (sym a) (subst (λ (q : Post X G C). At k (slice_index_or seats k s) q) (sym b) there) in
      let new : (s : Seat X) (p : Post X G C) → At (length seats) (slice_index_or (seats ++ seat ∷ []) (length seats) s) (slice_index_or (posts ++ post ∷ []) (length seats) p) =
      λ s p.
      let a : slice_index_or (seats ++ seat ∷ []) (length seats) s ≡ seat = get_or_push seats seat s (length seats) refl in
      let b : slice_index_or (posts ++ post ∷ []) (length seats) p ≡ post = get_or_push posts post p (length seats) are.0 in
      subst (λ (q : Seat X). At (length seats) q (slice_index_or (posts ++ post ∷ []) (length seats) p)) (sym a) (subst (λ (q : Post X G C). At (length seats) seat q) (sym b) is) in (
        omega (arith, are.0, more, grown),
        (λ k s p below.
            let low : k < length seats + 1 = omega (arith, more) in
            below_more (λ i. (s : Seat X) (p : Post X G C) → At i (slice_index_or (seats ++ seat ∷ []) i s) (slice_index_or (posts ++ post ∷ []) i p)) (length seats) old new k low s p),
      )

  -- of so few seats that each number is its own
  pub posts_all : (seats : List (Seat X)) (posts : List (Post X G C)) → length seats ≤ 24 → Posts seats posts → ArePostsOf seats posts
  posts_all seats posts few are = (
    are.0,
    λ k s p low.
        let own : min k 255 ≡ k = omega (arith, few, low) in
        subst (λ (n : ℕ). IsPostOf n (slice_index_or seats k s) (slice_index_or posts k p)) own (are.1 k s p low),
  )
