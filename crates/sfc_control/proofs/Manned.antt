-- One post and its end more.
use Rattle.std.proofs.Common.{◌≡◌, ℕ, ◌+◌, ◌<◌, List, [], ◌∷◌, ◌++◌, refl, sym, subst, length, length-append, arith, below_more}
use Rattle.std.proofs.lemmas.List.{get_or_append_left, get_or_push}
use Rattle.std.specs.Prelude.{slice_index_or}
use Rattle.sfc_base.specs.declared.ids.TaskId.{TaskId}
use Rattle.sfc_control.specs.declared.post.Post.{Post}
use Rattle.sfc_control.specs.declared.post.EndOf.{EndOf}
use Rattle.sfc_control.specs.declared.seat.Seat.{Seat}
use Rattle.sfc_control.specs.declared.work.WorkerEnd.{WorkerEnd}
use Rattle.sfc_control.specs.Ends.{IsEndOf}
use Rattle.sfc_control.specs.Manning.{IsEndFor, AreEndsFor}

module _ {X G C : Type 0} where
  pub ends_push : (posts : List (Post X G C)) (ends : List (WorkerEnd X)) (post : Post X G C) (end : WorkerEnd X) → AreEndsFor posts ends → IsEndFor post end → AreEndsFor (posts ++ post ∷ []) (ends ++ end ∷ [])
  ends_push posts ends post end are is =
      let At : Post X G C → WorkerEnd X → Type 0 = λ q f. IsEndFor q f in
      let more : length (posts ++ post ∷ []) ≡ length posts + 1 = length-append posts (post ∷ []) in
      let grown : length (ends ++ end ∷ []) ≡ length ends + 1 = length-append ends (end ∷ []) in
      let old : (i : ℕ) → i < length posts → (p : Post X G C) (e : WorkerEnd X) → At (slice_index_or (posts ++ post ∷ []) i p) (slice_index_or (ends ++ end ∷ []) i e) =
      λ i low p e.
      let low' : i < length ends = omega (arith, are.0) in
      let a : slice_index_or (posts ++ post ∷ []) i p ≡ slice_index_or posts i p = get_or_append_left posts (post ∷ []) p i low in
      let b : slice_index_or (ends ++ end ∷ []) i e ≡ slice_index_or ends i e = get_or_append_left ends (end ∷ []) e i low' in
      let there : At (slice_index_or posts i p) (slice_index_or ends i e) = are.1 i p e low in
      subst (λ (q : Post X G C). At q (slice_index_or (ends ++ end ∷ []) i e)) (sym a) (subst (λ (f : WorkerEnd X). At (slice_index_or posts i p) f) (sym b) there) in
      let new : (p : Post X G C) (e : WorkerEnd X) → At (slice_index_or (posts ++ post ∷ []) (length posts) p) (slice_index_or (ends ++ end ∷ []) (length posts) e) =
      λ p e.
      let a : slice_index_or (posts ++ post ∷ []) (length posts) p ≡ post = get_or_push posts post p (length posts) refl in
      let b : slice_index_or (ends ++ end ∷ []) (length posts) e ≡ end = get_or_push ends end e (length posts) are.0 in
      subst (λ (q : Post X G C). At q (slice_index_or (ends ++ end ∷ []) (length posts) e)) (sym a) (subst (λ (f : WorkerEnd X). At post f) (sym b) is) in (
        omega (arith, are.0, more, grown),
        (λ k p e below.
            let low : k < length posts + 1 = omega (arith, more) in
            below_more (λ i. (p : Post X G C) (e : WorkerEnd X) → At (slice_index_or (posts ++ post ∷ []) i p) (slice_index_or (ends ++ end ∷ []) i e)) (length posts) old new k low p e),
      )

  -- what keeps a post's promise is an end for the post
  pub kept_for : (post : Post X G C) (made kept : EndOf X) (end : WorkerEnd X) → kept ≡ made → made.task ≡ post.task → made.seat.value ≡ post.seat →
      IsEndOf kept.task kept.seat.value end → IsEndFor post end
  kept_for post made kept end same task seat is =
      let at : IsEndOf made.task made.seat.value end = subst (λ (p : EndOf X). IsEndOf p.task p.seat.value end) same is in
      subst (λ (t : TaskId). IsEndOf t post.seat end) task (subst (λ (s : Seat X). IsEndOf made.task s end) seat at)
