use Rattle.std.proofs.Common.{arith, ◌≡◌, ℕ, ap, refl, subst, sym, ◌∙◌, List, [], ◌∷◌, ◌++◌, length, length-append}
use Rattle.std.proofs.lemmas.Iterator.Adapters.{YieldsList-from_vec}
use Rattle.std.proofs.lemmas.Iterator.Consumers.{YieldsList-end}
use Rattle.std.proofs.lemmas.List.{map-id}
use Rattle.std.specs.Prelude.{min}
use Rattle.sfc_base.specs.declared.ids.TaskId.{TaskId}
use Rattle.sfc_control.specs.declared.post.Post.{Post}
use Rattle.sfc_control.specs.declared.seat.Seat.{Seat}
use Rattle.sfc_run.specs.declared.pace.Pace.{Pace}
use Rattle.sfc_run.specs.declared.real_time.RealTime.{RealTime}
use Rattle.sfc_run.specs.Posting.{ArePostsOf}
use Rattle.sfc_run.proofs.Posting.{Posts, posts_push, posts_all}
use Rattle.sfc_run.proofs.run_opening.posts_of.Goals as goal

pub seats-preserved : goal.seats-preserved
seats-preserved g c =
    let seat = c.in-Some.seat in
    let post : Post g.row.L.Denot (Pace g.row.R.Denot) (RealTime g.row.R.Denot) =
    record { task = record { 0 = c.seats.number }; seat = seat; gate = c.new-gate.result; clock = c.with_watch-clock.result } in
    let task : ℕ → TaskId = λ n. record { 0 = n } in
    let own : post.task ≡ task (min (length c.seats.yielded) 255) = ap task c.seats.invariant.number in
    record {
      number = omega (arith, c.saturating_add-number.ensures, c.seats.invariant.number, length-append c.seats.yielded (seat ∷ []));
      posts = subst (λ (ps : List (Post g.row.L.Denot (Pace g.row.R.Denot) (RealTime g.row.R.Denot))). Posts (c.seats.yielded ++ seat ∷ []) ps)
          (sym c.in_ok-push.ensures.items) (posts_push c.seats.yielded c.seats.posts.items seat post c.seats.invariant.posts (own, refl));
    }

pub returns : goal.returns
returns g c =
    let gives = c.into_iter-seat-iterator.ensures.into_iter_gives in
    let ended = YieldsList-end (YieldsList-from_vec {s = c.into_iter-seat-iterator.result} c.args.seats.items gives.0 (gives.1 ∙ c.args.seats.ok.0))
    c.seats.yielded c.seats.seat-iterator c.seats.yielded_by c.next.result c.next.new.self c.in-None.is c.next.ensures.steps in
    let all : c.seats.yielded ≡ c.args.seats.items = sym (map-id c.seats.yielded) ∙ ended.0 in
    subst (λ (seats : List (Seat g.row.L.Denot)). ArePostsOf seats c.seats.posts.items) all
    (posts_all c.seats.yielded c.seats.posts.items (rw all c.requires) c.seats.invariant.posts)
