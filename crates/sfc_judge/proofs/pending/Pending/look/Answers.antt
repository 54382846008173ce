use Rattle.std.proofs.Common.{◌≡◌, ◌∙◌, ◌≤◌, ℕ, sym, ap, subst, arith, Bool, List, length, get_or}
use Rattle.std.specs.Prelude.{map}
use Rattle.sfc_judge.specs.Running.Benches.{steered_in}
use Rattle.sfc_judge.specs.Running.Watching.{LooksAt, all_held, as_held, held_in}
use Rattle.sfc_judge.proofs.Watched.{look_all, look_broken, look_more, refilled}
use Rattle.sfc_judge.proofs.pending.Pending.look.Goals as goal

pub returns-then-not-look : goal.returns-then-not-look
unfolding held_in
returns-then-not-look c = λ m stands ms.
    let st = steered_in c.args.bench.now in
    let items = c.watched.watched-items in
    let i : ℕ = c.watched.watched-index in
    c.watched.invariant m stands ms
    ∙ look_broken st m items i c.watched-item.result c.look.new.self (omega (arith, c.watched-test.true, c.watched.auto.watched-items))
    (subst (λ (t : Bool). LooksAt st m (as_held (get_or items i c.watched-item.result)) (as_held c.look.new.self) t) c.if-not-look.true (c.look.ensures.looks m stands)) ms

pub watched-preserved : goal.watched-preserved
watched-preserved c = λ m stands ms.
    let st = steered_in c.args.bench.now in
    let items = c.watched.watched-items in
    let i : ℕ = c.watched.watched-index in
    c.watched.invariant m stands ms
    ∙ look_more st m items i c.watched-item.result c.look.new.self (omega (arith, c.watched-test.true, c.watched.auto.watched-items))
    (subst (λ (t : Bool). LooksAt st m (as_held (get_or items i c.watched-item.result)) (as_held c.look.new.self) t) c.if-not-look.false (c.look.ensures.looks m stands)) ms

pub returns : goal.returns
unfolding held_in
returns c = λ m stands ms.
    let st = steered_in c.args.bench.now in
    let items = c.watched.watched-items in
    let all : length items ≤ c.watched.watched-index = omega (arith, c.watched-test.false, c.watched.auto.watched-items) in
    let size : c.args.self.now.watched.len ≡ length items =
    omega (arith, c.args.self.now.watched.ok.0, c.watched.auto.watched-items, c.deref_mut-watched-items.ensures.len) in
    c.watched.invariant m stands ms ∙ look_all st m items c.watched.watched-index all ms
    ∙ ap (λ ws. all_held st (map as_held ws) ms) (sym (refilled c.args.self.now.watched.len items c.args.self.now.watched.items size))
