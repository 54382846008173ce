use Rattle.std.proofs.Common.{rules, ◌∙◌, ◌∷◌, [], ap, subst, ℤ, false, w64, SFits, to_z-of_z}
use Rattle.std.specs.Prelude.{None, map}
use Rattle.std.proofs.lemmas.List.{map-append}
use Rattle.sfc_judge.specs.Running.Benches.{steered_in}
use Rattle.sfc_judge.specs.Running.Watching.{Held, LooksAt, as_held, held_in}
use Rattle.sfc_judge.proofs.pending.Pending.begin.Goals as goal

pub returns : goal.returns
unfolding held_in
returns c = λ m stands.
    let fits : SFits w64 c.clock.result = search rules in (
      as_held c.look-holds.new.self,
      ap (λ ws. map as_held ws) c.in_ok-push.ensures.items ∙ map-append as_held c.args.self.now.watched.items (c.look-holds.new.self ∷ []),
      subst (λ (f : ℤ). let h : Held = record { watch = c.args.watch.now; from = f; over = false; was = false; due = None } in
          LooksAt (steered_in c.args.bench.now) m h (as_held c.look-holds.new.self) c.look-holds.result)
          (to_z-of_z fits ∙ c.clock.ensures m stands) (c.look-holds.ensures.looks m stands),
    )
