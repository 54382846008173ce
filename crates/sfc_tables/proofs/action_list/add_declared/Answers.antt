use Rattle.std.proofs.Common.{◌∷◌, [], arith, ℕ}
use Rattle.std.proofs.lemmas.List.{append_assoc}
use Rattle.std.proofs.lemmas.List.FromFn.{map-range_with_len_more}
use Rattle.sfc_base.specs.declared.ids.ActionId.{ActionId}
use Rattle.sfc_plant.specs.declared.association.Target.TheVariants as target
use Rattle.sfc_tables.specs.Actions.{declared_actions}
use Rattle.sfc_tables.proofs.action_list.add_declared.Goals as goal

pub loop-i-preserved : goal.loop-i-preserved
loop-i-preserved c =
    let i = c.loop-i.i in
    let one = map-range_with_len_more (λ (k : ℕ). let id : ActionId = record { 0 = k } in target.Declared id) 0 i i (omega arith) in
    record {
      done =
          rw (c.in_ok-push.ensures.items, c.loop-i.invariant.done, one)
          (append_assoc c.args.targets.now.items (declared_actions i) (target.Declared record { 0 = i } ∷ []));
    }
