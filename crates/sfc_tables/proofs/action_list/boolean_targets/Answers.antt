use Rattle.std.proofs.Common.{◌≡◌, ◌∷◌, [], ◌+◌, ◌∙◌, sym, ap, drop}
use Rattle.std.specs.Prelude.{map, slice_get, Some}
use Rattle.std.specs.Option.{option_copied}
use Rattle.std.proofs.lemmas.List.{append_assoc}
use Rattle.sfc_plant.specs.declared.association.Target.TheVariants as target
use Rattle.sfc_tables.proofs.Listings.{next_variable}
use Rattle.sfc_tables.proofs.action_list.boolean_targets.Goals as goal

pub loop-i-preserved : goal.loop-i-preserved
loop-i-preserved c =
    let i = c.loop-i.i in
    let keys = c.args.booleans.now.keys in
    let v = c.unwrap-key.result.now in
    let read : slice_get keys i ≡ Some v = sym c.get_index.ensures.key ∙ ap option_copied c.unwrap-key.ensures in
    let next : drop i keys ≡ v ∷ drop (i + 1) keys = next_variable keys i v read in
    record {
      rest =
          rw (c.in_ok-push.ensures.items, c.variable.ensures)
          (append_assoc c.loop-i.targets.items (target.Boolean v ∷ []) (map (λ v. target.Boolean v) (drop (i + 1) keys))
          ∙ rw next at c.loop-i.invariant.rest);
    }
