use Rattle.std.proofs.Common.{◌≡◌, ◌∷◌, ◌+◌, ◌∙◌, sym, arith, drop}
use Rattle.std.proofs.lemmas.List.{drop_more}
use Rattle.sfc_tables.proofs.Listings.{with_step}
use Rattle.sfc_tables.proofs.action_list.boolean_actions.Goals as goal

pub loop-step-preserved : goal.loop-step-preserved
loop-step-preserved c =
    let i = c.loop-step.step-index in
    let steps = c.args.steps.now in
    let step = c.step-item.result in
    let known = c.loop-step.booleans.keys in
    let next : drop i steps ≡ step ∷ drop (i + 1) steps = rw (← c.step-item.is) at (drop_more steps i step (omega arith)) in
    record {
      rest =
          rw (c.in_ok-note_all.ensures, c.as_slice.ensures)
          (sym (with_step known step.associations (drop (i + 1) steps)) ∙ rw next at c.loop-step.invariant.rest);
    }
