use Rattle.std.proofs.Common.{◌∙◌, List, ap, length, false, subst, arith}
use Rattle.std.proofs.lemmas.List.{length-replicate}
use Rattle.std.specs.Prelude.{slice_index_or}
use Rattle.sfc_action.specs.declared.blocks.Block.{Block}
use Rattle.sfc_action.specs.Private.Live.{AreListed}
use Rattle.sfc_action.proofs.Live.{new_idle}
use Rattle.sfc_action.proofs.delays.Delays.new.Goals as goal

pub invariant_of-result : goal.invariant_of-result
invariant_of-result c =
    let blocks = c.args.blocks.items in
    record {
      size = ap length c.in_ok-live.ensures ∙ length-replicate c.len.result false ∙ omega (arith, c.len.ensures, c.args.blocks.ok.0);
      idle = λ k d lt off. new_idle (slice_index_or blocks k d) (c.requires.fresh k d lt);
      all_idle = λ e k d lt. new_idle (slice_index_or blocks k d) (c.requires.fresh k d lt);
      listed = subst (λ (xs : List Block). AreListed xs c.in_ok-places.places) c.deref.ensures.value c.in_ok-places.ensures;
    }
