use Rattle.std.proofs.Common.{ap, ◌∙◌}
use Rattle.std.specs.Prelude.{replicate}
use Rattle.sfc_action.proofs.SetTables.{kept_new}
use Rattle.sfc_action.proofs.kept.Kept.new.Goals as goal

pub invariant_of-result : goal.invariant_of-result
invariant_of-result c =
    (kept_new c.args.actions c.none.result c.in_ok-words.words.items c.none.ensures
    (c.in_ok-words.ensures.items_if_clones_equal (λ y e. e) ∙ ap (λ k. replicate k c.none.result) c.div_ceil.ensures)).0

pub returns : goal.returns
returns c =
    (kept_new c.args.actions c.none.result c.in_ok-words.words.items c.none.ensures
    (c.in_ok-words.ensures.items_if_clones_equal (λ y e. e) ∙ ap (λ k. replicate k c.none.result) c.div_ceil.ensures)).1
