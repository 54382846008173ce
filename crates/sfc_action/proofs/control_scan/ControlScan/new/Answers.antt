use Rattle.std.proofs.Common.{◌∙◌, ap, length, false}
use Rattle.std.specs.Prelude.{pos}
use Rattle.std.proofs.lemmas.List.{length-replicate}
use Rattle.sfc_action.proofs.Sizes.{are_sized, are_stores, are_all}
use Rattle.sfc_action.proofs.control_scan.ControlScan.new.Goals as goal

pub returns : goal.returns
returns c = record {
  inputs = are_sized c.args.actions c.in_ok-new.field-0 c.in_ok-new.ensures;
  presets = ap length (c.in_ok-vec.ensures.items_if_clones_equal (λ y e. e)) ∙ length-replicate c.args.actions (pos 0);
  stores = are_stores c.args.actions c.in_ok-new-2.field-0 c.in_ok-new-2.ensures;
  called = ap length c.in_ok-new-3.ensures ∙ length-replicate c.args.actions false;
  elapsed = are_all c.args.actions c.in_ok-new-4.field-0 c.in_ok-new-4.ensures;
}
