use Rattle.std.proofs.Common.{rules, arith, ◌∙◌, refl, sym, subst, ℤ, Option, Some, w64, SFits, to_z, of_z, to_z-of_z}
use Rattle.sfc_replay.specs.sfc_debug.Histories.{CommandHistory}
use Rattle.sfc_replay.specs.sfc_debug.Steered.{Steered}
use Rattle.sfc_c.specs.declared.advanced.Advanced.{Advanced}
use Rattle.sfc_c.specs.declared.plc.Plc.{Plc}
use Rattle.sfc_c.specs.declared.scanning.Scan.{Scan as Made}
use Rattle.sfc_c.specs.Advancing.{Advances, MakesScan, next_scan, none}
use Rattle.sfc_c.specs.Handles.{Holds}
use Rattle.sfc_c.specs.Resources.{Stands, steered_in}
use Rattle.sfc_c.proofs.Advances.{goes_further, holds_there, one_more_made}
use Rattle.sfc_c.proofs.advancing.advance.Goals as goal

pub scans-init : goal.scans-init
scans-init c = record {
  steered = refl;
  slots = refl;
  goes = refl;
  count = refl;
  advances = λ h stands. (h, none, stands);
}

pub scans-preserved : goal.scans-preserved
scans-preserved c = record {
  steered = c.next_scan.ensures.steered ∙ c.scans.invariant.steered;
  slots = c.next_scan.ensures.slots ∙ c.scans.invariant.slots;
  goes = search rules;
  count = grind (arith, one_more_made);
  advances = λ h stands.
      let st : Steered = steered_in c.args.plc.now in
      let until : ℤ = to_z w64 (of_z w64 c.args.until) in
      let new : Plc = c.next_scan.new.plc in
      let made : Option Made = c.next_scan.result in
      let makes : (g : CommandHistory) → Stands c.scans.plc g → MakesScan st g (next_scan st until g) made new =
      λ g is. subst (λ (s : Steered). MakesScan s g (next_scan s until g) made new) c.scans.invariant.steered (c.next_scan.ensures.makes g is) in
      subst (λ (t : Advanced). (g : CommandHistory) × Advances st until h g t × Stands new g) (sym c.behind_next-told.ensures)
      (goes_further st until h c.scans.told made c.scans.plc new makes c.scans.invariant.goes (c.scans.invariant.advances h stands));
}

pub returns-then-told-ne-GOES_ON-clause-advances : goal.returns-then-told-ne-GOES_ON-clause-advances
returns-then-told-ne-GOES_ON-clause-advances c h stands =
    let st : Steered = steered_in c.args.plc.now in
    let fits : SFits w64 c.args.until = search rules in
    let until : ℤ = to_z w64 (of_z w64 c.args.until) in
    let new : Plc = c.next_scan.new.plc in
    let made : Option Made = c.next_scan.result in
    let told : Advanced = c.behind_next-told.result in
    let makes : (g : CommandHistory) → Stands c.scans.plc g → MakesScan st g (next_scan st until g) made new =
    λ g is. subst (λ (s : Steered). MakesScan s g (next_scan s until g) made new) c.scans.invariant.steered (c.next_scan.ensures.makes g is) in
    subst (λ (l : ℤ). (g : CommandHistory) × Advances st l h g told × Holds (Some new) st g) (to_z-of_z fits)
    (holds_there st until h told new (c.next_scan.ensures.steered ∙ c.scans.invariant.steered)
    (subst (λ (t : Advanced). (g : CommandHistory) × Advances st until h g t × Stands new g) (sym c.behind_next-told.ensures)
    (goes_further st until h c.scans.told made c.scans.plc new makes c.scans.invariant.goes (c.scans.invariant.advances h stands))))
