use Rattle.std.proofs.Common.{rules, ◌≡◌, sym, ap, subst, ℕ, ℤ, Option, w64, SFits, to_z, of_z, to_z-of_z}
use Rattle.sfc_replay.specs.sfc_debug.Histories.{TimedCommand}
use Rattle.sfc_replay.specs.sfc_debug.Steered.{Steered}
use Rattle.sfc_session.specs.Scanning.{scan_at, turn_scan}
use Rattle.sfc_c.specs.declared.plc.Plc.{Plc}
use Rattle.sfc_c.specs.declared.scanning.Turn.{Turn}
use Rattle.sfc_c.specs.declared.scanning.Turn.TheVariants.{NoTurn}
use Rattle.sfc_c.specs.Advancing.{IsMade, TakesTurn, scan_of}
use Rattle.sfc_c.specs.Resources.{steered_in}
use Rattle.sfc_c.proofs.scanning.scan_at.Goals as goal

pub returns-in-NoTurn-clause-made : goal.returns-in-NoTurn-clause-made
returns-in-NoTurn-clause-made c = λ h stands.
    let st : Steered = steered_in c.args.plc.now in
    let fits : SFits w64 c.args.raw = search rules in
    let at : ℤ = to_z w64 (of_z w64 c.args.raw) in
    let old : Plc = c.take_turn.new.plc in
    let tries : TakesTurn st h at (NoTurn c.in-NoTurn.field-0) old =
    subst (λ (t : Turn). TakesTurn st h at t old) c.in-NoTurn.is (c.take_turn.ensures.takes h stands) in
    let is : IsMade st h (scan_of 0 at) c.make_scan.result c.make_scan.new.plc =
    subst (λ (s : Steered). IsMade s h (scan_of 0 at) c.make_scan.result c.make_scan.new.plc) c.take_turn.ensures.steered (c.make_scan.ensures.made h tries.2) in
    let same : scan_of 0 at ≡ scan_at st h at = ap (λ (o : Option ℕ). turn_scan o at) (sym tries.0) in
    subst (λ (r : ℤ). IsMade st h (scan_at st h r) c.make_scan.result c.make_scan.new.plc) (to_z-of_z fits)
    (subst (λ (t : TimedCommand). IsMade st h t c.make_scan.result c.make_scan.new.plc) same is)
