use Rattle.std.proofs.Common.{◌∙◌}
use Rattle.sfc_c.specs.Advancing.{latest, next_scan}
use Rattle.sfc_c.specs.Resources.{steered_in}
use Rattle.sfc_c.proofs.NextScan.{told_so}
use Rattle.sfc_c.proofs.next.next_in.Goals as goal

pub returns-clause-next : goal.returns-clause-next
returns-clause-next c h stands =
    let st = steered_in c.args.plc.now in
    c.told_of.ensures
    ∙ told_so st h (next_scan st latest h) c.next_scan-made.result c.next_scan-made.new.plc (c.next_scan-made.ensures.makes h stands)
