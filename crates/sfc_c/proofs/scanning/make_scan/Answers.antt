use Rattle.std.proofs.Common.{rules, ap, w64, SFits, to_z-of_z}
use Rattle.sfc_c.specs.Advancing.{scan_of}
use Rattle.sfc_c.proofs.scanning.make_scan.Goals as goal

pub returns-clause-made : goal.returns-clause-made
returns-clause-made c h stands =
    let fits : SFits w64 c.args.raw = search rules in (
      ap (scan_of c.args.task.0) (to_z-of_z fits),
      simp (to_z-of_z, fits) at (c.obey-answer.ensures.answer h stands),
      simp (to_z-of_z, fits) at (c.obey-answer.ensures.stands h stands),
    )
