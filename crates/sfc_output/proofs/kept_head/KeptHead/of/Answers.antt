use Rattle.std.proofs.Common.{◌-◌, ◌%◌, ◌∙◌, ap, length, refl}
use Rattle.sfc_output.proofs.Heads.{head_kept}
use Rattle.sfc_output.proofs.kept_head.KeptHead.of.Goals as goal

pub returns : goal.returns
returns c name text =
    head_kept name (record { text = c.of.result; first = c.args.scans - c.args.scans % 10 }) c.args.scans c.ranges.scans.fits refl
    (λ some. c.of.ensures.kept some ∙ text) (λ some. c.of.ensures.whole some ∙ ap length text)
