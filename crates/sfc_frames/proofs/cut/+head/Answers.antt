use Rattle.std.proofs.Common.{◌∙◌, sym, arith, rules, ◌-◌}
use Rattle.sfc_frames.proofs.Cutting.{goes_on}
use Rattle.sfc_frames.proofs.cut.+head.Goals as goal
use Rattle.sfc_frames.specs.declared.line.Field.TheVariants as fields

pub returns-in-Length : goal.returns-in-Length
returns-in-Length t c = c.head-in-Length.ensures ∙ sym (goes_on c.args.left (c.args.left - 1) c.args.said c.args.bytes.now c.in-Some.line.now c.in-Some.rest.now
    (fields.Length c.in-Length.length) (omega arith) (search rules) (omega arith) (cc) (cc))

pub returns-in-Wrong : goal.returns-in-Wrong
returns-in-Wrong t c = sym (goes_on c.args.left (c.args.left - 1) c.args.said c.args.bytes.now c.in-Some.line.now c.in-Some.rest.now
    (fields.Wrong c.in-Wrong.why) (omega arith) (search rules) (omega arith) (cc) (cc))
