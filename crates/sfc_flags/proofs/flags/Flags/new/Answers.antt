use Rattle.std.proofs.Common.{◌≡◌, rules}
use Rattle.std.specs.Prelude.{replicate}
use Rattle.std.specs.Int.{div_ceil}
use Rattle.sfc_flags.proofs.Views.{zeros}
use Rattle.sfc_flags.proofs.flags.Flags.new.Goals as goal

pub invariant_of-result : goal.invariant_of-result
invariant_of-result c =
    let e : c.in_ok-vec.field-0.items ≡ replicate (div_ceil c.args.count 64) 0 = search rules in
    record { table = (zeros c.args.count c.in_ok-vec.field-0.items e).0; within = search rules; alone = search rules }

pub returns : goal.returns
returns c =
    let e : c.in_ok-vec.field-0.items ≡ replicate (div_ceil c.args.count 64) 0 = search rules in
    (zeros c.args.count c.in_ok-vec.field-0.items e).1
