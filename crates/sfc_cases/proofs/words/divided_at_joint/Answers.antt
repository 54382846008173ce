use Rattle.std.proofs.Common.{◌≡◌, ap, suc, length, arith, refl}
use Rattle.sfc_cases.specs.Conditions.{joint_of}
use Rattle.sfc_cases.proofs.Splitting.{placed_more, said_more}
use Rattle.sfc_cases.proofs.words.divided_at_joint.Goals as goal

pub all-preserved : goal.all-preserved
all-preserved c =
    let first = c.in-Some.ensures.cases.0 in
    record {
      placed = placed_more joint_of c.args.text.now c.all.rest.now c.in-Some.after.now c.all.count c.in-Some.byte.now first c.all.invariant.placed;
      counted = let long : length c.all.rest.now ≡ suc (length c.in-Some.after.now) = ap length first in omega (arith, c.all.invariant.counted, long);
      said = said_more joint_of c.args.text.now c.all.rest.now c.in-Some.after.now c.all.count c.in-Some.byte.now first c.all.invariant.placed
          (c.in_default-joint_behind_blank.ensures.none refl) c.all.invariant.said;
    }
