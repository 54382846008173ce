use Rattle.std.proofs.Common.{◌≡◌, ap, suc, length, arith, refl}
use Rattle.sfc_cases.specs.Lines.{behind_keyword}
use Rattle.sfc_cases.proofs.Splitting.{placed_more, said_more}
use Rattle.sfc_cases.proofs.words.divided.Goals as goal

pub all-preserved : goal.all-preserved
all-preserved c =
    let first = c.in-Some.ensures.cases.0 in
    record {
      placed = placed_more (behind_keyword c.args.keyword.now) c.args.text.now c.all.rest.now c.in-Some.after.now c.all.count c.in-Some.byte.now first c.all.invariant.placed;
      counted = let long : length c.all.rest.now ≡ suc (length c.in-Some.after.now) = ap length first in omega (arith, c.all.invariant.counted, long);
      said = said_more (behind_keyword c.args.keyword.now) c.args.text.now c.all.rest.now c.in-Some.after.now c.all.count c.in-Some.byte.now first c.all.invariant.placed
          (c.in_default-behind_blank.ensures.none refl) c.all.invariant.said;
    }
