use Rattle.std.proofs.Common.{rules, ◌<◌, ◌≤◌, arith, length, w64, SFits}
use Rattle.std.proofs.lemmas.Grind.{common_steps}
use Rattle.std.proofs.lemmas.Int.{to_z-of_z}
use Rattle.sfc_tasks.specs.Private.Keeping.{IsAhead}
use Rattle.sfc_tasks.proofs.Tables.{elapsed_more, slot_more}
use Rattle.sfc_tasks.proofs.table.elapse_all.Goals as goal

pub loop-k-preserved : goal.loop-k-preserved
loop-k-preserved c =
    let f : SFits w64 c.args.last = c.ranges.last in
    let g : SFits w64 c.args.t = c.ranges.t in
    let k = c.loop-k.k in
    let fits : k < length c.loop-k.slots = omega (arith, c.requires.len) in
    let done = simp to_z-of_z at c.loop-k.invariant.done in
    let gains = simp to_z-of_z at c.pass_time.ensures.gains in
    let least : k ≤ k = omega arith in
    record {
      done =
          simp to_z-of_z
          (elapsed_more c.args.slots.now c.loop-k.slots c.args.singles.now c.args.last c.args.t k c.pass_time.new.slot fits done
          (c.loop-k.invariant.rest k least) gains);
      ahead =
          simp to_z-of_z
          (slot_more (λ _ slot. IsAhead slot c.args.t) c.loop-k.slots k c.pass_time.new.slot fits
          (simp to_z-of_z at c.loop-k.invariant.ahead) (simp to_z-of_z at c.pass_time.ensures.ahead));
      rest = λ j le. grind (arith, common_steps, c.loop-k.invariant.rest j);
      ticks = search rules;
    }

pub returns-clause-each : goal.returns-clause-each
returns-clause-each c =
    let f : SFits w64 c.args.last = c.ranges.last in
    let g : SFits w64 c.args.t = c.ranges.t in
    let done = simp to_z-of_z at c.loop-k.invariant.done in
    λ k lt. done k (omega (arith, lt, c.loop-k-test.false))
