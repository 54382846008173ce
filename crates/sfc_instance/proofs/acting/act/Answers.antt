use Rattle.std.proofs.Common.{◌+◌, ◌-◌, ◌++◌, arith, List, length, refl, ap, sym, ◌∙◌}
use Rattle.sfc_plant.specs.declared.action.Action.{Action}
use Rattle.sfc_instance.specs.Private.Acting.{kind_in}
use Rattle.sfc_instance.proofs.Acted.{acts_on, acts_end, acts_all, kind_told, work_split}
use Rattle.sfc_instance.proofs.Outputs.{all_declared, counted, declared, declared_at, work_left}
use Rattle.sfc_instance.proofs.acting.act.Goals as goal

pub overflow_sub-first : goal.overflow_sub-first
overflow_sub-first c =
    let acting = c.args.acting in
    omega (
      arith,
      c.actions-count.ensures,
      ap (λ (xs : List Action). length xs) c.as_slice.ensures,
      all_declared acting.context.tables.now acting.context.chart.now c.requires.tables,
    )

-- from this declared action on
pub loop-action-init : goal.loop-action-init
loop-action-init c =
    let tables = c.args.acting.context.tables.now in
    let chart = c.args.acting.context.chart.now in
    record {
      large = record { variables = refl; instances = refl };
      «open» = refl;
      agrees = λ plant life t committed tried after h. record { tried = tried; agrees = h; rest = refl };
      from =
          omega (
            arith,
            c.requires.low,
            counted tables chart c.actions-count.result c.as_slice.result.now c.requires.tables c.actions-count.ensures c.as_slice.ensures,
          );
      rises = omega arith;
      ticks = omega arith;
      high = omega arith;
    }

pub loop-action-preserved : goal.loop-action-preserved
loop-action-preserved c =
    let tables = c.args.acting.context.tables.now in
    let chart = c.args.acting.context.chart.now in
    let targets = tables.actions in
    let first = c.actions-count.result - length c.as_slice.result.now in
    let i = c.loop-action.action in
    let before = c.loop-action.invariant in
    let made = c.act_one-answer.ensures in
    let next =
    declared_at tables chart c.actions-count.result c.as_slice.result.now c.requires.tables c.actions-count.ensures c.as_slice.ensures i
    c.loop-action.invariant.from c.loop-action-test.true in
    let target = declared (i - first) in
    let work = work_split targets i target chart next.0 next.1 in
    record {
      large = record {
        variables = made.large.variables ∙ before.large.variables;
        instances = made.large.instances ∙ before.large.instances;
      };
      «open» = made.«open» ∙ before.«open»;
      agrees = λ plant life t committed tried after h.
          let b = before.agrees plant life t committed tried after h in
          acts_on plant c.args.acting.context.instance life t committed targets c.args.from i target c.act_one-answer.new.image tried (b.tried ++ committed)
          (kind_in c.act_one-answer.result) (kind_told c.act_one-answer.result ∙ sym c.is_err.ensures.value ∙ c.if-is_err.false) next.0 next.1 (made.agrees plant life t committed b.tried after b.agrees) b.rest;
      from = omega (arith, before.from);
      rises = omega (arith, before.rises, made.ticks.0);
      ticks = omega (arith, work, made.ticks.1, before.ticks);
      high = omega (arith, before.high);
    }

pub returns-then-is_err-clause-agrees : goal.returns-then-is_err-clause-agrees
returns-then-is_err-clause-agrees c plant life t committed tried after h =
    let tables = c.args.acting.context.tables.now in
    let chart = c.args.acting.context.chart.now in
    let targets = tables.actions in
    let first = c.actions-count.result - length c.as_slice.result.now in
    let i = c.loop-action.action in
    let next =
    declared_at tables chart c.actions-count.result c.as_slice.result.now c.requires.tables c.actions-count.ensures c.as_slice.ensures i
    c.loop-action.invariant.from c.loop-action-test.true in
    let target = declared (i - first) in
    let b = c.loop-action.invariant.agrees plant life t committed tried after h in
    acts_end plant c.args.acting.context.instance life t committed targets c.args.from i target c.act_one-answer.new.image tried (b.tried ++ committed)
    (kind_in c.act_one-answer.result) (kind_told c.act_one-answer.result ∙ sym c.is_err.ensures.value ∙ c.if-is_err.true) next.0 next.1
    (c.act_one-answer.ensures.agrees plant life t committed b.tried after b.agrees) b.rest

pub returns-then-is_err-clause-ticks : goal.returns-then-is_err-clause-ticks
returns-then-is_err-clause-ticks c =
    let tables = c.args.acting.context.tables.now in
    let chart = c.args.acting.context.chart.now in
    let targets = tables.actions in
    let first = c.actions-count.result - length c.as_slice.result.now in
    let i = c.loop-action.action in
    let before = c.loop-action.invariant in
    let made = c.act_one-answer.ensures in
    let next =
    declared_at tables chart c.actions-count.result c.as_slice.result.now c.requires.tables c.actions-count.ensures c.as_slice.ensures i
    c.loop-action.invariant.from c.loop-action-test.true in
    let target = declared (i - first) in
    let work = work_split targets i target chart next.0 next.1 in
    (omega (arith, before.rises, made.ticks.0), omega (arith, work, made.ticks.1, before.ticks, before.high, next.0, work_left chart targets (i + 1)))

pub returns-clause-agrees : goal.returns-clause-agrees
returns-clause-agrees c plant life t committed tried after h =
    acts_all plant c.args.acting.context.instance life t committed c.args.acting.context.tables.now.actions c.args.from tried c.loop-action.action
    c.loop-action.image (omega (arith, c.loop-action-test.false, c.actions-count.ensures))
    (c.loop-action.invariant.agrees plant life t committed tried after h)

pub returns-clause-ticks : goal.returns-clause-ticks
returns-clause-ticks c =
    let before = c.loop-action.invariant in
    let targets = c.args.acting.context.tables.now.actions in
    (before.rises, omega (arith, before.ticks, before.high, c.loop-action-test.false, c.actions-count.ensures))
