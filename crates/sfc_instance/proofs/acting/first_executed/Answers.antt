use Rattle.std.proofs.Common.{sym, ◌∙◌, arith}
use Rattle.sfc_action.proofs.Live.{between, none_behind}
use Rattle.sfc_instance.proofs.acting.first_executed.Goals as goal

pub returns-clause-passed : goal.returns-clause-passed
returns-clause-passed c tables scans a le lt agrees =
    let some = c.in-Some.ensures.some in
    sym (c.executed_flags-executed.ensures.each tables scans a (omega (arith, lt, some.1, c.executed_flags-executed.ensures.len)) agrees)
    ∙ between c.executed_flags-executed.result.now c.args.first c.in-Some.found _ some.2 a le lt

pub returns-in_default-clause-passed : goal.returns-in_default-clause-passed
returns-in_default-clause-passed c tables scans a le lt agrees =
    sym (c.executed_flags-executed.ensures.each tables scans a
    (omega (arith, lt, c.count-in_default.ensures, c.executed_flags-executed.ensures.len)) agrees)
    ∙ none_behind c.executed_flags-executed.result.now c.args.first (c.next_set.ensures.none c.in_default.is) a le
