use Rattle.std.proofs.Common.{◌++◌, ◌∙◌, refl, sym, ap, drop, List}
use Rattle.std.proofs.lemmas.List.{take-append-drop}
use Rattle.sfc_debug.specs.declared.break_condition.BreakCondition.{BreakCondition}
use Rattle.sfc_debug.specs.Agreement.{plant_of, table_of}
use Rattle.sfc_debug.proofs.Longer.{shorter_agrees}
use Rattle.sfc_debug.proofs.debugger.Debugger.keep_conditions.Goals as goal

pub returns-clause-agrees : goal.returns-clause-agrees
unfolding plant_of table_of
returns-clause-agrees c h named agrees =
    let more = drop c.args.count c.args.self.now.conditions.items in
    shorter_agrees c.args.self.now _ h refl refl refl refl more
    (sym (ap (λ (xs : List BreakCondition). xs ++ more) c.truncate.ensures.items ∙ take-append-drop c.args.count c.args.self.now.conditions.items))
    named agrees
