use Rattle.std.proofs.Common.{rules, ◌≡◌, ◌∙◌, ◌∷◌, [], sym, ap, subst, length, take, List, ℕ}
use Rattle.std.proofs.Math.Seq.{take-append_seam}
use Rattle.std.proofs.lemmas.Result.{on_err_weaker}
use Rattle.sfc_debug.specs.declared.break_condition.BreakCondition.{BreakCondition}
use Rattle.sfc_debug.specs.declared.debugger.Debugger.{Debugger}
use Rattle.sfc_debug.specs.Agreement.{Agrees, table_of}
use Rattle.sfc_debug.specs.Longer.{NamesWithin, with_condition}
use Rattle.sfc_debug.proofs.debugger.Debugger.break_when.Goals as goal

pub returns-then-is_err-clause-refused : goal.returns-then-is_err-clause-refused
unfolding table_of
returns-then-is_err-clause-refused c h named agrees =
    let old = c.args.self.now.conditions.items in
    let len : c.len-place.result ≡ length old = search rules in
    let table : table_of c.keep_conditions.new.self ≡ old =
    c.keep_conditions.ensures.table
    ∙ ap (λ (xs : List BreakCondition). take c.len-place.result xs) (c.command-answer.ensures.table ∙ c.in_ok-add_condition.ensures.table)
    ∙ ap (λ (n : ℕ). take n (with_condition old c.args.condition)) len
    ∙ take-append_seam old (c.args.condition ∷ []) in
    let here = subst (λ (xs : List BreakCondition). NamesWithin (length xs) h) (sym table) named in
    let longer : Agrees c.add_condition.new.self h = c.in_ok-add_condition.ensures.agrees h named agrees in
    on_err_weaker c.command-answer.result
    (λ same. c.keep_conditions.ensures.agrees h here (subst (λ (d : Debugger). Agrees d h) (sym same) longer))
    c.command-answer.ensures.err
