use Rattle.std.proofs.Common.{◌≡◌, ◌≤◌, ◌-◌, ◌+◌, suc, sym, ◌∙◌, arith}
use Rattle.std.proofs.lemmas.Result.{err_from_is_err_and}
use Rattle.sfc_tokens.specs.Tokens.{kinds}
use Rattle.sfc_text.specs.Grammar.{joined}
use Rattle.sfc_text.specs.Parsing.Depth.{at}
use Rattle.sfc_text.specs.Trees.{tree_of, operators}
use Rattle.sfc_text.proofs.Counting.{first_stops, starts, full, full_stops, operand_stops, same_depth, same_item, goes_on_joining, ends_joining, item_smaller}
use Rattle.sfc_text.proofs.parse.expression.+expression.Goals as goal

pub joined-returns-in_err-first : goal.joined-returns-in_err-first
joined-returns-in_err-first t c =
    let p = err_from_is_err_and c.from_residual.result c.from_residual.ensures.1 in
    let some = c.if-level-eq0.false in
    let up : c.args.level ≡ suc (c.args.level - 1) = omega (arith, some) in
    rw (p.1, p.2) (first_stops c.in_err-first.field-0.0 c.args.budget.operators c.args.budget.levels c.args.level (c.args.level - 1) (kinds c.args.tokens.now) up c.in_err-first.ensures)

pub joined-operands-init : goal.joined-operands-init
joined-operands-init t c =
    let some = c.if-level-eq0.false in
    let up : c.args.level ≡ suc (c.args.level - 1) = omega (arith, some) in
    let first = c.in_ok-first.ensures in
    record {
      so_far = starts c.args.budget.levels c.args.level (c.args.level - 1) (kinds c.args.tokens.now) (tree_of c.in_ok-first.first.tree, kinds c.in_ok-first.rest.now) up first.0;
      exact = first.1.exact;
      within = first.1.within;
    }

pub joined-returns-then-operators-budget : goal.joined-returns-then-operators-budget
joined-returns-then-operators-budget t c =
    let exact = c.operands.invariant.exact in
    let here = c.if-operators-budget.true in
    let le : c.args.budget.operators ≤ operators (tree_of c.operands.tree) = omega (arith, exact, here) in
    full_stops c.too_deep.result c.args.budget.operators (at c.args.budget.levels (joined c.args.level) (kinds c.args.tokens.now)) c.too_deep.ensures (full c.args.budget.operators c.args.budget.levels c.args.level (c.args.level - 1) (tree_of c.operands.tree) (kinds c.operands.rest.now) (at c.args.budget.levels (joined c.args.level) (kinds c.args.tokens.now)) le (sym c.begins_operator.ensures ∙ c.operands-test.true) c.operands.invariant.so_far)

pub joined-returns-in_err-operator : goal.joined-returns-in_err-operator
joined-returns-in_err-operator t c =
    let p = err_from_is_err_and c.from_residual-in_err-operator.result c.from_residual-in_err-operator.ensures.1 in
    let exact = c.operands.invariant.exact in
    let left = c.after_operators.ensures.operators in
    let here = c.if-operators-budget.false in
    let le : c.args.budget.operators ≤ c.after_operators.result.operators + (operators (tree_of c.operands.tree) + 1) = omega (arith, exact, left, here) in
    let stops = same_depth c.in_err-operator.field-0.0 c.after_operators.result.operators c.args.budget.levels c.after_operators.result.levels c.args.level (c.args.level - 1) (kinds c.operands.rest.now) c.after_operators.ensures.levels c.in_err-operator.ensures in
    rw (p.1, p.2) (operand_stops c.in_err-operator.field-0.0 c.args.budget.operators c.after_operators.result.operators c.args.budget.levels c.args.level (c.args.level - 1) (tree_of c.operands.tree) (kinds c.operands.rest.now) (at c.args.budget.levels (joined c.args.level) (kinds c.args.tokens.now)) le (sym c.begins_operator.ensures ∙ c.operands-test.true) stops c.operands.invariant.so_far)

pub joined-operands-smaller : goal.joined-operands-smaller
joined-operands-smaller t c =
    let is = same_item c.args.budget.levels c.after_operators.result.levels c.args.level (c.args.level - 1) (kinds c.operands.rest.now) ((c.in_ok-operator.operator, tree_of c.in_ok-operator.second.tree), kinds c.in_ok-operator.behind.now) c.after_operators.ensures.levels c.in_ok-operator.ensures.0 in
    item_smaller c.args.budget.levels c.args.level (c.args.level - 1) c.operands.rest.now c.in_ok-operator.behind.now (c.in_ok-operator.operator, tree_of c.in_ok-operator.second.tree) is

pub joined-operands-preserved : goal.joined-operands-preserved
joined-operands-preserved t c =
    let both = c.in_ok-tree.ensures in
    let first = c.operands.invariant.exact in
    let second = c.in_ok-operator.ensures.1 in
    let counted = second.exact in
    let within = second.within in
    let left = c.after_operators.ensures.operators in
    let here = c.if-operators-budget.false in
    let is = same_item c.args.budget.levels c.after_operators.result.levels c.args.level (c.args.level - 1) (kinds c.operands.rest.now) ((c.in_ok-operator.operator, tree_of c.in_ok-operator.second.tree), kinds c.in_ok-operator.behind.now) c.after_operators.ensures.levels c.in_ok-operator.ensures.0 in
    let next = goes_on_joining c.args.budget.levels c.args.level (c.args.level - 1) (tree_of c.operands.tree) (kinds c.operands.rest.now) ((c.in_ok-operator.operator, tree_of c.in_ok-operator.second.tree), kinds c.in_ok-operator.behind.now) (at c.args.budget.levels (joined c.args.level) (kinds c.args.tokens.now)) (sym c.begins_operator.ensures ∙ c.operands-test.true) is c.operands.invariant.so_far in
    rw both record {
      so_far = next;
      exact = omega (arith, first, counted);
      within = omega (arith, within, left, here);
    }

pub joined-returns : goal.joined-returns
joined-returns t c = (ends_joining c.args.budget.levels c.args.level (c.args.level - 1) (tree_of c.operands.tree) (kinds c.operands.rest.now) (at c.args.budget.levels (joined c.args.level) (kinds c.args.tokens.now)) (sym c.begins_operator.ensures ∙ c.operands-test.false) c.operands.invariant.so_far, record { exact = c.operands.invariant.exact; within = c.operands.invariant.within })
