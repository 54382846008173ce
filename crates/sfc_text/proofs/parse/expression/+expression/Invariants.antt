use Rattle.std.proofs.Common.{◌≡◌, ◌+◌, ◌-◌, ◌*◌, ◌≤◌, length}
use Rattle.sfc_tokens.specs.Tokens.{kinds}
use Rattle.sfc_text.specs.Grammar.{joined}
use Rattle.sfc_text.specs.Parsing.Depth.{at}
use Rattle.sfc_text.specs.Trees.{tree_of, operators}
use Rattle.sfc_text.proofs.Counting.{Joining}
use Rattle.sfc_text.proofs.parse.expression.+expression.Given as goal

abbrev pub decreases-joined : goal.decreases-joined
decreases-joined l = 20 * l.budget.levels + 2 * l.level + 4

abbrev pub decreases-operand : goal.decreases-operand
decreases-operand l = 20 * l.budget.levels + 2 * l.level + 3

abbrev pub decreases-unary : goal.decreases-unary
decreases-unary l = 20 * l.budget.levels + 3

abbrev pub decreases-opposite : goal.decreases-opposite
decreases-opposite l = 20 * l.budget.levels + 2

abbrev pub decreases-negation : goal.decreases-negation
decreases-negation l = 20 * l.budget.levels + 2

abbrev pub decreases-primary : goal.decreases-primary
decreases-primary l = 20 * l.budget.levels + 2

abbrev pub decreases-parenthesized : goal.decreases-parenthesized
decreases-parenthesized l = 20 * l.budget.levels + 1

abbrev pub decreases-nested_expression : goal.decreases-nested_expression
decreases-nested_expression l = 20 * l.budget.levels

abbrev pub decreases-nested_operand : goal.decreases-nested_operand
decreases-nested_operand l = 20 * l.budget.levels

-- what was read so far, and its operators
abbrev pub invariant-joined-operands : goal.invariant-joined-operands
invariant-joined-operands l = record {
  so_far : Joining l.budget.levels l.level (l.level - 1) (tree_of l.tree) (kinds l.rest) ≡ at l.budget.levels (joined l.level) (kinds l.tokens);
  exact : l.operators ≡ operators (tree_of l.tree);
  within : l.operators ≤ l.budget.operators;
}

abbrev pub decreases-joined-operands : goal.decreases-joined-operands
decreases-joined-operands l = length l.rest
