use Rattle.std.proofs.Common.{◌≡◌, ◌+◌, ◌*◌, length}
use Rattle.sfc_tokens.specs.Tokens.{kinds}
use Rattle.sfc_text.specs.Grammar as grammar
use Rattle.sfc_text.specs.Parsing.Depth.{at}
use Rattle.sfc_text.specs.Parsing.Reading.{made}
use Rattle.sfc_text.specs.Trees.{append, block_of, branches_of}
use Rattle.sfc_text.proofs.Appending.{Still}
use Rattle.sfc_text.proofs.parse.statement.+statement.Given as goal

abbrev pub decreases-branches : goal.decreases-branches
decreases-branches l = 10 * l.left + 8

abbrev pub decreases-other_branches : goal.decreases-other_branches
decreases-other_branches l = 10 * l.left + 7

abbrev pub decreases-maybe_else : goal.decreases-maybe_else
decreases-maybe_else l = 10 * l.left + 7

abbrev pub decreases-other_branch : goal.decreases-other_branch
decreases-other_branch l = 10 * l.left + 6

abbrev pub decreases-branch : goal.decreases-branch
decreases-branch l = 10 * l.left + 5

abbrev pub decreases-body : goal.decreases-body
decreases-body l = 10 * l.left + 4

abbrev pub decreases-entry : goal.decreases-entry
decreases-entry l = 10 * l.left + 3

abbrev pub decreases-statement : goal.decreases-statement
decreases-statement l = 10 * l.left + 2

abbrev pub decreases-nested_branches : goal.decreases-nested_branches
decreases-nested_branches l = 10 * l.left

abbrev pub invariant-other_branches-branches : goal.invariant-other_branches-branches
invariant-other_branches-branches l = Still l.left grammar.other_branch (branches_of l.found.items) (kinds l.rest) ≡ made (append (branches_of l.initial.found.items)) (at l.left grammar.other_branches (kinds l.tokens))

abbrev pub decreases-other_branches-branches : goal.decreases-other_branches-branches
decreases-other_branches-branches l = length l.rest

abbrev pub invariant-body-entries : goal.invariant-body-entries
invariant-body-entries l = Still l.left grammar.entry (block_of l.found.items) (kinds l.rest) ≡ at l.left grammar.body (kinds l.tokens)

abbrev pub decreases-body-entries : goal.decreases-body-entries
decreases-body-entries l = length l.rest
