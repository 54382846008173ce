use Rattle.std.proofs.Common.{◌≡◌, refl, sym, ap, subst, ◌∙◌}
use Rattle.std.proofs.lemmas.Result.{err_from_is_err_and}
use Rattle.sfc_tokens.specs.Tokens.{kinds}
use Rattle.sfc_text.specs.Grammar as grammar
use Rattle.sfc_text.specs.Grammar.{variable, assignment, conditional, statement, entry, body, branch, other_branch, other_branches}
use Rattle.sfc_text.specs.Parsing.Depth.{at}
use Rattle.sfc_text.specs.Parsing.Reading.{made}
use Rattle.sfc_text.specs.Trees.{append, block_of, branches_of}
use Rattle.sfc_text.proofs.Appending.{Still, starts, starts_empty, more_found, none_found, all_found, fewer_left}
use Rattle.sfc_text.proofs.parse.statement.+statement.Goals as goal

pub body-entries-init : goal.body-entries-init
unfolding body
body-entries-init t c = let none = ap block_of c.new-found.ensures.items in subst (λ b. Still c.args.left grammar.entry b (kinds c.args.tokens.now) ≡ at c.args.left grammar.body (kinds c.args.tokens.now)) (sym none) (starts_empty c.args.left grammar.entry (kinds c.args.tokens.now))

pub body-returns-in_err-longer : goal.body-returns-in_err-longer
unfolding entry statement conditional assignment variable
body-returns-in_err-longer t c =
    let p = err_from_is_err_and c.from_residual.result c.from_residual.ensures.1 in
    rw (p.1, p.2) (none_found c.in_err-longer.field-0.0 c.args.left grammar.entry refl (block_of c.entries.found.items) c.entries.rest.now (at c.args.left grammar.body (kinds c.args.tokens.now)) (sym c.begins_entry.ensures ∙ c.entries-test.true) c.in_err-longer.ensures c.entries.invariant)

pub body-entries-smaller : goal.body-entries-smaller
unfolding entry statement conditional assignment variable
body-entries-smaller t c = fewer_left c.args.left grammar.entry refl (block_of c.entries.found.items) (block_of c.in_ok-longer.longer.items) c.entries.rest.now c.in_ok-longer.behind.now c.in_ok-longer.ensures

pub body-entries-preserved : goal.body-entries-preserved
unfolding entry statement conditional assignment variable
body-entries-preserved t c = more_found c.args.left grammar.entry refl (block_of c.entries.found.items) (block_of c.in_ok-longer.longer.items) c.entries.rest.now c.in_ok-longer.behind.now (at c.args.left grammar.body (kinds c.args.tokens.now)) (sym c.begins_entry.ensures ∙ c.entries-test.true) c.in_ok-longer.ensures c.entries.invariant

pub body-returns : goal.body-returns
unfolding entry statement conditional assignment variable
body-returns t c = all_found c.args.left grammar.entry refl (block_of c.entries.found.items) (kinds c.entries.rest.now) (at c.args.left grammar.body (kinds c.args.tokens.now)) (sym c.begins_entry.ensures ∙ c.entries-test.false) c.entries.invariant

pub other_branches-branches-init : goal.other_branches-branches-init
unfolding other_branches
other_branches-branches-init t c = starts c.args.left grammar.other_branch (branches_of c.args.found.items) (kinds c.args.tokens.now)

pub other_branches-returns-in_err-longer : goal.other_branches-returns-in_err-longer
unfolding other_branch branch
other_branches-returns-in_err-longer t c =
    let p = err_from_is_err_and c.from_residual.result c.from_residual.ensures.1 in
    rw (p.1, p.2) (none_found c.in_err-longer.field-0.0 c.args.left grammar.other_branch refl (branches_of c.branches.found.items) c.branches.rest.now (made (append (branches_of c.args.found.items)) (at c.args.left grammar.other_branches (kinds c.args.tokens.now))) (sym c.begins_word.ensures ∙ c.branches-test.true) c.in_err-longer.ensures c.branches.invariant)

pub other_branches-branches-smaller : goal.other_branches-branches-smaller
unfolding other_branch branch
other_branches-branches-smaller t c = fewer_left c.args.left grammar.other_branch refl (branches_of c.branches.found.items) (branches_of c.in_ok-longer.longer.items) c.branches.rest.now c.in_ok-longer.behind.now c.in_ok-longer.ensures

pub other_branches-branches-preserved : goal.other_branches-branches-preserved
unfolding other_branch branch
other_branches-branches-preserved t c = more_found c.args.left grammar.other_branch refl (branches_of c.branches.found.items) (branches_of c.in_ok-longer.longer.items) c.branches.rest.now c.in_ok-longer.behind.now (made (append (branches_of c.args.found.items)) (at c.args.left grammar.other_branches (kinds c.args.tokens.now))) (sym c.begins_word.ensures ∙ c.branches-test.true) c.in_ok-longer.ensures c.branches.invariant

pub other_branches-returns : goal.other_branches-returns
unfolding other_branch branch
other_branches-returns t c = all_found c.args.left grammar.other_branch refl (branches_of c.branches.found.items) (kinds c.branches.rest.now) (made (append (branches_of c.args.found.items)) (at c.args.left grammar.other_branches (kinds c.args.tokens.now))) (sym c.begins_word.ensures ∙ c.branches-test.false) c.branches.invariant
