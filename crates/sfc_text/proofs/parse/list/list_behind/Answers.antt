use Rattle.std.proofs.Common.{◌≡◌, sym, ap, subst, ◌∙◌}
use Rattle.std.proofs.lemmas.Result.{err_from_is_err_and}
use Rattle.sfc_tokens.specs.Tokens.{kinds}
use Rattle.sfc_text.specs.Parsing.Depth.{at}
use Rattle.sfc_text.specs.Parsing.Lookahead.{first}
use Rattle.sfc_text.specs.Parsing.Reading.{behind}
use Rattle.sfc_text.specs.Terms.{repeated}
use Rattle.sfc_text.proofs.Loops.{Folding, pushed, starts, fails, goes_on, ends, smaller, shortens}
use Rattle.sfc_text.proofs.parse.list.list_behind.Goals as goal

pub items-init : goal.items-init
items-init g c = starts 64 g.T.Item.rule (g.T.Item.trees c.args.found.items) (kinds c.args.tokens.now)

pub returns-in_err-item : goal.returns-in_err-item
returns-in_err-item g c =
    let p = err_from_is_err_and c.from_residual.result c.from_residual.ensures.1 in
    let takes = shortens 64 g.T.Item.rule (g.met.T.Item.takes_a_token) in
    rw (p.1, p.2) (fails c.in_err-item.field-0.0 (first g.T.Item.rule) (at 64 g.T.Item.rule) takes pushed (g.T.Item.trees c.items.found.items) (kinds c.items.rest.now) (behind (g.T.Item.trees c.args.found.items) (at 64 (repeated g.T.Item.rule) (kinds c.args.tokens.now))) (sym c.begins.ensures ∙ c.items-test.true) c.in_err-item.ensures c.items.invariant)

pub items-smaller : goal.items-smaller
items-smaller g c =
    let takes = shortens 64 g.T.Item.rule (g.met.T.Item.takes_a_token) in
    smaller (at 64 g.T.Item.rule) takes c.items.rest.now c.in_ok-item.behind.now (g.T.Item.tree c.in_ok-item.item) c.in_ok-item.ensures

pub items-preserved : goal.items-preserved
items-preserved g c =
    let takes = shortens 64 g.T.Item.rule (g.met.T.Item.takes_a_token) in
    let pushes = ap g.T.Item.trees c.in_ok-push.ensures.items ∙ g.met.T.Item.one_more c.items.found.items c.in_ok-item.item in
    subst (λ front. Folding (first g.T.Item.rule) (at 64 g.T.Item.rule) pushed front (kinds c.in_ok-item.behind.now) ≡ behind (g.T.Item.trees c.args.found.items) (at 64 (repeated g.T.Item.rule) (kinds c.args.tokens.now))) (sym pushes) (goes_on (first g.T.Item.rule) (at 64 g.T.Item.rule) takes pushed (g.T.Item.trees c.items.found.items) (kinds c.items.rest.now) (g.T.Item.tree c.in_ok-item.item, kinds c.in_ok-item.behind.now) (behind (g.T.Item.trees c.args.found.items) (at 64 (repeated g.T.Item.rule) (kinds c.args.tokens.now))) (sym c.begins.ensures ∙ c.items-test.true) c.in_ok-item.ensures c.items.invariant)

pub returns : goal.returns
returns g c =
    let takes = shortens 64 g.T.Item.rule (g.met.T.Item.takes_a_token) in
    ends (first g.T.Item.rule) (at 64 g.T.Item.rule) takes pushed (g.T.Item.trees c.items.found.items) (kinds c.items.rest.now) (behind (g.T.Item.trees c.args.found.items) (at 64 (repeated g.T.Item.rule) (kinds c.args.tokens.now))) (sym c.begins.ensures ∙ c.items-test.false) c.items.invariant
