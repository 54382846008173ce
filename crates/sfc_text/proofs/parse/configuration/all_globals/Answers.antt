use Rattle.std.proofs.Common.{sym, ◌∙◌}
use Rattle.std.proofs.lemmas.Result.{err_from_is_err_and}
use Rattle.sfc_tokens.specs.Tokens.{kinds}
use Rattle.sfc_text.specs.Grammar.{globals}
use Rattle.sfc_text.specs.Parsing.Depth.{at}
use Rattle.sfc_text.specs.Parsing.Reading.{behind}
use Rattle.sfc_text.specs.Terms.{gathered}
use Rattle.sfc_text.proofs.Loops.{gathering_starts}
use Rattle.sfc_text.proofs.Globals.{blocks_go_on, blocks_fail, blocks_end, block_smaller}
use Rattle.sfc_text.proofs.parse.configuration.all_globals.Goals as goal

pub blocks-2-init : goal.blocks-2-init
blocks-2-init c = gathering_starts 64 globals c.args.found.items (kinds c.args.tokens.now)

pub returns-in_err-longer : goal.returns-in_err-longer
returns-in_err-longer c =
    let p = err_from_is_err_and c.from_residual.result c.from_residual.ensures.1 in
    rw (p.1, p.2) (blocks_fail c.in_err-longer.field-0.0 c.blocks-2.found.items c.blocks-2.rest.now (behind c.args.found.items (at 64 (gathered globals) (kinds c.args.tokens.now))) (sym c.begins_word.ensures ∙ c.blocks-2-test.true) c.in_err-longer.ensures c.blocks-2.invariant)

pub blocks-2-smaller : goal.blocks-2-smaller
blocks-2-smaller c = block_smaller c.blocks-2.found.items c.in_ok-longer.longer.items c.blocks-2.rest.now c.in_ok-longer.behind.now c.in_ok-longer.ensures

pub blocks-2-preserved : goal.blocks-2-preserved
blocks-2-preserved c = blocks_go_on c.blocks-2.found.items c.in_ok-longer.longer.items c.blocks-2.rest.now c.in_ok-longer.behind.now (behind c.args.found.items (at 64 (gathered globals) (kinds c.args.tokens.now))) (sym c.begins_word.ensures ∙ c.blocks-2-test.true) c.in_ok-longer.ensures c.blocks-2.invariant

pub returns : goal.returns
returns c = blocks_end c.blocks-2.found.items (kinds c.blocks-2.rest.now) (behind c.args.found.items (at 64 (gathered globals) (kinds c.args.tokens.now))) (sym c.begins_word.ensures ∙ c.blocks-2-test.false) c.blocks-2.invariant
