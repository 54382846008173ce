use Rattle.std.proofs.lemmas.Result.{err_from_is_err_and}
use Rattle.sfc_tokens.specs.Tokens.{kinds}
use Rattle.sfc_text.specs.Grammar.{source}
use Rattle.sfc_text.specs.Trees.{source_of}
use Rattle.sfc_text.proofs.Fine.{source_fine}
use Rattle.sfc_text.proofs.Readings.{faults, tree, told}
use Rattle.sfc_text.proofs.read.read_with_place.Goals as goal

pub returns-in_err-tokens : goal.returns-in_err-tokens
returns-in_err-tokens c =
    let p = err_from_is_err_and c.from_residual.result c.from_residual.ensures.1 in
    rw (p.1, p.2) (faults source c.in_err-tokens.field-0.0.kind c.args.text.now c.in_err-tokens.ensures)

pub returns-in-Ok : goal.returns-in-Ok
returns-in-Ok c =
    let e = rw c.as_slice.ensures.value at c.in-Ok.ensures in
    tree source c.args.text.now (kinds c.in_ok-tokens.tokens.items) (source_of c.in-Ok.source) c.in_ok-tokens.ensures e

pub returns : goal.returns
returns c =
    let e = rw c.as_slice.ensures.value at c.in-Err.ensures in
    let ts = kinds c.in_ok-tokens.tokens.items in
    rw c.refusal.ensures (told source source_fine c.args.text.now ts c.in-Err.fault c.in_ok-tokens.ensures e)
