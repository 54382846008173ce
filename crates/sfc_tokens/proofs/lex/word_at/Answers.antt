use Rattle.std.proofs.Common.{◌≡◌, true, ◌∙◌, sym}
use Rattle.sfc_base.specs.Names.{is_spaced}
use Rattle.sfc_base.proofs.Words.{run_is_word}
use Rattle.sfc_tokens.proofs.lex.word_at.Goals as goal

pub word_token-requires : goal.word_token-requires
word_token-requires c =
    let spaced : is_spaced c.run.result.0.now ≡ true = sym c.is_spaced.ensures ∙ c.if-not-is_spaced.false in
    run_is_word c.args.bytes.now c.run.result.0.now c.run.result.1.now c.requires c.run.ensures spaced
