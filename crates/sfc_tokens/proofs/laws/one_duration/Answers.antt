use Rattle.std.proofs.Common.{◌≡◌, Some}
use Rattle.sfc_tokens.specs.Lexing.DurationWords.{duration_value}
use Rattle.sfc_tokens.proofs.DurationWords.{word_again}
use Rattle.sfc_tokens.proofs.laws.one_duration.Goals as goal

pub returns : goal.returns
returns c = λ word y z d e.
    let first : duration_value word ≡ Some y = word_again d in
    let second : duration_value word ≡ Some z = word_again e in
    cc
