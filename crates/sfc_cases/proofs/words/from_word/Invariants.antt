use Rattle.std.proofs.Common.{◌≡◌, length}
use Rattle.sfc_cases.specs.Lines.{from_word}
use Rattle.sfc_cases.proofs.words.from_word.Given as goal

abbrev pub invariant-blanks : goal.invariant-blanks
invariant-blanks l = from_word l.text ≡ from_word l.rest

abbrev pub decreases-blanks : goal.decreases-blanks
decreases-blanks l = length l.rest
