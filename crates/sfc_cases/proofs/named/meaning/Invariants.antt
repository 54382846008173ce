use Rattle.std.proofs.Common.{◌≡◌, length}
use Rattle.std.specs.Prelude.{unwrap_or}
use Rattle.sfc_cases.specs.Lines.{meaning, word_named}
use Rattle.sfc_cases.proofs.named.meaning.Given as goal

abbrev pub invariant-names : goal.invariant-names
invariant-names l = meaning l.names l.name ≡ unwrap_or (word_named l.rest l.name) l.found

abbrev pub decreases-names : goal.decreases-names
decreases-names l = length l.rest
