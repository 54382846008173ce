use Rattle.std.proofs.Common.{◌≡◌, length}
use Rattle.sfc_base.specs.Names.{is_spaced}
use Rattle.sfc_base.proofs.name.is_spaced.Given as goal

abbrev pub invariant-all : goal.invariant-all
invariant-all l = is_spaced l.rest ≡ is_spaced l.word

abbrev pub decreases-all : goal.decreases-all
decreases-all l = length l.rest
