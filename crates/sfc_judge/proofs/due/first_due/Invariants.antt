use Rattle.std.proofs.Common.{◌≡◌, ◌+◌, length, None}
use Rattle.sfc_judge.specs.Dues.{first_due}
use Rattle.sfc_judge.proofs.due.first_due.Given as goal

abbrev pub invariant-stimuli : goal.invariant-stimuli
invariant-stimuli l = record {
  counted : l.place + length l.rest ≡ length l.stimuli;
  said : first_due l.clock None 0 l.stimuli ≡ first_due l.clock l.best l.place l.rest;
}

abbrev pub decreases-stimuli : goal.decreases-stimuli
decreases-stimuli l = length l.rest
