use Rattle.sfc_layout.proofs.BoxLemmas.{covered-kept}
use Rattle.sfc_layout.proofs.board.Board.take.Goals as goal

pub invariant_of-self : goal.invariant_of-self
invariant_of-self c = record {
  covered = covered-kept _ _ _ _ c.take.ensures.kept c.args.self.now.covered;
  apart = c.args.self.now.apart;
  up_to = c.args.self.now.up_to;
}
