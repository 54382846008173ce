use Rattle.sfc_layout.proofs.BoxLemmas.{covered-kept, covered-set, apart-set, up_to-set, is_taken, is_clear}
use Rattle.sfc_layout.proofs.board.Board.put.Goals as goal

pub invariant_of-self : goal.invariant_of-self
invariant_of-self c = record {
  covered = covered-kept _ _ _ _ c.take.ensures.kept c.args.self.now.covered;
  apart = c.args.self.now.apart;
  up_to = c.args.self.now.up_to;
}

pub invariant_of-self-else-node-len : goal.invariant_of-self-else-node-len
invariant_of-self-else-node-len c = record {
  covered = covered-kept _ _ _ _ c.take.ensures.kept c.args.self.now.covered;
  apart = c.args.self.now.apart;
  up_to = c.args.self.now.up_to;
}

pub invariant_of-self-then-node-len : goal.invariant_of-self-then-node-len
invariant_of-self-then-node-len c = record {
  covered = covered-set _ _ _ _ _ (covered-kept _ _ _ _ c.take.ensures.kept c.args.self.now.covered)
      (λ x y is_in. is_taken _ c.args.placed c.in_ok-take.ensures.taken _ x y is_in);
  apart = apart-set _ _ _ c.args.self.now.apart
      (is_clear _ _ _ c.args.placed c.args.self.now.covered c.requires.sheet c.requires.clear);
  up_to = up_to-set _ _ _ _ c.args.self.now.up_to c.requires.sheet;
}
