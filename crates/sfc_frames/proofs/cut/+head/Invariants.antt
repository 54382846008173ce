use Rattle.sfc_frames.proofs.cut.+head.Given as goal

abbrev pub decreases-head : goal.decreases-head
decreases-head l = l.left
