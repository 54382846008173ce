use Rattle.std.proofs.Common.{◌∙◌, sym, ap, length}
use Rattle.sfc_evolve.specs.Agreement.{IsLike}
use Rattle.sfc_evolve.proofs.Alike.{followed}
use Rattle.sfc_evolve.proofs.steps.Steps.follow.Goals as goal

pub returns-clause-like : goal.returns-clause-like
unfolding IsLike
returns-clause-like c = record {
  begun = c.requires.like.begun;
  active = c.requires.like.active;
  since = c.requires.like.since;
  held_times = c.requires.like.held_times;
  candidates = c.requires.like.candidates;
  transitions = ap length c.copy_from.ensures.flags;
}

pub returns-clause-agrees : goal.returns-clause-agrees
unfolding IsLike
returns-clause-agrees c tables scans k =
    followed tables _ c.args.other.now scans (returns-clause-like c) c.copy_from.ensures.flags c.copy_from-2.ensures.flags k

pub copy_from-requires : goal.copy_from-requires
unfolding IsLike
copy_from-requires c = sym c.requires.like.transitions

pub copy_from-requires-2 : goal.copy_from-requires-2
unfolding IsLike
copy_from-requires-2 c = c.args.other.now.on_len ∙ sym (ap length c.requires.like.active) ∙ sym c.args.self.now.on_len

pub invariant_of-self-clause-candidates_len : goal.invariant_of-self-clause-candidates_len
unfolding IsLike
invariant_of-self-clause-candidates_len c =
    c.args.self.now.candidates_len ∙ c.requires.like.transitions ∙ sym (ap length c.copy_from.ensures.flags)

pub invariant_of-self-clause-on_len : goal.invariant_of-self-clause-on_len
unfolding IsLike
invariant_of-self-clause-on_len c =
    ap length c.copy_from-2.ensures.flags ∙ c.args.other.now.on_len ∙ sym (ap length c.requires.like.active)
