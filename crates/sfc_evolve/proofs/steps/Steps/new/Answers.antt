use Rattle.std.proofs.Common.{ap, sym, subst, length, ◌∙◌, false, pos}
use Rattle.std.proofs.lemmas.List.{length-replicate}
use Rattle.sfc_evolve.specs.Agreement.{StepsAgree}
use Rattle.sfc_base.specs.Instants.{AreInstants}
use Rattle.sfc_evolve.proofs.Proposed.{none_proposed, fresh, fresh_instants}
use Rattle.sfc_evolve.proofs.steps.Steps.new.Goals as goal

pub returns-clause-agrees : goal.returns-clause-agrees
unfolding StepsAgree
returns-clause-agrees c =
    let n = c.steps-n.result in
    let m = c.transitions-m.result in
    let flags = c.in_ok-active in
    let lists = c.in_ok-since in
    let sets = c.in_ok-cleared in
    record {
      size = record {
        same_steps = ap length flags.ensures.first ∙ length-replicate n false ∙ c.steps-n.ensures.count;
        same_transitions = ap length sets.ensures.first ∙ length-replicate m false ∙ c.transitions-m.ensures.count;
      };
      fields = fresh c.args.tables.now n m flags.active lists.since.items lists.held_times.items sets.cleared flags.on
          flags.ensures.first lists.ensures.second sets.ensures.first flags.ensures.third;
      proposed = rw flags.ensures.first (none_proposed c.args.tables.now c.steps-n.ensures.tables n _);
    }

pub returns-clause-sizes : goal.returns-clause-sizes
returns-clause-sizes c = record {
  same_steps =
      ap length c.in_ok-active.ensures.first ∙ length-replicate c.steps-n.result false ∙ c.steps-n.ensures.count;
  same_transitions =
      ap length c.in_ok-cleared.ensures.first ∙ length-replicate c.transitions-m.result false ∙ c.transitions-m.ensures.count;
}

pub invariant_of-result-clause-since_len : goal.invariant_of-result-clause-since_len
invariant_of-result-clause-since_len c =
    let n = c.steps-n.result in
    ap length c.in_ok-since.ensures.first ∙ length-replicate n (pos 0)
    ∙ sym (ap length c.in_ok-active.ensures.first ∙ length-replicate n false)

pub invariant_of-result-clause-held_times_len : goal.invariant_of-result-clause-held_times_len
invariant_of-result-clause-held_times_len c =
    let n = c.steps-n.result in
    ap length c.in_ok-since.ensures.second ∙ length-replicate n (pos 0)
    ∙ sym (ap length c.in_ok-active.ensures.first ∙ length-replicate n false)

pub invariant_of-result-clause-candidates_len : goal.invariant_of-result-clause-candidates_len
invariant_of-result-clause-candidates_len c =
    let m = c.transitions-m.result in
    ap length c.in_ok-cleared.ensures.second ∙ length-replicate m false
    ∙ sym (ap length c.in_ok-cleared.ensures.first ∙ length-replicate m false)

pub invariant_of-result-clause-used_len : goal.invariant_of-result-clause-used_len
invariant_of-result-clause-used_len c =
    let n = c.steps-n.result in
    ap length c.in_ok-active.ensures.second ∙ length-replicate n false
    ∙ sym (ap length c.in_ok-active.ensures.first ∙ length-replicate n false)

pub invariant_of-result-clause-on_len : goal.invariant_of-result-clause-on_len
invariant_of-result-clause-on_len c =
    let n = c.steps-n.result in
    ap length c.in_ok-active.ensures.third ∙ length-replicate n false
    ∙ sym (ap length c.in_ok-active.ensures.first ∙ length-replicate n false)

pub invariant_of-result-clause-instants : goal.invariant_of-result-clause-instants
invariant_of-result-clause-instants c =
    subst AreInstants (sym c.in_ok-since.ensures.first) (fresh_instants c.steps-n.result)
