use Rattle.std.proofs.Common.{arith, ap, refl, sym, subst, length, ◌∙◌}
use Rattle.std.proofs.lemmas.List.{with_items_is}
use Rattle.sfc_base.specs.Instants.{AreInstants}
use Rattle.sfc_evolve.specs.Agreement.{IsLike}
use Rattle.sfc_evolve.proofs.steps.Steps.copy_from.Goals as goal

pub copy_flags-requires-2-clause-from_second_len : goal.copy_flags-requires-2-clause-from_second_len
copy_flags-requires-2-clause-from_second_len c = c.args.other.now.candidates_len ∙ c.requires.transitions

pub copy_times-requires-clause-held_times_len : goal.copy_times-requires-clause-held_times_len
copy_times-requires-clause-held_times_len c =
    let self = c.args.self.now in
    ap length c.deref_mut-2.ensures.value ∙ self.held_times_len ∙ sym (ap length c.deref_mut.ensures.value ∙ self.since_len)

pub copy_times-requires-clause-from_since_len : goal.copy_times-requires-clause-from_since_len
copy_times-requires-clause-from_since_len c =
    ap length c.deref.ensures.value ∙ c.args.other.now.since_len ∙ c.requires.steps
    ∙ sym (ap length c.deref_mut.ensures.value ∙ c.args.self.now.since_len)

pub copy_times-requires-clause-from_held_times_len : goal.copy_times-requires-clause-from_held_times_len
copy_times-requires-clause-from_held_times_len c =
    ap length c.deref-2.ensures.value ∙ c.args.other.now.held_times_len ∙ c.requires.steps
    ∙ sym (ap length c.deref_mut.ensures.value ∙ c.args.self.now.since_len)

pub invariant_of-self-clause-since_len : goal.invariant_of-self-clause-since_len
invariant_of-self-clause-since_len c =
    ap length (with_items_is c.args.self.now.since c.copy_times.new.since (omega arith)
    ∙ c.copy_times.ensures.since ∙ c.deref.ensures.value)
    ∙ c.args.other.now.since_len ∙ sym (ap length c.copy_flags.ensures.first)

pub invariant_of-self-clause-held_times_len : goal.invariant_of-self-clause-held_times_len
invariant_of-self-clause-held_times_len c =
    ap length (with_items_is c.args.self.now.held_times c.copy_times.new.held_times (omega arith)
    ∙ c.copy_times.ensures.held_times ∙ c.deref-2.ensures.value)
    ∙ c.args.other.now.held_times_len ∙ sym (ap length c.copy_flags.ensures.first)

pub invariant_of-self-clause-candidates_len : goal.invariant_of-self-clause-candidates_len
invariant_of-self-clause-candidates_len c =
    ap length c.copy_flags-2.ensures.second ∙ c.args.other.now.candidates_len ∙ sym (ap length c.copy_flags-2.ensures.first)

pub invariant_of-self-clause-used_len : goal.invariant_of-self-clause-used_len
invariant_of-self-clause-used_len c =
    c.args.self.now.used_len ∙ sym (ap length c.copy_flags.ensures.first ∙ c.requires.steps)

pub invariant_of-self-clause-on_len : goal.invariant_of-self-clause-on_len
invariant_of-self-clause-on_len c =
    ap length c.copy_flags.ensures.second ∙ c.args.other.now.on_len ∙ sym (ap length c.copy_flags.ensures.first)

pub invariant_of-self-clause-instants : goal.invariant_of-self-clause-instants
invariant_of-self-clause-instants c =
    subst AreInstants
    (sym (with_items_is c.args.self.now.since c.copy_times.new.since (omega arith)
    ∙ c.copy_times.ensures.since ∙ c.deref.ensures.value))
    c.args.other.now.instants

pub returns-clause-ticks : goal.returns-clause-ticks
returns-clause-ticks c =
    let self = c.args.self.now in
    let fits = ap length c.deref_mut.ensures.value in (
      omega arith,
      omega (
        arith,
        c.tick_all.ensures,
        c.count.ensures,
        ap length c.copy_flags-2.ensures.first,
        c.requires.transitions,
        c.copy_times.ensures.ticks,
        self.candidates_len,
        self.since_len,
        fits,
      ),
    )

pub returns-clause-like : goal.returns-clause-like
unfolding IsLike
returns-clause-like c =
    let self = c.args.self.now in
    let held = with_items_is self.held_times c.copy_times.new.held_times (omega arith)
    ∙ c.copy_times.ensures.held_times ∙ c.deref-2.ensures.value in
    record {
      begun = refl;
      active = c.copy_flags.ensures.first;
      since = with_items_is self.since c.copy_times.new.since (omega arith) ∙ c.copy_times.ensures.since ∙ c.deref.ensures.value;
      held_times = held;
      candidates = c.copy_flags-2.ensures.second;
      transitions = ap length c.copy_flags-2.ensures.first;
    }
