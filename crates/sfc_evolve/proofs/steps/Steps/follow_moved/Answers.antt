use Rattle.std.proofs.Common.{◌||◌, arith, ap, cond, refl, sym, subst, length, ◌∙◌}
use Rattle.std.proofs.lemmas.List.{with_items_is}
use Rattle.sfc_flags.specs.Flags.{flag}
use Rattle.sfc_base.specs.Instants.{AreInstants}
use Rattle.sfc_evolve.specs.Private.Keeping.{number}
use Rattle.sfc_evolve.specs.Agreement.{IsLike, IsClose}
use Rattle.sfc_evolve.proofs.Alike.{followed, close_since, close_held_times}
use Rattle.sfc_evolve.proofs.steps.Steps.follow_moved.Goals as goal

pub copy_moved-requires-clause-held_times_len : goal.copy_moved-requires-clause-held_times_len
copy_moved-requires-clause-held_times_len c =
    let self = c.args.self.now in
    let other = c.args.other.now in
    ap length c.deref_mut-2.ensures.value ∙ self.held_times_len ∙ sym (ap length c.deref_mut.ensures.value ∙ self.since_len)

pub copy_moved-requires-clause-since_len : goal.copy_moved-requires-clause-since_len
unfolding IsClose
copy_moved-requires-clause-since_len c =
    let self = c.args.self.now in
    let other = c.args.other.now in
    ap length c.deref.ensures.value ∙ other.since_len ∙ sym c.requires.close.steps
    ∙ sym (ap length c.deref_mut.ensures.value ∙ self.since_len)

pub copy_moved-requires-clause-from_held_times_len : goal.copy_moved-requires-clause-from_held_times_len
unfolding IsClose
copy_moved-requires-clause-from_held_times_len c =
    let self = c.args.self.now in
    let other = c.args.other.now in
    ap length c.deref-2.ensures.value ∙ other.held_times_len ∙ sym c.requires.close.steps
    ∙ sym (ap length c.deref_mut.ensures.value ∙ self.since_len)

pub copy_moved-requires-clause-on_len : goal.copy_moved-requires-clause-on_len
unfolding IsClose
copy_moved-requires-clause-on_len c =
    let self = c.args.self.now in
    let other = c.args.other.now in
    other.on_len ∙ sym c.requires.close.steps ∙ sym (ap length c.deref_mut.ensures.value ∙ self.since_len)

pub copy_flags-requires-clause-from_first_len : goal.copy_flags-requires-clause-from_first_len
unfolding IsClose
copy_flags-requires-clause-from_first_len c =
    sym c.requires.close.steps

pub copy_flags-requires-clause-from_second_len : goal.copy_flags-requires-clause-from_second_len
unfolding IsClose
copy_flags-requires-clause-from_second_len c =
    c.args.other.now.on_len ∙ sym c.requires.close.steps

pub copy_flags-requires-2-clause-from_first_len : goal.copy_flags-requires-2-clause-from_first_len
unfolding IsClose
copy_flags-requires-2-clause-from_first_len c =
    sym c.requires.close.transitions

pub copy_flags-requires-2-clause-from_second_len : goal.copy_flags-requires-2-clause-from_second_len
unfolding IsClose
copy_flags-requires-2-clause-from_second_len c =
    c.args.other.now.candidates_len ∙ sym c.requires.close.transitions

pub invariant_of-self-clause-since_len : goal.invariant_of-self-clause-since_len
unfolding IsClose
invariant_of-self-clause-since_len c =
    let self = c.args.self.now in
    let other = c.args.other.now in
    ap length (with_items_is self.since c.copy_moved.new.since (omega arith))
    ∙ c.copy_moved.ensures.since_len ∙ ap length c.deref_mut.ensures.value ∙ self.since_len ∙ c.requires.close.steps
    ∙ sym (ap length c.copy_flags.ensures.first)

pub invariant_of-self-clause-held_times_len : goal.invariant_of-self-clause-held_times_len
unfolding IsClose
invariant_of-self-clause-held_times_len c =
    let self = c.args.self.now in
    let other = c.args.other.now in
    ap length (with_items_is self.held_times c.copy_moved.new.held_times (omega arith))
    ∙ c.copy_moved.ensures.held_times_len ∙ ap length c.deref_mut-2.ensures.value ∙ self.held_times_len ∙ c.requires.close.steps
    ∙ sym (ap length c.copy_flags.ensures.first)

pub invariant_of-self-clause-candidates_len : goal.invariant_of-self-clause-candidates_len
invariant_of-self-clause-candidates_len c =
    ap length c.copy_flags-2.ensures.second ∙ c.args.other.now.candidates_len ∙ sym (ap length c.copy_flags-2.ensures.first)

pub invariant_of-self-clause-used_len : goal.invariant_of-self-clause-used_len
unfolding IsClose
invariant_of-self-clause-used_len c =
    c.args.self.now.used_len ∙ c.requires.close.steps ∙ sym (ap length c.copy_flags.ensures.first)

pub invariant_of-self-clause-on_len : goal.invariant_of-self-clause-on_len
invariant_of-self-clause-on_len c =
    ap length c.copy_flags.ensures.second ∙ c.args.other.now.on_len ∙ sym (ap length c.copy_flags.ensures.first)

pub invariant_of-self-clause-instants : goal.invariant_of-self-clause-instants
invariant_of-self-clause-instants c =
    let self = c.args.self.now in
    let other = c.args.other.now in
    let since =
    close_since self other c.requires.close c.copy_moved.new.since
    (c.copy_moved.ensures.since_len ∙ ap length c.deref_mut.ensures.value ∙ self.since_len)
    (λ s lt. c.copy_moved.ensures.since s (omega (arith, lt, ap length c.deref_mut.ensures.value, self.since_len))
    ∙ (λ i. cond (flag self.active s || flag other.on s) (number (c.deref.ensures.value i) s) (number (c.deref_mut.ensures.value i) s))) in
    subst AreInstants (sym (with_items_is self.since c.copy_moved.new.since (omega arith) ∙ since)) other.instants

pub returns-clause-steps : goal.returns-clause-steps
unfolding IsClose
returns-clause-steps c =
    ap length c.copy_flags.ensures.first ∙ sym c.requires.close.steps

pub returns-clause-transitions : goal.returns-clause-transitions
unfolding IsClose
returns-clause-transitions c =
    ap length c.copy_flags-2.ensures.first ∙ sym c.requires.close.transitions

pub returns-clause-like : goal.returns-clause-like
unfolding IsLike
returns-clause-like c =
    let self = c.args.self.now in
    let other = c.args.other.now in
    let since =
    close_since self other c.requires.close c.copy_moved.new.since
    (c.copy_moved.ensures.since_len ∙ ap length c.deref_mut.ensures.value ∙ self.since_len)
    (λ s lt. c.copy_moved.ensures.since s (omega (arith, lt, ap length c.deref_mut.ensures.value, self.since_len))
    ∙ (λ i. cond (flag self.active s || flag other.on s) (number (c.deref.ensures.value i) s) (number (c.deref_mut.ensures.value i) s))) in
    let held_times =
    close_held_times self other c.requires.close c.copy_moved.new.held_times
    (c.copy_moved.ensures.held_times_len ∙ ap length c.deref_mut-2.ensures.value ∙ self.held_times_len)
    (λ s lt. c.copy_moved.ensures.held_times s (omega (arith, lt, ap length c.deref_mut.ensures.value, self.since_len))
    ∙ (λ i. cond (flag self.active s || flag other.on s) (number (c.deref-2.ensures.value i) s)
    (number (c.deref_mut-2.ensures.value i) s))) in
    let times = with_items_is self.held_times c.copy_moved.new.held_times (omega arith) ∙ held_times in
    record {
      begun = refl;
      active = c.copy_flags.ensures.first;
      since = with_items_is self.since c.copy_moved.new.since (omega arith) ∙ since;
      held_times = times;
      candidates = c.copy_flags-2.ensures.second;
      transitions = ap length c.copy_flags-2.ensures.first;
    }

pub returns-clause-agrees : goal.returns-clause-agrees
unfolding IsLike
returns-clause-agrees c tables scans k =
    followed tables _ c.args.other.now scans (returns-clause-like c) c.copy_flags-2.ensures.first c.copy_flags.ensures.second k

pub returns-clause-ticks : goal.returns-clause-ticks
unfolding IsClose
returns-clause-ticks c =
    let self = c.args.self.now in
    let other = c.args.other.now in (
      omega (arith, c.tick_all.ensures, c.tick_all-2.ensures),
      omega (
        arith,
        c.tick_all.ensures,
        c.tick_all-2.ensures,
        c.count.ensures,
        c.count-2.ensures,
        ap length c.copy_flags.ensures.first,
        ap length c.copy_flags-2.ensures.first,
        c.requires.close.steps,
        c.requires.close.transitions,
      ),
    )
