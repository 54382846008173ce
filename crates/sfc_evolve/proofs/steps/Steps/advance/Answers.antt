use Rattle.std.proofs.Common.{◌≡◌, ◌∷◌, length, arith, ap, ◌∙◌, refl, sym, subst, SFits, w64, false, true, not, Bool}
use Rattle.std.proofs.lemmas.Int.{to_z-of_z}
use Rattle.std.proofs.lemmas.List.{with_items_is, length-replicate}
use Rattle.std.specs.Prelude.{replicate}
use Rattle.sfc_flags.specs.Flags.{flag, places_from}
use Rattle.sfc_evolve.specs.Agreement.{StepsAgree, IsLike, IsClose}
use Rattle.sfc_evolve.specs.Lookback.{is_empty}
use Rattle.sfc_base.specs.Instants.{AreInstants}
use Rattle.sfc_evolve.specs.Evolution.{Scan, rows_of, is_active}
use Rattle.sfc_evolve.proofs.Alike.{close_after}
use Rattle.sfc_evolve.proofs.Close.{kept}
use Rattle.sfc_evolve.proofs.Listed.{listed}
use Rattle.sfc_evolve.specs.Clearing.{step_count, transition_count, preceding_of}
use Rattle.sfc_evolve.specs.Private.Keeping.{FieldsAgree, left_by, begun_at, number}
use Rattle.sfc_evolve.proofs.Next.{Advanced, HasMoved, advanced, moved_on, fields_next, fields_at, quiet, left_active}
use Rattle.sfc_evolve.specs.Private.Proposing.{AreProposed}
use Rattle.sfc_evolve.proofs.Proposed.{proposed}
use Rattle.sfc_evolve.proofs.Works.{work_of_scan, clearing_is}
use Rattle.sfc_evolve.proofs.steps.Steps.advance.Goals as goal

not_true : (x : Bool) → not x ≡ true → x ≡ false
not_true true e = absurd (let bad : false ≡ true = e in cc)
not_true false e = refl

-- the lengths of all that is kept
record Sizes (c : goal.After-self-4-1) : Type 0 where
  active : length c.args.self.now.active ≡ step_count c.args.tables.now
  used : length c.args.self.now.used ≡ step_count c.args.tables.now
  on : length c.args.self.now.on ≡ step_count c.args.tables.now
  since : length c.args.self.now.since.items ≡ step_count c.args.tables.now
  held_times : length c.args.self.now.held_times.items ≡ step_count c.args.tables.now
  cleared : length c.args.self.now.cleared ≡ transition_count c.args.tables.now

sizes : (c : goal.After-self-4-1) → Sizes c
sizes c =
    let la = c.requires.sizes.same_steps in
    record {
      active = la;
      used = c.args.self.now.used_len ∙ la;
      on = c.args.self.now.on_len ∙ la;
      since = c.args.self.now.since_len ∙ la;
      held_times = c.args.self.now.held_times_len ∙ la;
      cleared = c.requires.sizes.same_transitions;
    }

-- how the steps moved
moved : (c : goal.After-self-4-1) → HasMoved c.args.tables.now c.args.self.now.active c.args.self.now.since.items
    c.args.self.now.held_times.items c.args.t c.clear_in_order.new.cleared c.move_on.new.on c.begin.new.active c.begin.new.since
    c.move_on.new.held_times
moved c =
    let tables = c.args.tables.now in
    let self = c.args.self.now in
    let n = sizes c in
    let ft : SFits w64 c.args.t = c.ranges.t in
    let cleared = c.clear_in_order.new.cleared in
    let on = c.move_on.new.on in
    let keeps : c.move_on.new.held_times
    ≡ left_by c.args.t c.deref.result.now (preceding_of tables.sides) (places_from cleared 0) c.deref_mut.result.now =
    simp to_z-of_z at c.move_on.ensures.held_times in
    let begins : c.begin.new.since ≡ begun_at c.args.t (places_from on 0) c.deref_mut-2.result.now =
    simp to_z-of_z at c.begin.ensures.since in
    moved_on tables c.steps-steps.ensures.tables self.begun self.active self.since.items self.held_times.items c.args.conditions.now c.args.t
    c.clear_all.new.self c.clear_all-2.new.self cleared c.move_on.new.active c.start.new.on on c.begin.new.active
    c.begin.new.since c.move_on.new.held_times
    n.active n.since n.held_times (c.move_on.ensures.on_len ∙ c.start.ensures.len ∙ n.on)
    (keeps ∙ (λ i. left_by c.args.t (c.deref.ensures.value i) (preceding_of tables.sides) (places_from cleared 0)
    (c.deref_mut.ensures.value i)))
    c.move_on.ensures.active
    (c.move_on.ensures.active_len ∙ n.active)
    c.begin.ensures.active
    (begins ∙ ap (begun_at c.args.t (places_from on 0)) c.deref_mut-2.ensures.value)

scanned : (c : goal.After-self-4-1) → AreProposed c.args.tables.now (flag c.args.self.now.active) c.args.self.now.candidates
    → Advanced c.args.tables.now c.args.self.now.begun c.args.self.now.active c.args.self.now.since.items
    c.args.self.now.held_times.items c.args.conditions.now c.args.t
    c.clear_in_order.new.cleared c.move_on.new.on c.begin.new.active c.begin.new.since c.move_on.new.held_times
scanned c proposes =
    let tables = c.args.tables.now in
    let self = c.args.self.now in
    let n = sizes c in
    advanced tables c.steps-steps.ensures.tables self.begun self.active self.since.items self.held_times.items c.args.conditions.now c.args.t
    c.clear_all.new.self c.clear_all-2.new.self c.clear_in_order.new.cleared c.move_on.new.active c.start.new.on c.move_on.new.on c.begin.new.active
    c.begin.new.since c.move_on.new.held_times
    (c.start.ensures.len ∙ n.on)
    (c.clear_all.ensures.flags ∙ ap (λ k. replicate k false) n.used)
    (c.clear_all-2.ensures.flags ∙ ap (λ k. replicate k false) n.cleared)
    (c.clear_in_order.ensures.cleared proposes)
    (λ s lt. c.start.ensures.flags s (omega (arith, n.on)))
    c.move_on.ensures.on
    (moved c)

pub clear_in_order-requires-clause-tables : goal.clear_in_order-requires-clause-tables
clear_in_order-requires-clause-tables c = c.steps-steps.ensures.tables

pub clear_in_order-requires-clause-active_len : goal.clear_in_order-requires-clause-active_len
clear_in_order-requires-clause-active_len c = c.requires.sizes.same_steps

pub clear_in_order-requires-clause-conditions_len : goal.clear_in_order-requires-clause-conditions_len
clear_in_order-requires-clause-conditions_len c = c.requires.conditions

pub clear_in_order-requires-clause-used_len : goal.clear_in_order-requires-clause-used_len
clear_in_order-requires-clause-used_len c =
    let self = c.args.self.now in
    ap length c.clear_all.ensures.flags ∙ length-replicate (length self.used) false ∙ self.used_len ∙ c.requires.sizes.same_steps

pub clear_in_order-requires-clause-cleared : goal.clear_in_order-requires-clause-cleared
clear_in_order-requires-clause-cleared c =
    c.clear_all-2.ensures.flags ∙ ap (λ k. replicate k false) c.requires.sizes.same_transitions

pub clear_in_order-requires-clause-candidates_len : goal.clear_in_order-requires-clause-candidates_len
clear_in_order-requires-clause-candidates_len c = c.args.self.now.candidates_len ∙ c.requires.sizes.same_transitions

pub move_on-requires-clause-tables : goal.move_on-requires-clause-tables
move_on-requires-clause-tables c = c.steps-steps.ensures.tables

pub move_on-requires-clause-active_len : goal.move_on-requires-clause-active_len
move_on-requires-clause-active_len c = c.requires.sizes.same_steps

pub move_on-requires-clause-cleared_len : goal.move_on-requires-clause-cleared_len
move_on-requires-clause-cleared_len c =
    c.clear_in_order.ensures.cleared_len
    ∙ ap length c.clear_all-2.ensures.flags
    ∙ length-replicate (length c.args.self.now.cleared) false
    ∙ c.requires.sizes.same_transitions

pub move_on-requires-clause-since_len : goal.move_on-requires-clause-since_len
move_on-requires-clause-since_len c =
    ap length c.deref.ensures.value ∙ c.args.self.now.since_len ∙ c.requires.sizes.same_steps

pub move_on-requires-clause-held_times_len : goal.move_on-requires-clause-held_times_len
move_on-requires-clause-held_times_len c =
    let self = c.args.self.now in
    ap length c.deref_mut.ensures.value ∙ self.held_times_len ∙ sym (ap length c.deref.ensures.value ∙ self.since_len)

pub move_on-requires-clause-instants : goal.move_on-requires-clause-instants
move_on-requires-clause-instants c = subst AreInstants (sym c.deref.ensures.value) c.args.self.now.instants

pub move_on-requires-clause-low : goal.move_on-requires-clause-low
move_on-requires-clause-low c =
    let fits : SFits w64 c.args.t = c.ranges.t in
    rw (to_z-of_z w64 c.args.t) c.requires.low

pub move_on-requires-clause-high : goal.move_on-requires-clause-high
move_on-requires-clause-high c =
    let fits : SFits w64 c.args.t = c.ranges.t in
    rw (to_z-of_z w64 c.args.t) c.requires.high

pub start-requires-clause-tables : goal.start-requires-clause-tables
start-requires-clause-tables c = c.steps-steps.ensures.tables

pub start-requires-clause-on_len : goal.start-requires-clause-on_len
start-requires-clause-on_len c = c.args.self.now.on_len ∙ c.requires.sizes.same_steps

pub move_on-requires-clause-on_len : goal.move_on-requires-clause-on_len
move_on-requires-clause-on_len c =
    c.start.ensures.len ∙ c.args.self.now.on_len ∙ c.requires.sizes.same_steps

pub begin-requires-clause-low : goal.begin-requires-clause-low
begin-requires-clause-low c =
    let fits : SFits w64 c.args.t = c.ranges.t in
    rw (to_z-of_z w64 c.args.t) c.requires.low

pub begin-requires-clause-high : goal.begin-requires-clause-high
begin-requires-clause-high c =
    let fits : SFits w64 c.args.t = c.ranges.t in
    rw (to_z-of_z w64 c.args.t) c.requires.high

pub begin-requires-clause-instants : goal.begin-requires-clause-instants
begin-requires-clause-instants c = subst AreInstants (sym c.deref_mut-2.ensures.value) c.args.self.now.instants

pub begin-requires-clause-on_len : goal.begin-requires-clause-on_len
begin-requires-clause-on_len c =
    let self = c.args.self.now in
    c.move_on.ensures.on_len ∙ c.start.ensures.len ∙ self.on_len ∙ sym (ap length c.deref_mut-2.ensures.value ∙ self.since_len)

pub begin-requires-clause-active_len : goal.begin-requires-clause-active_len
begin-requires-clause-active_len c =
    c.move_on.ensures.active_len ∙ sym (c.move_on.ensures.on_len ∙ c.start.ensures.len ∙ c.args.self.now.on_len)

pub propose-requires-clause-tables : goal.propose-requires-clause-tables
propose-requires-clause-tables c = c.steps-steps.ensures.tables

pub propose-requires-clause-active_len : goal.propose-requires-clause-active_len
propose-requires-clause-active_len c =
    c.begin.ensures.active_len ∙ c.move_on.ensures.active_len ∙ c.requires.sizes.same_steps

pub propose-requires-clause-candidates_len : goal.propose-requires-clause-candidates_len
propose-requires-clause-candidates_len c = c.args.self.now.candidates_len ∙ c.requires.sizes.same_transitions

pub returns-clause-sizes : goal.returns-clause-sizes
returns-clause-sizes c = record {
  same_steps = c.begin.ensures.active_len ∙ c.move_on.ensures.active_len ∙ c.requires.sizes.same_steps;
  same_transitions =
      c.clear_in_order.ensures.cleared_len
      ∙ ap length c.clear_all-2.ensures.flags
      ∙ length-replicate (length c.args.self.now.cleared) false
      ∙ c.requires.sizes.same_transitions;
}

pub invariant_of-self-2-clause-since_len : goal.invariant_of-self-2-clause-since_len
invariant_of-self-2-clause-since_len c =
    let self = c.args.self.now in
    let same : length c.begin.new.since ≡ length c.begin.new.active =
    omega (arith, self.since_len, c.begin.ensures.active_len, c.move_on.ensures.active_len) in
    ap length (with_items_is self.since c.begin.new.since (omega arith)) ∙ same

pub invariant_of-self-2-clause-used_len : goal.invariant_of-self-2-clause-used_len
invariant_of-self-2-clause-used_len c =
    let self = c.args.self.now in
    c.clear_in_order.ensures.used_len
    ∙ ap length c.clear_all.ensures.flags
    ∙ length-replicate (length self.used) false
    ∙ self.used_len
    ∙ sym (c.begin.ensures.active_len ∙ c.move_on.ensures.active_len)

pub invariant_of-self-2-clause-on_len : goal.invariant_of-self-2-clause-on_len
invariant_of-self-2-clause-on_len c =
    c.move_on.ensures.on_len ∙ c.start.ensures.len ∙ c.args.self.now.on_len
    ∙ sym (c.begin.ensures.active_len ∙ c.move_on.ensures.active_len)

pub returns-clause-agrees : goal.returns-clause-agrees
unfolding StepsAgree
returns-clause-agrees c scans k =
    let tables = c.args.tables.now in
    let self = c.args.self.now in
    let n = sizes c in
    let went = scanned c k.proposed in
    let next =
    fields_next tables c.steps-steps.ensures.tables self.begun self.active self.since.items self.held_times.items self.cleared self.on
    c.args.conditions.now c.args.t
    c.clear_in_order.new.cleared c.move_on.new.on c.begin.new.active c.begin.new.since c.move_on.new.held_times scans went k.fields in
    record {
      size = record {
        same_steps = c.begin.ensures.active_len ∙ c.move_on.ensures.active_len ∙ c.requires.sizes.same_steps;
        same_transitions =
            c.clear_in_order.ensures.cleared_len
            ∙ ap length c.clear_all-2.ensures.flags
            ∙ length-replicate (length self.cleared) false
            ∙ c.requires.sizes.same_transitions;
      };
      fields = fields_at tables true _ _ _ _ _ _ _ _ _ _ _ refl (with_items_is self.since _ (omega arith))
          (with_items_is self.held_times _ (omega arith)) refl refl next;
      proposed = proposed tables c.steps-steps.ensures.tables c.begin.new.active c.propose.new.candidates (length self.candidates)
          (self.candidates_len ∙ c.requires.sizes.same_transitions) c.propose.ensures.flags;
    }

pub returns-clause-ticks : goal.returns-clause-ticks
returns-clause-ticks c =
    let tables = c.args.tables.now in
    let n = sizes c in
    let clearing = clearing_is tables c.steps-steps.ensures.tables in
    let works = work_of_scan (length tables.initial) tables.sides c.steps-steps.ensures.tables.sides in (
      omega arith,
      omega (
        arith,
        clearing,
        works,
        n.active,
        n.used,
        n.on,
        n.cleared,
        c.clear_all.ensures.ticks,
        c.clear_all-2.ensures.ticks,
        c.clear_in_order.ensures.ticks,
        c.is_blank.ensures.ticks,
        c.clear_in_order.ensures.cleared_len,
        ap length c.clear_all-2.ensures.flags,
        length-replicate (length c.args.self.now.cleared) false,
        c.move_on.ensures.ticks,
        c.start.ensures.ticks,
        c.begin.ensures.ticks,
        c.propose.ensures.ticks,
        c.move_on.ensures.on_len,
        c.start.ensures.len,
        c.move_on.ensures.active_len,
      ),
    )

pub invariant_of-self-2-clause-candidates_len : goal.invariant_of-self-2-clause-candidates_len
invariant_of-self-2-clause-candidates_len c =
    let before = c.args.self.now.candidates_len in
    omega (
      arith,
      before,
      c.propose.ensures.len,
      c.clear_in_order.ensures.cleared_len,
      ap length c.clear_all-2.ensures.flags,
      length-replicate (length c.args.self.now.cleared) false,
    )

pub invariant_of-self-2-clause-held_times_len : goal.invariant_of-self-2-clause-held_times_len
invariant_of-self-2-clause-held_times_len c =
    let self = c.args.self.now in
    let same : length c.move_on.new.held_times ≡ length c.begin.new.active =
    omega (arith, self.held_times_len, c.begin.ensures.active_len, c.move_on.ensures.active_len) in
    ap length (with_items_is self.held_times c.move_on.new.held_times (omega arith)) ∙ same

pub invariant_of-self-2-clause-instants : goal.invariant_of-self-2-clause-instants
invariant_of-self-2-clause-instants c =
    subst AreInstants (sym (with_items_is c.args.self.now.since c.begin.new.since (omega arith))) c.begin.ensures.instants

pub returns-clause-close : goal.returns-clause-close
unfolding IsClose
returns-clause-close c answer other like =
    let tables = c.args.tables.now in
    let self = c.args.self.now in
    let n = sizes c in
    let same = sym (with_items_is self.since c.begin.new.since (omega arith)) in
    close_after other self _ like (c.begin.ensures.active_len ∙ c.move_on.ensures.active_len)
    (c.clear_in_order.ensures.cleared_len ∙ ap length c.clear_all-2.ensures.flags ∙ length-replicate (length self.cleared) false)
    (λ s lt off quiet.
    let is = kept tables self.active self.since.items self.held_times.items c.args.t c.clear_in_order.new.cleared c.move_on.new.on
    c.begin.new.active c.begin.new.since c.move_on.new.held_times (moved c)
    (left_active tables (flag self.active) c.clear_in_order.new.cleared c.clear_in_order.ensures.enabled)
    s (omega (arith, lt, n.active)) off quiet in
    record {
      since_is = is.since_is ∙ ap (λ xs. number xs s) same;
      time_is = is.time_is ∙ ap (λ xs. number xs s) (sym (with_items_is self.held_times c.move_on.new.held_times (omega arith)));
      inactive = is.inactive;
    })

-- ---- where no transition is cleared

pub returns-then-self-clause-agrees : goal.returns-then-self-clause-agrees
unfolding StepsAgree
returns-then-self-clause-agrees c scans k =
    let tables = c.args.tables.now in
    let self = c.args.self.now in
    let la = c.requires.sizes.same_steps in
    let cleared = c.clear_in_order.new.cleared in
    let on = c.clear_all-then-self.new.self in
    let off = c.clear_all-then-self.ensures.flags in
    let scan = quiet tables c.steps-steps.ensures.tables self.begun self.active self.since.items self.held_times.items c.args.conditions.now
    c.args.t c.clear_all.new.self c.clear_all-2.new.self cleared on (length self.on)
    la (self.since_len ∙ la) (self.held_times_len ∙ la)
    (ap length off ∙ length-replicate (length self.on) false ∙ self.on_len ∙ la)
    (c.clear_all.ensures.flags ∙ ap (λ k. replicate k false) (self.used_len ∙ la))
    (c.clear_all-2.ensures.flags ∙ ap (λ k. replicate k false) c.requires.sizes.same_transitions)
    (c.clear_in_order.ensures.cleared k.proposed) c.if-self.true (c.is_blank.ensures.blank c.if-is_blank.true) off in
    let next =
    fields_next tables c.steps-steps.ensures.tables self.begun self.active self.since.items self.held_times.items self.cleared self.on
    c.args.conditions.now c.args.t cleared on self.active self.since.items self.held_times.items scans scan k.fields in
    record {
      size = record {
        same_steps = la;
        same_transitions =
            c.clear_in_order.ensures.cleared_len
            ∙ ap length c.clear_all-2.ensures.flags
            ∙ length-replicate (length self.cleared) false
            ∙ c.requires.sizes.same_transitions;
      };
      fields =
          subst (λ (b : Bool). FieldsAgree tables b self.active self.since.items self.held_times.items cleared on
          (record { conditions = c.args.conditions.now; at = c.args.t } ∷ scans)) (sym c.if-self.true) next;
      proposed = k.proposed;
    }

pub returns-then-self-clause-ticks : goal.returns-then-self-clause-ticks
returns-then-self-clause-ticks c =
    let tables = c.args.tables.now in
    let self = c.args.self.now in
    let la = c.requires.sizes.same_steps in
    let clearing = clearing_is tables c.steps-steps.ensures.tables in
    let works = work_of_scan (length tables.initial) tables.sides c.steps-steps.ensures.tables.sides in
    let cleared = c.clear_in_order.ensures.cleared_len
    ∙ ap length c.clear_all-2.ensures.flags
    ∙ length-replicate (length self.cleared) false
    ∙ c.requires.sizes.same_transitions in (
      omega arith,
      omega (
        arith,
        clearing,
        works,
        la,
        self.used_len,
        self.on_len,
        c.requires.sizes.same_transitions,
        cleared,
        c.clear_all.ensures.ticks,
        c.clear_all-2.ensures.ticks,
        c.clear_in_order.ensures.ticks,
        c.is_blank.ensures.ticks,
        c.clear_all-then-self.ensures.ticks,
      ),
    )

pub returns-then-self-clause-begun : goal.returns-then-self-clause-begun
unfolding StepsAgree
returns-then-self-clause-begun c answer scans k = not_true (is_empty scans) (sym k.fields.has_begun ∙ c.if-self.true)

-- the same flags are those of the active steps before and after
pub returns-then-self-clause-same_steps : goal.returns-then-self-clause-same_steps
unfolding StepsAgree
returns-then-self-clause-same_steps c answer scans k =
    let tables = c.args.tables.now in
    let self = c.args.self.now in
    let long = c.requires.sizes.same_steps in
    let scan : Scan = record { conditions = c.args.conditions.now; at = c.args.t } in
    let next = returns-then-self-clause-agrees c scans k in
    sym (listed (is_active tables (rows_of tables (scan ∷ scans))) (step_count tables) self.active long next.fields.activity)
    ∙ listed (is_active tables (rows_of tables scans)) (step_count tables) self.active long k.fields.activity

pub returns-then-self-clause-like : goal.returns-then-self-clause-like
unfolding IsLike
returns-then-self-clause-like c answer other like = record {
  begun = like.begun;
  active = like.active;
  since = like.since;
  held_times = like.held_times;
  candidates = like.candidates;
  transitions = like.transitions
      ∙ sym (c.clear_in_order.ensures.cleared_len ∙ ap length c.clear_all-2.ensures.flags ∙ length-replicate (length c.args.self.now.cleared) false);
}
