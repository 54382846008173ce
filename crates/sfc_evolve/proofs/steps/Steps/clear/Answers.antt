use Rattle.std.proofs.Common.{◌≡◌, ◌∷◌, length, arith, ap, ◌∙◌, refl, sym, subst, SFits, w64, false, true, List, Bool}
use Rattle.std.proofs.lemmas.Int.{to_z-of_z}
use Rattle.std.proofs.lemmas.List.{length-replicate, length-set}
use Rattle.std.specs.Prelude.{replicate, slice_set}
use Rattle.sfc_flags.specs.Flags.{flag, places_from}
use Rattle.sfc_evolve.specs.Agreement.{StepsAgree, Enables}
use Rattle.sfc_evolve.specs.Clearing.{step_count, transition_count, preceding_of, following_of}
use Rattle.sfc_evolve.specs.Evolution.{Scan}
use Rattle.sfc_evolve.specs.Marks.{marked}
use Rattle.sfc_evolve.specs.Private.Keeping.{FieldsAgree, unmarked, left_at, put_at}
use Rattle.sfc_evolve.specs.Private.Proposing.{proposed_by}
use Rattle.sfc_evolve.proofs.Alike.{close_after}
use Rattle.sfc_evolve.proofs.Alone.{moved_alone, enabled_alone, advanced_alone}
use Rattle.sfc_evolve.proofs.Close.{kept}
use Rattle.sfc_evolve.proofs.Next.{HasMoved, fields_next, fields_at, left_active}
use Rattle.sfc_evolve.proofs.Proposed.{proposed}
use Rattle.sfc_evolve.proofs.steps.Steps.clear.Goals as goal

-- the lengths of what is kept, and what each part of the scan leaves
record Parts (c : goal.After-self-2-1) : Type 0 where
  active_len : length c.args.self.now.active ≡ step_count c.args.tables.now
  since_len : length c.args.self.now.since.items ≡ step_count c.args.tables.now
  held_times_len : length c.args.self.now.held_times.items ≡ step_count c.args.tables.now
  cleared : c.set.new.self ≡ slice_set (replicate (transition_count c.args.tables.now) false) c.args.transition.0 true
  on : c.leave_and_begin.new.self.on ≡ marked (following_of c.args.tables.now.sides c.args.transition.0) (replicate (step_count c.args.tables.now) false)
  active : c.leave_and_begin.new.self.active ≡ marked (following_of c.args.tables.now.sides c.args.transition.0)
      (unmarked (preceding_of c.args.tables.now.sides c.args.transition.0) c.args.self.now.active)
  since : c.leave_and_begin.new.self.since.items ≡ put_at c.args.t (following_of c.args.tables.now.sides c.args.transition.0) c.args.self.now.since.items
  held_times : c.leave_and_begin.new.self.held_times.items
      ≡ left_at c.args.t c.args.self.now.since.items (preceding_of c.args.tables.now.sides c.args.transition.0) c.args.self.now.held_times.items

parts : (c : goal.After-self-2-1) → Parts c
parts c =
    let self = c.args.self.now in
    let la = c.requires.sizes.same_steps in
    let ft : SFits w64 c.args.t = c.ranges.t in
    let left : c.leave_and_begin.new.self.held_times.items
    ≡ left_at c.args.t self.since.items c.preceding-preceding.result.now self.held_times.items =
    simp to_z-of_z at c.leave_and_begin.ensures.held_times in
    let begins : c.leave_and_begin.new.self.since.items ≡ put_at c.args.t c.following-following.result.now self.since.items =
    simp to_z-of_z at c.leave_and_begin.ensures.since in
    record {
      active_len = la;
      since_len = self.since_len ∙ la;
      held_times_len = self.held_times_len ∙ la;
      cleared = c.set.ensures
          ∙ ap (λ (f : List Bool). slice_set f c.args.transition.0 true)
          (c.clear_all.ensures.flags ∙ ap (λ m. replicate m false) c.requires.sizes.same_transitions);
      on = c.leave_and_begin.ensures.on
          ∙ (λ i. marked (c.following-following.ensures i)
          ((c.clear_all-2.ensures.flags ∙ ap (λ n. replicate n false) (self.on_len ∙ la)) i));
      active = c.leave_and_begin.ensures.active ∙ (λ i. marked (c.following-following.ensures i) (unmarked (c.preceding-preceding.ensures i) self.active));
      since = begins ∙ (λ i. put_at c.args.t (c.following-following.ensures i) self.since.items);
      held_times = left ∙ (λ i. left_at c.args.t self.since.items (c.preceding-preceding.ensures i) self.held_times.items);
    }

moved : (c : goal.After-self-2-1) → HasMoved c.args.tables.now c.args.self.now.active c.args.self.now.since.items
    c.args.self.now.held_times.items c.args.t c.set.new.self c.leave_and_begin.new.self.on c.leave_and_begin.new.self.active c.leave_and_begin.new.self.since.items c.leave_and_begin.new.self.held_times.items
moved c =
    let self = c.args.self.now in
    let p = parts c in
    moved_alone c.args.tables.now c.steps-steps.ensures.tables self.active self.since.items self.held_times.items c.args.t c.args.transition.0
    c.requires.transition c.set.new.self c.leave_and_begin.new.self.on c.leave_and_begin.new.self.active c.leave_and_begin.new.self.since.items c.leave_and_begin.new.self.held_times.items
    p.active_len p.since_len p.held_times_len p.cleared p.on p.active p.since p.held_times

cleared_long : (c : goal.After-self-2-1) → length c.leave_and_begin.new.self.cleared ≡ length c.args.self.now.cleared
cleared_long c =
    ap length c.leave_and_begin.ensures.cleared ∙ ap length c.set.ensures ∙ length-set _ _ _ ∙ ap length c.clear_all.ensures.flags ∙ length-replicate (length c.args.self.now.cleared) false

pub returns-clause-agrees : goal.returns-clause-agrees
unfolding StepsAgree Enables
returns-clause-agrees c answer conditions scans alone k =
    let tables = c.args.tables.now in
    let self = c.args.self.now in
    let p = parts c in
    let scan : Scan = record { conditions = conditions; at = c.args.t } in
    let went =
    advanced_alone tables c.steps-steps.ensures.tables self.active self.since.items self.held_times.items c.args.t c.args.transition.0
    c.requires.transition c.set.new.self c.leave_and_begin.new.self.on c.leave_and_begin.new.self.active c.leave_and_begin.new.self.since.items c.leave_and_begin.new.self.held_times.items
    p.active_len p.since_len p.held_times_len p.cleared p.on p.active p.since p.held_times self.begun conditions
    c.if-not-self.false alone c.requires.enabled in
    let next =
    fields_next tables c.steps-steps.ensures.tables self.begun self.active self.since.items self.held_times.items self.cleared self.on
    conditions c.args.t c.set.new.self c.leave_and_begin.new.self.on c.leave_and_begin.new.self.active c.leave_and_begin.new.self.since.items c.leave_and_begin.new.self.held_times.items scans went k.fields in
    record {
      size = record {
        same_steps = c.leave_and_begin.ensures.active_len ∙ p.active_len;
        same_transitions = cleared_long c ∙ c.requires.sizes.same_transitions;
      };
      fields = fields_at tables c.leave_and_begin.new.self.begun _ _ _ _ _ _ _ _ _ _ _ refl refl refl c.leave_and_begin.ensures.cleared refl
          (subst (λ (b : Bool). FieldsAgree tables b c.leave_and_begin.new.self.active c.leave_and_begin.new.self.since.items c.leave_and_begin.new.self.held_times.items c.set.new.self
          c.leave_and_begin.new.self.on (scan ∷ scans)) (sym (c.leave_and_begin.ensures.begun ∙ c.if-not-self.false)) next);
      proposed = proposed tables c.steps-steps.ensures.tables c.leave_and_begin.new.self.active c.propose.new.candidates (length self.candidates)
          (self.candidates_len ∙ c.requires.sizes.same_transitions)
          (c.propose.ensures.flags ∙ ap (λ l. proposed_by tables (places_from c.leave_and_begin.new.self.active 0) (replicate (length l) false)) c.leave_and_begin.ensures.candidates);
    }

pub returns-clause-close : goal.returns-clause-close
unfolding Enables
returns-clause-close c answer other like =
    let tables = c.args.tables.now in
    let self = c.args.self.now in
    let p = parts c in
    close_after other self _ like (c.leave_and_begin.ensures.active_len) (cleared_long c)
    (λ s lt off quiet.
    let is = kept tables self.active self.since.items self.held_times.items c.args.t c.set.new.self c.leave_and_begin.new.self.on
    c.leave_and_begin.new.self.active c.leave_and_begin.new.self.since.items c.leave_and_begin.new.self.held_times.items (moved c)
    (left_active tables (flag self.active) c.set.new.self
    (enabled_alone tables c.steps-steps.ensures.tables self.active self.since.items self.held_times.items c.args.t c.args.transition.0
    c.requires.transition c.set.new.self c.leave_and_begin.new.self.on c.leave_and_begin.new.self.active c.leave_and_begin.new.self.since.items c.leave_and_begin.new.self.held_times.items
    p.active_len p.since_len p.held_times_len p.cleared p.on p.active p.since p.held_times (flag self.active) c.requires.enabled))
    s (omega (arith, lt, p.active_len)) off quiet in
    record {
      since_is = is.since_is;
      time_is = is.time_is;
      inactive = is.inactive;
    })
