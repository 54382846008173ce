use Rattle.std.proofs.Common.{◌≡◌, ◌+◌, ◌<◌, length, arith, rules, ap, ◌∙◌, sym, cond, SFits, w64, get_or, take, pos, ℕ, Bool}
use Rattle.std.proofs.lemmas.Int.{to_z-of_z}
use Rattle.sfc_events.specs.declared.event.Event.TheVariants.{Scan}
use Rattle.sfc_events.specs.History.{TimedEvent}
use Rattle.sfc_core.specs.Verdict.{accepted}
use Rattle.sfc_core.specs.Agreement.{Agrees, plant_of}
use Rattle.sfc_core.proofs.Runs.{after_all_more, accepted_more}
use Rattle.sfc_core.proofs.resource.Resource.run.Goals as goal
use Rattle.sfc_core.proofs.resource.Resource.run.Goals.{then-is_accepted, else-is_accepted}

pub loop-event-preserved : goal.loop-event-preserved
unfolding Agrees plant_of
loop-event-preserved c =
    let plant = plant_of c.args.self.now in
    let events = c.args.events.now in
    let i = c.loop-event.event-index in
    let one : ℕ = cond c.is_accepted.result 1 0 in
    let count_is : c.if-is_accepted.count ≡ c.loop-event.count + one =
    elim c.if-is_accepted.branch [ then-is_accepted w ↦ search rules | else-is_accepted w ↦ search rules ] in
    let d : TimedEvent = (Scan (record { 0 = 0 }), pos 0) in
    let lt : i < length events = omega arith in
    let f : SFits w64 (get_or events i d).1 = search rules in
    let same : plant_of c.loop-event.self ≡ plant_of c.args.self.now = c.loop-event.invariant.same_plant in
    record {
      same_plant = c.is_accepted.ensures.plant ∙ c.loop-event.invariant.same_plant;
      bound = elim c.if-is_accepted.branch [ then-is_accepted w ↦ omega arith | else-is_accepted w ↦ omega arith ];
      agrees = λ h a.
          rw (after_all_more plant events i d h lt)
          (simp (to_z-of_z, same) at (c.is_accepted.ensures.agrees _ (c.loop-event.invariant.agrees h a)));
      counted = λ h a.
          count_is
          ∙ ap (λ (n : ℕ). n + one) (c.loop-event.invariant.counted h a)
          ∙ ap (λ (b : Bool). accepted plant h (take i events) + cond b 1 0)
          (simp (to_z-of_z, same) at (c.is_accepted.ensures.value _ (c.loop-event.invariant.agrees h a)))
          ∙ sym (accepted_more plant events i d h lt);
    }
