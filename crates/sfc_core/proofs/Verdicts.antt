-- The first refusal, by parts.
use Rattle.std.proofs.Common.{◌≡◌, ◌∙◌, List, ◌∷◌, Bool, Option, Some, None, Ok, Err, ℤ, refl, sym, ap}
use Rattle.sfc_plant.specs.Plants.{PlantData}
use Rattle.sfc_tasks.specs.Calls.{Elapsed}
use Rattle.sfc_events.specs.declared.event.Event.{Event}
use Rattle.sfc_events.specs.declared.event.Outcome.{Outcome}
use Rattle.sfc_events.specs.declared.refusal.Refusal.{Refusal}
use Rattle.sfc_events.specs.History.{History, last_instant}
use Rattle.sfc_instances.specs.Singles.{singles_in}
use Rattle.sfc_core.specs.declared.singles.Singles.{Singles}
use Rattle.sfc_core.specs.PlantState.{state_of}
use Rattle.sfc_core.specs.Due.{singles_of, calls_of, calls_at}
use Rattle.sfc_core.specs.Verdict.{or_then, instant_refusal, event_refusal, turn_refusal, first_refusal, answer, verdict, verdict_by}
use Rattle.sfc_core.specs.Private.Ready.{flags_of, IsReady}

or_then_assoc : (a b d : Option Refusal) → or_then a (or_then b d) ≡ or_then (or_then a b) d
or_then_assoc (Some x) b d = refl
or_then_assoc None b d = refl

-- where none of the two applies, the second does not
pub second_none : (a b : Option Refusal) → or_then a b ≡ None → b ≡ None
second_none (Some x) b e = absurd cc
second_none None b e = e

pub none_of : {A : Type 0} (o : Option A) → ((x : A) → o ≡ Some x → ⊥) → o ≡ None
none_of (Some x) other = absurd (other x refl)
none_of None other = refl

-- what the SINGLE of each task reads
pub singles_there : (plant : PlantData) (h : History) (singles : Singles)
    → flags_of singles ≡ singles_in plant (state_of plant h).changes → flags_of singles ≡ singles_of plant h
unfolding singles_of
singles_there plant h singles e = e

module _ (plant : PlantData) (h : History) (event : Event) (t : ℤ) (named : Option Refusal)
    (e : named ≡ or_then (instant_refusal (last_instant h) t) (event_refusal plant (state_of plant h).changes event)) where
  pub by_parts : first_refusal plant h event t ≡ or_then named (turn_refusal plant.tasks (singles_of plant h) (calls_at plant h t) event t)
  unfolding first_refusal
  by_parts =
      or_then_assoc (instant_refusal (last_instant h) t) (event_refusal plant (state_of plant h).changes event)
      (turn_refusal plant.tasks (singles_of plant h) (calls_at plant h t) event t)
      ∙ sym (ap (λ (o : Option Refusal). or_then o (turn_refusal plant.tasks (singles_of plant h) (calls_at plant h t) event t)) e)

  -- it is refused by its instant, or by what it names
  pub refused_named : (refusal : Refusal) → named ≡ Some refusal → Err refusal ≡ verdict plant h event t
  refused_named refusal is =
      sym (ap (λ (o : Option Refusal). verdict_by o (answer plant h event t))
      (by_parts ∙ ap (λ (o : Option Refusal). or_then o (turn_refusal plant.tasks (singles_of plant h) (calls_at plant h t) event t)) is))

  module _ (none : named ≡ None) (singles : List Bool) (there : singles ≡ singles_of plant h) (turn : Option Refusal)
      (f : turn ≡ turn_refusal plant.tasks singles (Elapsed t singles ∷ calls_of plant h) event t) where
    pub by_turn : first_refusal plant h event t ≡ turn
    by_turn =
        by_parts ∙ ap (λ (o : Option Refusal). or_then o (turn_refusal plant.tasks (singles_of plant h) (calls_at plant h t) event t)) none
        ∙ sym (f ∙ ap (λ (xs : List Bool). turn_refusal plant.tasks xs (Elapsed t xs ∷ calls_of plant h) event t) there)

    -- it is not its turn
    pub refused_turn : (refusal : Refusal) → turn ≡ Some refusal → Err refusal ≡ verdict plant h event t
    refused_turn refusal is = sym (ap (λ (o : Option Refusal). verdict_by o (answer plant h event t)) (by_turn ∙ is))

    -- it is accepted
    pub granted : (outcome : Outcome) → turn ≡ None → outcome ≡ answer plant h event t → Ok outcome ≡ verdict plant h event t
    granted outcome is says =
        sym (ap (λ (o : Option Refusal). verdict_by o (answer plant h event t)) (by_turn ∙ is) ∙ ap Ok (sym says))

  pub ready_there : named ≡ None → (singles : Singles) → flags_of singles ≡ singles_of plant h → IsReady plant h event singles
  ready_there none singles there = record {
    told = there;
    named =
        second_none (instant_refusal (last_instant h) t) (event_refusal plant (state_of plant h).changes event) (sym e ∙ none);
  }
