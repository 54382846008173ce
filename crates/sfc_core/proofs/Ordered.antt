-- The events that were accepted are in the order of their instants, and so is what the tasks are told.
use Rattle.std.proofs.Common.{◌≡◌, ◌^◌, ℕ, suc, Bool, true, false, cond, List, [], ◌∷◌, arith, refl, sym, subst}
use Rattle.std.proofs.Common.{ℤ, pos, ◌≤ℤ◌, int_lt, Option, Result, Ok, Err}
use Rattle.std.specs.Prelude.{not, ◌&&◌}
use Rattle.std.proofs.lemmas.Int.{ints}
use Rattle.sfc_plant.specs.Plants.{PlantData}
use Rattle.sfc_tasks.specs.Calls.{Call, Elapsed, Rose}
use Rattle.sfc_tasks.specs.Calls as calls
use Rattle.sfc_tasks.specs.Meaning as tasks
use Rattle.sfc_events.specs.declared.event.Event.{Event}
use Rattle.sfc_events.specs.declared.event.Event.TheVariants.{Scan, ForcedScan, Input, Force, Release, Reset}
use Rattle.sfc_events.specs.declared.event.Outcome.{Outcome}
use Rattle.sfc_events.specs.declared.refusal.Refusal.{Refusal}
use Rattle.sfc_events.specs.declared.refusal.Refusal.TheVariants.{InstantRange, ClockBack}
use Rattle.sfc_events.specs.History.{TimedEvent, History, last_instant}
use Rattle.sfc_core.specs.Due.{singles_of, calls_of, with_rise, with_rises, with_service}
use Rattle.sfc_core.specs.Verdict.{is_out_of_range, refused_if, or_then, first_refusal, verdict, verdict_by, history_by, after, after_all}
use Rattle.sfc_core.specs.Order.{ComesAfter, AreInOrder}

-- ---- what is accepted

-- the first two refusals do not stand where the answer is Ok
two_fail : (a b : Bool) (rest : Option Refusal) (says o : Outcome)
    → verdict_by (or_then (or_then (refused_if a InstantRange) (refused_if b ClockBack)) rest) says ≡ Ok o → (a ≡ false) × (b ≡ false)
two_fail true b rest says o e = absurd cc
two_fail false true rest says o e = absurd cc
two_fail false false rest says o e = (refl, refl)

not_low : (t : ℤ) → is_out_of_range t ≡ false → pos 0 ≤ℤ t
not_low t e = grind (arith, ints)

not_high : (t : ℤ) → is_out_of_range t ≡ false → t ≤ℤ pos (2 ^ 62)
not_high t e = grind (arith, ints)

not_back : (t last : ℤ) → int_lt t last ≡ false → last ≤ℤ t
not_back t last e = grind (arith, ints)

pub comes_after : (plant : PlantData) (h : History) (timed_event : TimedEvent) (o : Outcome) → verdict plant h timed_event.0 timed_event.1 ≡ Ok o → ComesAfter h timed_event
unfolding first_refusal
comes_after plant h timed_event o e =
    let (range, back) = two_fail (is_out_of_range timed_event.1) (int_lt timed_event.1 (last_instant h)) _ _ o e in
    record { low = not_low timed_event.1 range; high = not_high timed_event.1 range; order = not_back timed_event.1 (last_instant h) back }

ordered_by : (h : History) (timed_event : TimedEvent) (v : Result Outcome Refusal) → AreInOrder h → ((o : Outcome) → v ≡ Ok o → ComesAfter h timed_event)
    → AreInOrder (history_by v h timed_event)
ordered_by h timed_event (Ok outcome) ordered comes = (comes outcome refl, ordered)
ordered_by h timed_event (Err refusal) ordered comes = ordered

pub all_in_order : (plant : PlantData) (events : List TimedEvent) (h : History) → AreInOrder h → AreInOrder (after_all plant h events)
all_in_order plant [] h ordered = ordered
all_in_order plant (timed_event ∷ events) h ordered =
    all_in_order plant events (after plant h timed_event)
    (ordered_by h timed_event (verdict plant h timed_event.0 timed_event.1) ordered (λ o e. comes_after plant h timed_event o e))

-- ---- what the tasks are told

-- time has gone on to t, and the calls are in order
record StandsAt (t : ℤ) (told_calls : List Call) : Type 0 where
  at : calls.last_instant told_calls ≡ t
  ordered : tasks.AreInOrder told_calls

rise_order : (t : ℤ) (k : ℕ) (b : Bool) (told_calls : List Call) → StandsAt t told_calls → StandsAt t (cond b (Rose (record { 0 = k }) t ∷ told_calls) told_calls)
rise_order t k true told_calls h = record { at = h.at; ordered = (sym h.at, h.ordered) }
rise_order t k false told_calls h = h

rises_order : (t : ℤ) (k : ℕ) (before after : List Bool) (told_calls : List Call) → StandsAt t told_calls
    → StandsAt t (with_rises t k before after told_calls)
rises_order t k [] after told_calls h = h
rises_order t k (x ∷ before) [] told_calls h = h
rises_order t k (x ∷ before) (y ∷ after) told_calls h =
    rises_order t (suc k) before after (with_rise t k x y told_calls) (rise_order t k (not x && y) told_calls h)

service_order : (t : ℤ) (event : Event) (told_calls : List Call) → StandsAt t told_calls → StandsAt t (with_service event told_calls)
service_order t (Scan task) told_calls h = record { at = h.at; ordered = (tt, h.ordered) }
service_order t (ForcedScan task) told_calls h = record { at = h.at; ordered = (tt, h.ordered) }
service_order t (Input id v) told_calls h = h
service_order t (Force id v) told_calls h = h
service_order t (Release id) told_calls h = h
service_order t (Reset p) told_calls h = h

stands : (plant : PlantData) (h : History) → AreInOrder h → StandsAt (last_instant h) (calls_of plant h)
unfolding calls_of
stands plant [] ordered = record { at = refl; ordered = tt }
stands plant (timed_event ∷ h) (comes, ordered) =
    let before = stands plant h ordered in
    rises_order timed_event.1 0 (singles_of plant h) (singles_of plant (timed_event ∷ h)) _
    (service_order timed_event.1 timed_event.0 (Elapsed timed_event.1 (singles_of plant h) ∷ calls_of plant h)
    (record { at = refl; ordered = (subst (λ (u : ℤ). u ≤ℤ timed_event.1) (sym before.at) comes.order, before.ordered) }))

pub calls_in_order : (plant : PlantData) (h : History) → AreInOrder h → tasks.AreInOrder (calls_of plant h)
calls_in_order plant h ordered = (stands plant h ordered).ordered
