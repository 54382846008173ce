use Rattle.std.proofs.Common.{◌≡◌, ◌≤◌, take}
use Rattle.sfc_events.specs.History.{History}
use Rattle.sfc_core.specs.Verdict.{after_all, accepted}
use Rattle.sfc_core.specs.Agreement.{Agrees, plant_of}
use Rattle.sfc_core.proofs.resource.Resource.run.Given as goal

abbrev pub invariant-loop-event : goal.invariant-loop-event
invariant-loop-event l = record {
  same_plant : plant_of l.self ≡ plant_of l.fn.self;
  bound : l.count ≤ l.event-index;
  agrees : (h : History) → Agrees l.fn.self h → Agrees l.self (after_all (plant_of l.fn.self) h (take l.event-index l.events));
  counted : (h : History) → Agrees l.fn.self h → l.count ≡ accepted (plant_of l.fn.self) h (take l.event-index l.events);
}
