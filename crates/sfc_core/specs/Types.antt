-- Events whose values lie in the ranges of their types.
use Rattle.std.specs.Prelude.{List, All, IsTrue, ⊤}
use Rattle.sfc_expr.specs.Types.{lies_in_range}
use Rattle.sfc_events.specs.declared.event.Event.{Event}
use Rattle.sfc_events.specs.declared.event.Event.TheVariants.{Input, Force}
use Rattle.sfc_events.specs.History.{TimedEvent}

-- a value that the event gives lies in the range of its own type, whatever the variable's is
abbrev pub GivesInRange : Event → Type 0
GivesInRange (Input id v) = IsTrue (lies_in_range v)
GivesInRange (Force id v) = IsTrue (lies_in_range v)
GivesInRange _ = ⊤

abbrev pub GiveInRange : List TimedEvent → Type 0
GiveInRange events = All (λ (timed_event : TimedEvent). GivesInRange timed_event.0) events
