-- What a resource was told: the events that it accepted, each with its instant, the newest first.
use Rattle.std.specs.Prelude.{List, [], ◌∷◌, ℤ, negsuc}
use Rattle.sfc_events.specs.declared.event.Event.{Event}

abbrev pub TimedEvent : Type 0
TimedEvent = Event × ℤ

abbrev pub History : Type 0
History = List TimedEvent

-- the instant of the latest event; before the first event it is before every instant
abbrev pub last_instant : History → ℤ
last_instant [] = negsuc 0
last_instant (timed_event ∷ h) = timed_event.1
