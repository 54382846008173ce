-- Histories whose events are in the order of their instants.
use Rattle.std.specs.Prelude.{◌^◌, [], ◌∷◌, pos, ◌≤ℤ◌, ⊤}
use Rattle.sfc_events.specs.History.{TimedEvent, History, last_instant}

-- the event is at an instant, and not before the latest of the history
pub record ComesAfter (h : History) (timed_event : TimedEvent) : Type 0 where
  pub low : pos 0 ≤ℤ timed_event.1
  pub high : timed_event.1 ≤ℤ pos (2 ^ 62)
  pub order : last_instant h ≤ℤ timed_event.1

-- each of them does
abbrev pub AreInOrder : History → Type 0
AreInOrder [] = ⊤
AreInOrder (timed_event ∷ h) = ComesAfter h timed_event × AreInOrder h
