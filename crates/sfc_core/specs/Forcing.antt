-- What an event does with forces (2.4).
use Rattle.std.specs.Prelude.{ℕ, ◌==◌, Bool, false}
use Rattle.sfc_events.specs.declared.event.Event.{Event}
use Rattle.sfc_events.specs.declared.event.Event.TheVariants.{Force, Release}

-- it forces or releases variable i
abbrev pub turns : ℕ → Event → Bool
turns i (Force id v) = id.0 == i
turns i (Release id) = id.0 == i
turns i _ = false
