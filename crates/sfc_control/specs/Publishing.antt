-- A row that goes to the feed, or finds it full.
use Rattle.std.specs.Prelude.{◌≡◌, [], ◌∷◌, ◌++◌, ◌⊎◌}
use Rattle.std.specs.Bool.{MatchBool}
use Rattle.std.specs.declared.alloc.Global.{Global}
use Rattle.rtrb.specs.Ring.{sent, known_free}
use Rattle.rtrb.specs.declared.producer.Producer.{Producer}
use Rattle.sfc_events.specs.declared.command.TraceRow.{TraceRow}
use Rattle.sfc_debug.specs.declared.trace_mask.TraceMask.{TraceMask}
use Rattle.sfc_debug.specs.Tracing.{is_wanted}
use Rattle.sfc_control.specs.declared.tail.Rising.{Rising}

abbrev pub Feed : Type 0
Feed = Producer TraceRow Global Rising

-- the row is published, unless no slot is known to be free
abbrev pub Pushes : TraceRow → Feed → Feed → Type 0
Pushes row old new = (sent new ≡ sent old ++ row ∷ []) ⊎ ((sent new ≡ sent old) × (known_free new ≡ 0))

-- a row that is wanted is pushed
abbrev pub Publishes : TraceMask → TraceRow → Feed → Feed → Type 0
Publishes mask row old new = MatchBool (is_wanted mask row.command) (Pushes row old new) (sent new ≡ sent old)
