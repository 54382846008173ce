-- What contracts see of the end of a feed that takes rows.
use Rattle.std.specs.Prelude.{ℕ, List}
use Rattle.rtrb.specs.Ring.{received, known_items, consumer_capacity, SameConsumer}
use Rattle.sfc_events.specs.declared.command.TraceRow.{TraceRow}
use Rattle.sfc_control.specs.declared.tail.Tail.{Tail}

abbrev pub taken : Tail → List TraceRow
taken tail = received tail.feed

-- the published rows that it knows of, and that weren't taken
abbrev pub coming : Tail → List TraceRow
coming tail = known_items tail.feed

-- how many rows the feed has room for
abbrev pub capacity : Tail → ℕ
capacity tail = consumer_capacity tail.feed

-- the end of the same feed
abbrev pub SameTail : Tail → Tail → Type 0
SameTail old new = SameConsumer old.feed new.feed
