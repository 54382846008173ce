-- What contracts see of a book.
use Rattle.std.specs.Prelude.{ℕ, ◌≡◌, List}
use Rattle.sfc_plant.specs.Plants.{PlantData}
use Rattle.rtrb.specs.Ring.{sent, known_free, producer_capacity, IsPair}
use Rattle.sfc_events.specs.declared.command.TraceRow.{TraceRow}
use Rattle.sfc_debug.specs.declared.break_condition.BreakCondition.{BreakCondition}
use Rattle.sfc_debug.specs.declared.debugger.Debugger.{Debugger}
use Rattle.sfc_debug.specs.declared.opening.DebugOpening.{DebugOpening}
use Rattle.sfc_debug.specs.declared.trace_mask.TraceMask.{TraceMask}
use Rattle.sfc_debug.specs.Agreement.{plant_of, table_of, mask_of}
use Rattle.sfc_control.specs.declared.entry.Entry.{Entry}
use Rattle.sfc_control.specs.declared.book.Book.{Book}
use Rattle.sfc_control.specs.declared.tail.Tail.{Tail}
use Rattle.sfc_control.specs.Histories.{whole, held, first_of, limit_of}
use Rattle.sfc_control.specs.Publishing.{Feed}

-- every entry since the first, the oldest first, also those that were dropped since
abbrev pub accepted : Book → List Entry
accepted book = whole book.history

-- those that are held
abbrev pub entries : Book → List Entry
entries book = held book.history

-- the index of the first that is held
abbrev pub first : Book → ℕ
first book = first_of book.history

abbrev pub limit : Book → ℕ
limit book = limit_of book.history

abbrev pub debugger_of : Book → Debugger
debugger_of book = book.debugger

abbrev pub opening_of : Book → DebugOpening
opening_of book = book.opening

abbrev pub plant : Book → PlantData
plant book = plant_of book.debugger

-- the conditions of breakpoints
abbrev pub table : Book → List BreakCondition
table book = table_of book.debugger

-- which commands have rows in the feed
abbrev pub mask : Book → TraceMask
mask book = mask_of book.debugger

abbrev pub feed_of : Book → Feed
feed_of book = book.feed

abbrev pub published : Book → List TraceRow
published book = sent book.feed

-- how many rows the feed has room for, and how many slots the book knows to be free
abbrev pub room_of : Book → ℕ
room_of book = producer_capacity book.feed

abbrev pub free_of : Book → ℕ
free_of book = known_free book.feed

-- the same book, its feed apart
pub record SameBook (old new : Book) : Type 0 where
  pub accepted : accepted new ≡ accepted old
  pub entries : entries new ≡ entries old
  pub first : first new ≡ first old
  pub limit : limit new ≡ limit old
  pub debugger : debugger_of new ≡ debugger_of old
  pub opening : opening_of new ≡ opening_of old

-- the tail is at the other end of the book's feed
abbrev pub IsTailOf : Book → Tail → Type 0
IsTailOf book tail = IsPair book.feed tail.feed
