-- What a book answers to a command: the debugger's verdict, unless its limit leaves no room.
use Rattle.std.specs.Prelude.{ℕ, ◌+◌, Bool, cond, List, length, ℤ, Option, Some, None, Result, Ok, Err}
use Rattle.sfc_plant.specs.Plants.{PlantData}
use Rattle.sfc_events.specs.declared.command.Answer.{Answer}
use Rattle.sfc_events.specs.declared.command.Command.{Command}
use Rattle.sfc_events.specs.declared.refusal.Refusal.{Refusal}
use Rattle.sfc_events.specs.declared.refusal.Refusal.TheVariants.{Ended, HistoryFull}
use Rattle.sfc_debug.specs.declared.break_condition.BreakCondition.{BreakCondition}
use Rattle.sfc_debug.specs.declared.mode.Mode.{Mode}
use Rattle.sfc_debug.specs.Histories.{CommandHistory}
use Rattle.sfc_debug.specs.Modes.{is_ended}
use Rattle.sfc_debug.specs.States.{state_of}
use Rattle.sfc_debug.specs.Verdict.{verdict, verdict_by}
use Rattle.sfc_control.specs.declared.entry.Entry.{Entry}
use Rattle.sfc_control.specs.declared.receipt.Receipt.{Receipt}
use Rattle.sfc_control.specs.Holding.{held_number, is_full, first_in}
use Rattle.sfc_control.specs.LegalHistory.{commands_of}
use Rattle.sfc_control.specs.Receipts.{receipt_of}

-- the mode after the commands of a history
abbrev pub mode_of : PlantData → List BreakCondition → CommandHistory → Mode
mode_of plant table h = (state_of plant table h).clock.mode

-- after End, or else where no entry more may be held
abbrev pub bar_by : Bool → Bool → Option Refusal
bar_by ended full = cond ended (Some Ended) (cond full (Some HistoryFull) None)

abbrev pub bar : PlantData → List BreakCondition → ℕ → List Entry → Command → Option Refusal
bar plant table limit es command =
    bar_by (is_ended (mode_of plant table (commands_of es))) (is_full limit (held_number (first_in es) (length es)) command)

-- after all entries that were ever accepted, of which those from the cut on are held
abbrev pub book_verdict : PlantData → List BreakCondition → ℕ → List Entry → Command → ℤ → Result Answer Refusal
book_verdict plant table limit es command raw =
    verdict_by (bar plant table limit es command) (verdict plant table (commands_of es) command raw)

abbrev pub answered_by : ℕ → ℕ → Command → ℤ → Result Answer Refusal → Result Receipt Refusal
answered_by seat index command raw (Ok answer) =
    Ok (receipt_of index (record { seat = seat; command = command; raw = raw; answer = answer }))
answered_by seat index command raw (Err refusal) = Err refusal

-- to a seat, whose receipt has the next index
abbrev pub answered : PlantData → List BreakCondition → ℕ → List Entry → ℕ → Command → ℤ → Result Receipt Refusal
answered plant table limit es seat command raw =
    answered_by seat (length es + 1) command raw (book_verdict plant table limit es command raw)
