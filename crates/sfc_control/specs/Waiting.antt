-- Until when a worker may wait whose call was refused (our choice).
use Rattle.std.specs.Prelude.{List, [], ◌∷◌, ◌++◌, ℤ, ◌-ℤ◌, Result, Ok, Err}
use Rattle.sfc_plant.specs.Plants.{PlantData}
use Rattle.sfc_debug.specs.declared.break_condition.BreakCondition.{BreakCondition}
use Rattle.sfc_debug.specs.declared.run_clock.RunClock.{RunClock}
use Rattle.sfc_debug.specs.States.{state_of}
use Rattle.sfc_control.specs.declared.call_error.CallError.{CallError}
use Rattle.sfc_control.specs.declared.entry.Entry.{Entry}
use Rattle.sfc_control.specs.declared.receipt.Receipt.{Receipt}
use Rattle.sfc_control.specs.LegalHistory.{commands_of}
use Rattle.sfc_control.specs.Receipts.{entry_of}

-- by how much run instants are below raw ones, from the latest command on, as long as the resource runs
abbrev pub lag : RunClock → ℤ
lag clock = clock.raw -ℤ clock.instant

-- the run clock after the entries
abbrev pub clock_of : PlantData → List BreakCondition → List Entry → RunClock
clock_of plant table es = (state_of plant table (commands_of es)).clock

-- the entries behind a call that is answered so
abbrev pub entries_after : List Entry → Result Receipt CallError → List Entry
entries_after es (Ok receipt) = es ++ entry_of receipt ∷ []
entries_after es (Err error) = es

-- the lag there
abbrev pub lag_after : PlantData → List BreakCondition → List Entry → Result Receipt CallError → ℤ
lag_after plant table es answer = lag (clock_of plant table (entries_after es answer))
