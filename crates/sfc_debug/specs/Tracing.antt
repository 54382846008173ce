-- The trace: the newest rows of the commands whose kind is wanted (our choice).
use Rattle.std.specs.Prelude.{ℕ, ◌+◌, ◌==◌, Bool, cond, List, ◌∷◌, length, take, slice_get, bit_and, ℤ, Option}
use Rattle.sfc_plant.specs.Plants.{PlantData}
use Rattle.sfc_events.specs.declared.command.Answer.{Answer}
use Rattle.sfc_events.specs.declared.command.Command.{Command}
use Rattle.sfc_events.specs.declared.command.Command.TheVariants as commands
use Rattle.sfc_events.specs.declared.command.TraceRow.{TraceRow}
use Rattle.sfc_debug.specs.declared.break_condition.BreakCondition.{BreakCondition}
use Rattle.sfc_debug.specs.declared.trace_mask.TraceMask.{TraceMask}
use Rattle.sfc_debug.specs.Histories.{CommandHistory}
use Rattle.sfc_debug.specs.RunClock.{run_instant}
use Rattle.sfc_debug.specs.States.{state_of}

-- the kind's bit in a mask
abbrev pub kind_bit : Command → ℕ
kind_bit (commands.Scan task) = 1
kind_bit (commands.Single task delta) = 1
kind_bit (commands.Input id v) = 2
kind_bit (commands.Force id v) = 4
kind_bit (commands.Release id) = 4
kind_bit (commands.Reset p) = 8
kind_bit (commands.Break p point) = 16
kind_bit (commands.BreakIf p point id) = 16
kind_bit (commands.Unbreak p point) = 16
kind_bit commands.Stop = 32
kind_bit commands.Go = 32
kind_bit commands.End = 32
kind_bit commands.Epoch = 32
kind_bit (commands.Read id) = 64

-- rows of this command are wanted
abbrev pub is_wanted : TraceMask → Command → Bool
is_wanted mask command = bit_and mask.0 (kind_bit command) == kind_bit command

-- the row of a command that was accepted after these, and answered so
abbrev pub row_of : PlantData → List BreakCondition → CommandHistory → Command → ℤ → Answer → TraceRow
row_of plant table h command raw answer = record {
  number = length h + 1;
  raw = raw;
  t = run_instant (state_of plant table h).clock command raw;
  command = command;
  answer = answer;
}

-- the rows, the newest first, with one more if it is wanted
abbrev pub with_row : TraceMask → TraceRow → List TraceRow → List TraceRow
with_row mask row rows = cond (is_wanted mask row.command) (row ∷ rows) rows

-- the n-th of the newest ones that are kept, from 0
abbrev pub row_at : ℕ → List TraceRow → ℕ → Option TraceRow
row_at capacity rows n = slice_get (take capacity rows) n
