-- What a handle's calls answer: the debugger's own words, over whatever the handle's debugger agrees with.
use Rattle.std.specs.Prelude.{◌≡◌, [], ℤ, Option, Some, None}
use Rattle.sfc_plant.specs.Plants.{PlantData}
use Rattle.sfc_events.specs.declared.command.Command.{Command}
use Rattle.sfc_events.specs.History.{History}
use Rattle.sfc_replay.specs.sfc_debug.Histories.{CommandHistory}
use Rattle.sfc_replay.specs.sfc_debug.States as debug
use Rattle.sfc_replay.specs.sfc_debug.Verdict.{verdict, after}
use Rattle.sfc_replay.specs.sfc_debug.Steered.{Steered}
use Rattle.sfc_c.specs.declared.plc.Plc.{Plc}
use Rattle.sfc_c.specs.declared.reply.Reply.{Reply}
use Rattle.sfc_c.specs.Codes.{code_of, reply_of}
use Rattle.sfc_c.specs.Resources.{Stands, steered_in}

-- it holds a resource of this plant and these conditions, which agrees with these commands
abbrev pub Holds : Option Plc → Steered → CommandHistory → Type 0
Holds None s h = ⊥
Holds (Some plc) s h = (steered_in plc ≡ s) × Stands plc h

-- the plant, and no conditions of breakpoints
abbrev pub without_conditions : PlantData → Steered
without_conditions plant = record { plant = plant; table = [] }

-- ---- commands

-- this is the number of the debugger's verdict on a command at t, after whatever it agrees with
abbrev pub Answers : Option Plc → Command → ℤ → ℤ → Type 0
Answers held command t number =
    (s : Steered) (h : CommandHistory) → Holds held s h → number ≡ code_of (verdict s.plant s.table h command t)

-- and this is what it tells
abbrev pub Replies : Option Plc → Command → ℤ → Reply → Type 0
Replies held command t reply =
    (s : Steered) (h : CommandHistory) → Holds held s h → reply ≡ reply_of (verdict s.plant s.table h command t)

-- the command is one more of those that it agrees with, where it is accepted
abbrev pub Follows : Option Plc → Option Plc → Command → ℤ → Type 0
Follows old new command t =
    (s : Steered) (h : CommandHistory) → Holds old s h → Holds new s (after s.plant s.table h (command, t))

-- ---- readings

-- what the resource was told by the commands
abbrev pub events_of : Steered → CommandHistory → History
events_of s h = debug.erasure s.plant s.table h
