-- A resource: which commands it stands for, and what was saved of it.
use Rattle.std.specs.Prelude.{◌≡◌, List, [], Option, Some, None}
use Rattle.sfc_replay.specs.sfc_debug.declared.debugger.Debugger.{Debugger}
use Rattle.sfc_replay.specs.sfc_debug.Agreement.{Agrees}
use Rattle.sfc_replay.specs.sfc_debug.Histories.{CommandHistory}
use Rattle.sfc_replay.specs.sfc_debug.Openings.{past_of}
use Rattle.sfc_replay.specs.sfc_debug.Past.{debug_past}
use Rattle.sfc_replay.specs.sfc_debug.Steered.{Steered, steered_by}
use Rattle.sfc_session.specs.Sessions.{last_instant}
use Rattle.sfc_c.specs.declared.plc.Plc.{Plc}
use Rattle.sfc_c.specs.declared.saved.Saved.{Saved}

-- its debugger
abbrev pub debugger_in : Plc → Debugger
debugger_in plc = plc.debugger

-- what it steers
abbrev pub steered_in : Plc → Steered
steered_in plc = steered_by plc.debugger

-- what was saved of it, by numbers from 0
abbrev pub slots_in : Plc → List Saved
slots_in plc = plc.slots.items

-- it agrees with these commands, and knows the instant of the latest
abbrev pub Stands : Plc → CommandHistory → Type 0
Stands plc h = Agrees plc.debugger h × (plc.instant ≡ last_instant h)

-- what was saved is what these commands leave
abbrev pub IsPast : Steered → CommandHistory → Saved → Type 0
IsPast s h saved = (past_of s.plant saved.opening ≡ debug_past s.plant s.table h) × (saved.instant ≡ last_instant h)

-- the same, where something was saved
abbrev pub IsSaved : Steered → CommandHistory → Option Saved → Type 0
IsSaved s h None = ⊥
IsSaved s h (Some saved) = IsPast s h saved

-- what was saved of what a handle holds
abbrev pub slots_of : Option Plc → List Saved
slots_of None = []
slots_of (Some plc) = slots_in plc
