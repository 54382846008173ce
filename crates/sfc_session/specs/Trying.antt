-- Scans that are tried.
use Rattle.std.specs.Prelude.{◌≡◌, ℕ, true, false, List, ℤ, Some, None}
use Rattle.sfc_events.specs.declared.command.Command.TheVariants.{Scan}
use Rattle.sfc_output.specs.sfc_debug.Histories.{CommandHistory, TimedCommand}
use Rattle.sfc_output.specs.Output.{Verdict, debugger_of}
use Rattle.sfc_session.specs.declared.scanning.Tried.{Tried}
use Rattle.sfc_session.specs.declared.scanning.Tried.TheVariants.{Answered, NoTurn}
use Rattle.sfc_session.specs.declared.session.Session.{Session}
use Rattle.sfc_session.specs.Sessions.{IsTaken, Stays, steered_in}
use Rattle.sfc_session.specs.Scanning.{is_out_of_turn, next_among, tasks_of, turn_among}

-- A scan was answered at a raw instant. Where it was not the task's turn nothing is left of it.
pub record IsTried (old new : Session) (before behind : List ℕ) (told : Verdict) (h : CommandHistory) (lines : List ℕ)
    (timed : TimedCommand) : Type 0 where
  pub answer : told ≡ (debugger_of (steered_in old)).verdict h timed
  pub turn : is_out_of_turn told ≡ false → IsTaken old new before behind told h lines timed
  pub stays : is_out_of_turn told ≡ true → Stays old new h lines
  pub text : is_out_of_turn told ≡ true → behind ≡ before

-- The scan of the task whose turn it is at a raw instant was given; or it is no task's turn, and the earliest next release is found.
abbrev pub TriesAll : Session → Session → List ℕ → List ℕ → CommandHistory → List ℕ → ℤ → Tried → Type 0
TriesAll old new before behind h lines raw (Answered told) =
    (task : ℕ) × (turn_among (steered_in old) h raw (tasks_of (steered_in old)) ≡ Some task)
    × IsTaken old new before behind told h lines (Scan (record { 0 = task }), raw)
TriesAll old new before behind h lines raw (NoTurn next) =
    (turn_among (steered_in old) h raw (tasks_of (steered_in old)) ≡ None)
    × (next_among (steered_in old) h raw None (tasks_of (steered_in old)) ≡ next) × Stays old new h lines × (behind ≡ before)
