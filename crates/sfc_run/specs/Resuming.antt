-- How a debugger that follows a run goes on where rows of the feed were lost: from an opening that the run saves (our choice).
use Rattle.std.specs.Prelude.{ℕ, ◌≡◌, List, length, Option, IfSome}
use Rattle.sfc_control.specs.declared.entry.Entry.{Entry}
use Rattle.sfc_control.specs.LegalHistory.{IsLegal, commands_of}
use Rattle.sfc_control.specs.Saved.{IsSavedAfter}
use Rattle.sfc_control.specs.sfc_debug.Histories.{CommandHistory}
use Rattle.sfc_control.specs.sfc_debug.Openings.{IsOpeningFor}
use Rattle.sfc_control.specs.sfc_debug.Steered.{Steered}
use Rattle.sfc_control.specs.sfc_debug.declared.opening.DebugOpening.{DebugOpening}
use Rattle.sfc_run.specs.declared.resumption.Resumption.{Resumption}

-- the opening
unfoldable pub opening_in : Resumption → DebugOpening
opening_in resumption = resumption.opening

-- behind how many commands it was saved, where it waits for the row of the last of them
unfoldable pub behind_in : Resumption → Option ℕ
behind_in resumption = resumption.behind

-- it was saved behind so many commands of the run
abbrev pub IsSavedBehind : Steered → DebugOpening → ℕ → Type 0
IsSavedBehind steered opening count = (es : List Entry) × IsSavedAfter steered.plant steered.table opening count es

-- what waits was saved
pub record IsReady (steered : Steered) (resumption : Resumption) : Type 0 where
  pub opening : IsOpeningFor steered.plant (opening_in resumption)
  pub saved : IfSome (behind_in resumption) (IsSavedBehind steered (opening_in resumption))

-- these are commands of legal entries, so many
abbrev pub AreOfRun : Steered → ℕ → CommandHistory → Type 0
AreOfRun steered count h = (es : List Entry) × IsLegal steered.plant steered.table es × (count ≡ length es) × (h ≡ commands_of es)
