-- Texts and scripts that are refused.
use Rattle.std.proofs.Common.{ℕ, List, Err}
use Rattle.sfc_replay.specs.declared.replay_error.ChartError.TheVariants as chart
use Rattle.sfc_replay.specs.declared.replay_error.ReplayError.{ReplayError}
use Rattle.sfc_replay.specs.declared.replay_error.ReplayError.TheVariants.{Chart, Script, Read, Write, Memory}
use Rattle.sfc_replay.specs.Acceptance.{Accepts}
use Rattle.sfc_replay.specs.Opening.{Opens}
use Rattle.sfc_c.specs.Faults.{Refuses, RefusesBoth, fault_by}

pub refused : (text : List ℕ) (error : ReplayError) → Accepts text (Err error) → Refuses text (fault_by error)
refused text (Chart (chart.Read error)) h = h
refused text (Chart (chart.Load error)) h = h
refused text (Script n) h = absurd h
refused text Read h = absurd h
refused text Write h = absurd h
refused text Memory h = tt

pub both_refused : (text script : List ℕ) (error : ReplayError) → Opens text script (Err error) → RefusesBoth text script (fault_by error)
both_refused text script (Chart (chart.Read error)) h = h
both_refused text script (Chart (chart.Load error)) h = h
both_refused text script (Script n) h = (h.plant, h.loaded, (n, h.parsed))
both_refused text script Read h = absurd h
both_refused text script Write h = absurd h
both_refused text script Memory h = tt
