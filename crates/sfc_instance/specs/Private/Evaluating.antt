-- One transition of a scan.
use Rattle.std.specs.Prelude.{ℕ, ◌≡◌, ◌==◌, ◌&&◌, Bool, false, cond, List, Result, Ok, Err, ◌+◌, length, slice_get}
use Rattle.std.specs.List.{list_any}
use Rattle.sfc_flags.specs.Flags.{flag}
use Rattle.sfc_base.specs.declared.ids.TransitionId.{TransitionId}
use Rattle.sfc_expr.specs.declared.fault.Fault.{Fault}
use Rattle.sfc_expr.specs.Environment.{Environment}
use Rattle.sfc_plant.specs.declared.chart.Chart.{Chart}
use Rattle.sfc_tables.specs.Tables.{Tabled}
use Rattle.sfc_instance.specs.declared.conditions.TransitionFault.{TransitionFault}
use Rattle.sfc_instance.specs.Life.{Life}
use Rattle.sfc_expr.specs.Meaning.{truth_of}
use Rattle.sfc_expr.specs.Nodes.{nodes}
use Rattle.sfc_evolve.specs.Clearing.{preceding_of}
use Rattle.sfc_instance.specs.ProgramScan.{enabled, condition_in, condition_result, condition_flag}

-- its condition, if it is enabled
abbrev pub evaluated : Tabled → Chart → Environment → Life → ℕ → Result Bool Fault
evaluated tables chart env life tr =
    cond (enabled tables life tr) (truth_of (condition_result chart env tr)) (Ok false)

-- with the transition of a fault
abbrev pub at_transition : TransitionId → Result Bool Fault → Result Bool TransitionFault
at_transition tr (Ok holds) = Ok holds
at_transition tr (Err f) = Err (record { transition = tr; fault = f })

-- the transition is among these
abbrev pub is_among : List TransitionId → ℕ → Bool
is_among ids tr = list_any (λ id. id.0 == tr) ids

-- of those that are among these the flags are those that are wanted, and of the others FALSE
unfoldable pub AreEvaluated : Tabled → Chart → Environment → Life → List TransitionId → List Bool → Type 0
AreEvaluated tables chart env life ids flags =
    (tr : ℕ) → flag flags tr ≡ (is_among ids tr && condition_flag tables chart env life tr)

-- its links to preceding steps, and the nodes of its condition
abbrev pub test_work : Tabled → Chart → TransitionId → ℕ
test_work tables chart tr = length (preceding_of tables.sides tr.0) + nodes (condition_in (slice_get chart.transitions tr.0))
