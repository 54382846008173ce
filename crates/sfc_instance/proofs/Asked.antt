-- Conditions that ask for a least time of a step.
use Rattle.std.proofs.Common.{◌≡◌, ◌≤◌, ℕ, zero, suc, List, [], ◌∷◌, Some, None, Ok, ap, refl, sym, ◌∙◌, arith}
use Rattle.std.specs.Prelude.{int_le, slice_get, slice_index_or}
use Rattle.sfc_base.specs.declared.ids.TransitionId.{TransitionId}
use Rattle.sfc_base.specs.declared.value.Value.{Value}
use Rattle.sfc_expr.specs.declared.fault.Fault.{Fault}
use Rattle.sfc_expr.specs.Environment.{Environment}
use Rattle.sfc_expr.specs.Meaning.{truth_of}
use Rattle.sfc_expr.specs.Nodes.{nodes}
use Rattle.sfc_expr.specs.Trees.{Expression, Literal, Read, StepActive, StepTime, ActionQ, Not, Minus, Binary}
use Rattle.std.specs.Prelude.{Result}
use Rattle.sfc_plant.specs.declared.chart.Chart.{Chart}
use Rattle.sfc_plant.specs.declared.chart.Transition.{Transition}
use Rattle.sfc_tables.specs.LeastTimes.{least_time_of}
use Rattle.sfc_tables.specs.Tables.{Tabled, tables_of, least_time_at, least_times_of}
use Rattle.sfc_tables.specs.declared.least_time.LeastTime.{LeastTime}
use Rattle.sfc_tables.proofs.LeastTimes.{asked}
use Rattle.sfc_instance.specs.ProgramScan.{condition_in, condition_result}

-- the least time that tables show is the one for which the condition asks
shown : (transitions : List Transition) (k : ℕ)
    → slice_index_or (least_times_of transitions) k None ≡ least_time_of (condition_in (slice_get transitions k))
shown [] k = refl
shown (t ∷ ts) zero = refl
shown (t ∷ ts) (suc k) = shown ts k

asks : (chart : Chart) (tables : Tabled) (transition : TransitionId) (least : LeastTime) → tables ≡ tables_of chart
    → least_time_at tables.least_times transition ≡ Some least
    → least_time_of (condition_in (slice_get chart.transitions transition.0)) ≡ Some least
asks chart tables transition least is e =
    sym (shown chart.transitions transition.0)
    ∙ sym (ap (λ (t : Tabled). least_time_at t.least_times transition) is) ∙ e

-- whether its condition is TRUE
pub reached : (chart : Chart) (tables : Tabled) (env : Environment) (transition : TransitionId) (least : LeastTime) → tables ≡ tables_of chart
    → least_time_at tables.least_times transition ≡ Some least
    → truth_of (condition_result chart env transition.0) ≡ Ok (int_le least.micros (env.time_of least.step))
reached chart tables env transition least is e =
    ap (λ (r : Result Value Fault). truth_of r)
    (asked env least (condition_in (slice_get chart.transitions transition.0)) (asks chart tables transition least is e))

-- an expression has a node
pub some_nodes : (e : Expression) → 1 ≤ nodes e
some_nodes (Literal x) = omega arith
some_nodes (Read v) = omega arith
some_nodes (StepActive s) = omega arith
some_nodes (StepTime s) = omega arith
some_nodes ActionQ = omega arith
some_nodes (Not e) = omega arith
some_nodes (Minus t e) = omega arith
some_nodes (Binary o t a b) = omega arith
