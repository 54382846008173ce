-- How much a scan handles at most.
use Rattle.std.proofs.Common.{◌≡◌, ℕ, zero, suc, ◌+◌, ◌*◌, ◌≤◌, List, [], ◌∷◌, length, refl, sym, ◌∙◌, ap, arith}
use Rattle.std.specs.Prelude.{map, sum_by, slice_get, Option, Some, None}
use Rattle.std.specs.List.{range_with_len}
use Rattle.std.proofs.lemmas.List.{length-map}
use Rattle.std.proofs.lemmas.List.Sums.{sum_by-cons}
use Rattle.std.proofs.lemmas.List.Sorted.{sum_by-IsPermutation}
use Rattle.sfc_base.specs.declared.references.StepId.{StepId}
use Rattle.sfc_expr.specs.Nodes.{nodes, body_nodes}
use Rattle.sfc_plant.specs.declared.action.Action.{Action}
use Rattle.sfc_plant.specs.declared.chart.Chart.{Chart}
use Rattle.sfc_plant.specs.declared.chart.Transition.{Transition}
use Rattle.sfc_base.specs.declared.ids.TransitionId.{TransitionId}
use Rattle.sfc_tables.specs.Actions.{boolean_actions, declared_actions}
use Rattle.sfc_tables.specs.Ranks.{priorities_of, transitions_to}
use Rattle.sfc_tables.specs.Tables.{Sides, sides_of, tables_of}
use Rattle.sfc_tables.proofs.RankOrders.{rank_order_ranks}
use Rattle.sfc_evolve.specs.Clearing.{preceding_of}
use Rattle.sfc_evolve.specs.Work.{links}
use Rattle.sfc_instance.specs.ProgramScan.{condition_in, body_in}
use Rattle.sfc_instance.proofs.Outputs.{actions_long, boolean_work, declared}
use Rattle.sfc_instance.specs.Work.{transition_work, condition_work, action_work, actions_work, good_work, good_limit, scan_work, scan_limit}

-- a sum over what is numbered from a on is the sum over what has the numbers
numbered : {X Y : Type 0} (h : Option X → ℕ) (g : Y → ℕ) (c : ℕ → Y) (a : ℕ) (all : List X)
    → ((k : ℕ) → g (c (a + k)) ≡ h (slice_get all k)) → sum_by g (map c (range_with_len a (length all))) ≡ sum_by (λ x. h (Some x)) all
numbered h g c a [] each = refl
numbered h g c a (x ∷ all) each =
    let here : a + 0 ≡ a = omega arith in
    let first : g (c a) ≡ h (Some x) = ap (λ k. g (c k)) (sym here) ∙ each 0 in
    let rest = numbered h g c (a + 1) all (λ k. let e : a + 1 + k ≡ a + suc k = omega arith in ap (λ j. g (c j)) e ∙ each (suc k)) in
    sum_by-cons g (c a) (map c (range_with_len (a + 1) (length all))) ∙ (λ i. first i + rest i) ∙ sym (sum_by-cons (λ y. h (Some y)) x all)

-- ---- conditions

abbrev preceding_in : Option Transition → List StepId
preceding_in None = []
preceding_in (Some t) = t.preceding

preceding_at : (ts : List Transition) (k : ℕ) → preceding_of (map sides_of ts) k ≡ preceding_in (slice_get ts k)
preceding_at [] k = refl
preceding_at (t ∷ ts) zero = refl
preceding_at (t ∷ ts) (suc k) = preceding_at ts k

-- a transition's share
abbrev share : Option Transition → ℕ
share t = 1 + length (preceding_in t) + nodes (condition_in t)

shares : (ts : List Transition) → sum_by (λ t. share (Some t)) ts
    ≤ length ts + sum_by (λ (s : Sides). length s.preceding + length s.following) (map sides_of ts)
    + sum_by (λ (t : Transition). nodes t.condition) ts
shares [] = omega arith
shares (t ∷ ts) = omega (
  arith,
  shares ts,
  sum_by-cons (λ x. share (Some x)) t ts,
  sum_by-cons (λ (s : Sides). length s.preceding + length s.following) (sides_of t) (map sides_of ts),
  sum_by-cons (λ (x : Transition). nodes x.condition) t ts,
)

conditions : (chart : Chart) → condition_work (tables_of chart) chart (tables_of chart).ranked
    ≤ length chart.transitions + links (tables_of chart) + sum_by (λ (t : Transition). nodes t.condition) chart.transitions
conditions chart =
    let ts = chart.transitions in
    let g = transition_work (tables_of chart) chart in
    let id : ℕ → TransitionId = λ i. record { 0 = i } in
    let ps = priorities_of ts in
    let ranked = sum_by-IsPermutation g (transitions_to (length ps)) (tables_of chart).ranked (rank_order_ranks ps).all in
    let many : length ps ≡ length ts = length-map ts (λ (t : Transition). t.priority) in
    let same : sum_by g (map id (range_with_len 0 (length ps))) ≡ sum_by g (map id (range_with_len 0 (length ts))) =
    ap (λ n. sum_by g (map id (range_with_len 0 n))) many in
    let all = numbered share g id 0 ts (λ k.
    let e : 0 + k ≡ k = omega arith in
    ap (λ j. g (id j)) e ∙ ap (λ steps. 1 + length steps + nodes (condition_in (slice_get ts k))) (preceding_at ts k)) in
    omega (arith, ranked, same, all, shares ts)

-- ---- actions

bodies : (actions : List Action) → sum_by (λ (a : Action). 2 + body_nodes a.body) actions
    ≡ 2 * length actions + sum_by (λ (a : Action). body_nodes a.body) actions
bodies [] = refl
bodies (a ∷ actions) = omega (
  arith,
  bodies actions,
  sum_by-cons (λ (x : Action). 2 + body_nodes x.body) a actions,
  sum_by-cons (λ (x : Action). body_nodes x.body) a actions,
)

acts : (chart : Chart) → actions_work chart (tables_of chart).actions
    ≡ length (tables_of chart).actions + length chart.actions + sum_by (λ (a : Action). body_nodes a.body) chart.actions
acts chart =
    let all = numbered (λ o. 2 + body_nodes (body_in o)) (action_work chart) declared 0 chart.actions
    (λ k. let e : 0 + k ≡ k = omega arith in ap (λ j. action_work chart (declared j)) e) in
    omega (
      arith,
      boolean_work chart (boolean_actions chart) (declared_actions (length chart.actions)),
      all,
      bodies chart.actions,
      actions_long chart,
    )

-- ---- a scan

pub good_within : (chart : Chart) (variables : ℕ) → good_work (tables_of chart) chart variables ≤ good_limit chart variables
good_within chart variables = omega (
  arith,
  conditions chart,
  acts chart,
  actions_long chart,
  length-map chart.transitions sides_of,
)

pub scan_within : (chart : Chart) (variables : ℕ) → scan_work (tables_of chart) chart variables ≤ scan_limit chart variables
scan_within chart variables = omega (
  arith,
  conditions chart,
  acts chart,
  actions_long chart,
  length-map chart.transitions sides_of,
)
