-- Which transitions a scan clears, and what becomes of steps: small plants at single moments.
use Rattle.std.proofs.Common.{◌≡◌, refl, ℕ, List, [], ◌∷◌, Option, Some, None}
use Rattle.std.specs.Prelude.{codes}
use Rattle.sfc_expr.specs.Trees.{StepActive}
use Rattle.sfc_plant.specs.declared.association.Qualifier.TheVariants.{Pulse}
use Rattle.sfc_plant.specs.declared.chart.Step.{Step}
use Rattle.sfc_plant.specs.declared.chart.Transition.{Transition}
use Rattle.sfc_instances.specs.sfc_tables.Ranks.{rank_order}
use Rattle.sfc_plant.specs.Plants.{PlantData}
use Rattle.sfc_instances.specs.PlantState.{program_scan}
use Rattle.sfc_core.specs.PlantState.{state_of}
use Rattle.sfc_core.proofs.MomentPlants.{ms, flag, always, lasts, sets, initial_step, step, transition, goes, chart}
use Rattle.sfc_core.proofs.MomentPlants.{small, scans, active, cleared, executed, time_in}

-- a chart without actions
abbrev steps_of : List Step → List Transition → PlantData
steps_of steps transitions = small [] (chart steps transitions [])

abbrev initial : Step
initial = initial_step []

abbrev other : Step
other = step []

-- ---- from a step to itself

-- after 20 ms step 0, whose action has a pulse, is left and entered again
abbrev self_loop : PlantData
self_loop = small (flag (codes "V") ∷ []) (chart (initial_step (sets Pulse 0 ∷ []) ∷ []) (goes 0 0 (lasts 0 20) ∷ []) [])

-- at 20 ms the transition is cleared
self_cleared : cleared self_loop (scans 3) ≡ 0 ∷ []
unfolding state_of program_scan rank_order
self_cleared = refl

-- it is active, and its time begins anew
self_active : active self_loop (scans 3) ≡ 0 ∷ []
unfolding state_of program_scan rank_order
self_active = refl

-- at 20 ms its time is 0 (2.6.2)
self_time : time_in self_loop 0 0 (scans 3) ≡ ms 0
unfolding state_of program_scan rank_order
self_time = refl

-- at 30 ms it is 10 ms
self_time_after : time_in self_loop 0 0 (scans 4) ≡ ms 10
unfolding state_of program_scan rank_order
self_time_after = refl

-- it was active after each scan, so its action's input had no edge: no second pulse (2.6.4.5)
self_pulse : executed self_loop (scans 3) ≡ []
unfolding state_of program_scan rank_order
self_pulse = refl

-- ---- selection: one transition of those from step 0 is cleared (2.6.5)

abbrev selection : Option ℕ → Option ℕ → PlantData
selection p q = steps_of (initial ∷ other ∷ other ∷ [])
    (transition p (0 ∷ []) (1 ∷ []) always ∷ transition q (0 ∷ []) (2 ∷ []) always ∷ [])

-- without priorities the first in the text
by_text : active (selection None None) (scans 2) ≡ 1 ∷ []
unfolding state_of program_scan rank_order
by_text = refl

-- the lower number goes first
by_priority : active (selection (Some 9) (Some 7)) (scans 2) ≡ 2 ∷ []
unfolding state_of program_scan rank_order
by_priority = refl

-- any priority goes before none
before_none : cleared (selection None (Some 4_294_967_295)) (scans 2) ≡ 1 ∷ []
unfolding state_of program_scan rank_order
before_none = refl

-- with the same number the first in the text
by_text_then : cleared (selection (Some 3) (Some 3)) (scans 2) ≡ 0 ∷ []
unfolding state_of program_scan rank_order
by_text_then = refl

-- ---- several steps

-- step 0 leads to the steps 1 and 2 at once (2.6.5)
abbrev fork : PlantData
fork = steps_of (initial ∷ other ∷ other ∷ []) (transition None (0 ∷ []) (1 ∷ 2 ∷ []) always ∷ [])

-- at 10 ms both are active, and step 0 is not
both_enter : active fork (scans 2) ≡ 1 ∷ 2 ∷ []
unfolding state_of program_scan rank_order
both_enter = refl

-- The steps 0 and 2 lead to step 3 together; step 2 is entered from step 1 after 10 ms.
abbrev join : PlantData
join = steps_of (initial ∷ initial ∷ other ∷ other ∷ [])
    (transition None (0 ∷ 2 ∷ []) (3 ∷ []) always ∷ goes 1 2 (lasts 1 10) ∷ [])

-- while step 2 is not active the join is not enabled, though step 0 is active and the condition is TRUE (2.6.3)
join_waits : cleared join (scans 2) ≡ 1 ∷ []
unfolding state_of program_scan rank_order
join_waits = refl

-- at 10 ms the steps 0 and 2 are active
join_ready : active join (scans 2) ≡ 0 ∷ 2 ∷ []
unfolding state_of program_scan rank_order
join_ready = refl

-- the scan after that one leaves both
join_leaves : active join (scans 3) ≡ 3 ∷ []
unfolding state_of program_scan rank_order
join_leaves = refl

-- Two transitions with one following step are both cleared, since they share no preceding one.
abbrev meeting : PlantData
meeting = steps_of (initial ∷ initial ∷ other ∷ []) (goes 0 2 always ∷ goes 1 2 always ∷ [])

-- at 10 ms both are cleared
both_cleared : cleared meeting (scans 2) ≡ 0 ∷ 1 ∷ []
unfolding state_of program_scan rank_order
both_cleared = refl

-- and step 2 alone is active
one_entered : active meeting (scans 2) ≡ 2 ∷ []
unfolding state_of program_scan rank_order
one_entered = refl

-- Three transitions: from step 0, from the steps 0 and 1, and from step 1.
abbrev overlapping : PlantData
overlapping = steps_of (initial ∷ initial ∷ other ∷ other ∷ other ∷ [])
    (goes 0 2 always ∷ transition None (0 ∷ 1 ∷ []) (3 ∷ []) always ∷ goes 1 4 always ∷ [])

-- the second isn't cleared, as the first took step 0; so it takes no step from the third
takes_nothing : cleared overlapping (scans 2) ≡ 0 ∷ 2 ∷ []
unfolding state_of program_scan rank_order
takes_nothing = refl

-- Step 1 is left and entered by one scan, and so stays active.
abbrev chain : PlantData
chain = steps_of (initial ∷ initial ∷ other ∷ []) (goes 0 1 always ∷ goes 1 2 always ∷ [])

-- at 10 ms step 1 is active, and so is step 2
left_and_entered : active chain (scans 2) ≡ 1 ∷ 2 ∷ []
unfolding state_of program_scan rank_order
left_and_entered = refl

-- a scan that enters a step doesn't go on from it
abbrev steps_in_turn : PlantData
steps_in_turn = steps_of (initial ∷ other ∷ other ∷ []) (goes 0 1 always ∷ goes 1 2 always ∷ [])

-- at 10 ms step 1 is active, and not step 2
one_at_a_time : active steps_in_turn (scans 2) ≡ 1 ∷ []
unfolding state_of program_scan rank_order
one_at_a_time = refl

-- ---- what conditions see

-- step 2 is left once step 1 is active
abbrev seeing : PlantData
seeing = steps_of (initial ∷ other ∷ initial ∷ other ∷ []) (goes 0 1 always ∷ goes 2 3 (StepActive (record { 0 = 1 })) ∷ [])

-- a condition sees the steps of the scan before (2.6.5)
not_yet : active seeing (scans 2) ≡ 1 ∷ 2 ∷ []
unfolding state_of program_scan rank_order
not_yet = refl

-- at 20 ms it sees step 1 active
seen_then : active seeing (scans 3) ≡ 1 ∷ 3 ∷ []
unfolding state_of program_scan rank_order
seen_then = refl

-- after 20 ms step 0 leads to step 1, which is active already
abbrev entering_again : PlantData
entering_again = steps_of (initial ∷ initial ∷ []) (goes 0 1 (lasts 0 20) ∷ [])

-- at 10 ms the time of step 1 is 10 ms
goes_on : time_in entering_again 0 1 (scans 2) ≡ ms 10
unfolding state_of program_scan rank_order
goes_on = refl

-- a step that is entered again begins anew (2.6.2)
begins_anew : time_in entering_again 0 1 (scans 3) ≡ ms 0
unfolding state_of program_scan rank_order
begins_anew = refl

-- a step that never was active has the time 0
never_active : time_in fork 0 1 (scans 1) ≡ ms 0
unfolding state_of program_scan rank_order
never_active = refl
