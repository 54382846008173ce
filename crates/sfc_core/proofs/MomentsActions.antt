-- Actions by each qualifier (2.6.4.4, 2.6.4.5): small plants at single moments. Scans are 10 ms apart, the first at 0.
use Rattle.std.proofs.Common.{◌≡◌, refl, ℕ, true, false, List, [], ◌∷◌, pos}
use Rattle.std.specs.Prelude.{codes}
use Rattle.sfc_base.specs.declared.var_type.VarType.TheVariants as types
use Rattle.sfc_base.specs.declared.value.Value.TheVariants as value
use Rattle.sfc_expr.specs.declared.operator.Operator.TheVariants as op
use Rattle.sfc_expr.specs.Trees.{ActionQ, StepActive, StepTime, Binary, Literal, Body, Nothing, Assign, If, NoBranch, When}
use Rattle.sfc_base.specs.declared.qualifier.TimedQualifier.TheVariants.{Limited, Delayed, StoredDelayed, DelayedStored, StoredLimited}
use Rattle.sfc_plant.specs.declared.association.Association.{Association}
use Rattle.sfc_plant.specs.declared.association.Qualifier.TheVariants.{NonStored, Reset, Set, Pulse, RisingPulse, FallingPulse}
use Rattle.sfc_plant.specs.declared.chart.Step.{Step}
use Rattle.sfc_plant.specs.declared.chart.Transition.{Transition}
use Rattle.sfc_instances.specs.sfc_tables.Ranks.{rank_order}
use Rattle.sfc_plant.specs.Plants.{PlantData}
use Rattle.sfc_instances.specs.PlantState.{program_scan}
use Rattle.sfc_events.specs.History.{History}
use Rattle.sfc_core.specs.PlantState.{state_of}
use Rattle.sfc_core.proofs.MomentPlants.{ms, global, flag, int, time_variable, always, reads, number, lasts, the, sets}
use Rattle.sfc_core.proofs.MomentPlants.{runs, for, for_as_long_as, initial_step, step, goes, action, chart, small}
use Rattle.sfc_core.proofs.MomentPlants.{scan, force, scans, executed, q_in, read}

-- one variable, which is the one action
abbrev lamp : List Step → List Transition → PlantData
lamp steps transitions = small (flag (codes "V") ∷ []) (chart steps transitions [])

-- the steps and what they have
abbrev begins : List Association → Step
begins associations = initial_step associations

-- ---- N: while its step is active

-- step 0 for 10 ms, and then step 1 for 20 ms
abbrev not_stored : PlantData
not_stored = lamp (begins (sets NonStored 0 ∷ []) ∷ step [] ∷ []) (goes 0 1 (lasts 0 10) ∷ goes 1 0 (lasts 1 20) ∷ [])

-- at 0 step 0 is entered: executed
n_active : executed not_stored (scans 1) ≡ 0 ∷ []
unfolding state_of program_scan rank_order
n_active = refl

-- once more where the step is left, with Q at 0: the final scan
n_left : executed not_stored (scans 2) ≡ 0 ∷ []
unfolding state_of program_scan rank_order
n_left = refl

-- at 10 ms Q is 0
n_left_q : q_in not_stored 0 0 (scans 2) ≡ false
unfolding state_of program_scan rank_order
n_left_q = refl

-- at 20 ms step 1 is still active: not executed
n_over : executed not_stored (scans 3) ≡ []
unfolding state_of program_scan rank_order
n_over = refl

-- at 30 ms step 0 is entered again: executed
n_again : executed not_stored (scans 4) ≡ 0 ∷ []
unfolding state_of program_scan rank_order
n_again = refl

-- ---- S and R: stored until it is reset

-- the steps 0, 1, 2 and 3 one after the other; S in step 0, R in step 2
abbrev stored : PlantData
stored = lamp (begins (sets Set 0 ∷ []) ∷ step [] ∷ step (sets Reset 0 ∷ []) ∷ step [] ∷ [])
    (goes 0 1 always ∷ goes 1 2 always ∷ goes 2 3 always ∷ [])

-- at 10 ms step 1 is active, and Q stays 1
s_stays : q_in stored 0 0 (scans 2) ≡ true
unfolding state_of program_scan rank_order
s_stays = refl

-- R ends it, with a final scan
r_ends : q_in stored 0 0 (scans 3) ≡ false
unfolding state_of program_scan rank_order
r_ends = refl

-- at 20 ms it is executed for the last time
r_final : executed stored (scans 3) ≡ 0 ∷ []
unfolding state_of program_scan rank_order
r_final = refl

-- at 30 ms it is not executed
r_over : executed stored (scans 4) ≡ []
unfolding state_of program_scan rank_order
r_over = refl

-- S and R in one step: R wins
abbrev both : PlantData
both = lamp (begins (sets Set 0 ∷ sets Reset 0 ∷ []) ∷ []) []

-- at 0 Q is 0, so there is no final scan either
r_wins : executed both (scans 1) ≡ []
unfolding state_of program_scan rank_order
r_wins = refl

-- ---- L: while its step is active, for at most its time

-- step 0 for 40 ms, its action for 20 ms of them
abbrev limited : PlantData
limited = lamp (begins (sets (for Limited 20) 0 ∷ []) ∷ step [] ∷ []) (goes 0 1 (lasts 0 40) ∷ [])

-- at 10 ms Q is 1
l_begins : q_in limited 0 0 (scans 2) ≡ true
unfolding state_of program_scan rank_order
l_begins = refl

-- at 20 ms the time is over
l_ends : q_in limited 0 0 (scans 3) ≡ false
unfolding state_of program_scan rank_order
l_ends = refl

-- at 30 ms it is not executed, though step 0 is active
l_over : executed limited (scans 4) ≡ []
unfolding state_of program_scan rank_order
l_over = refl

-- the time is that which its variable read where the step became active: 30 ms, though it is forced to 0 at 5 ms
abbrev by_variable : PlantData
by_variable = small (flag (codes "V") ∷ time_variable (codes "Length") 30 ∷ [])
    (chart (begins (sets (for_as_long_as Limited 1) 0 ∷ []) ∷ []) [] [])

abbrev forced_shorter : History
forced_shorter = scan 20 ∷ scan 10 ∷ force 1 (value.Time (ms 0)) 5 ∷ scans 1

-- at 20 ms Q is 1
l_keeps_time : q_in by_variable 0 0 forced_shorter ≡ true
unfolding state_of program_scan rank_order
l_keeps_time = refl

-- at 30 ms Q is 0
l_ends_by_variable : q_in by_variable 0 0 (scan 30 ∷ forced_shorter) ≡ false
unfolding state_of program_scan rank_order
l_ends_by_variable = refl

-- ---- D: after its time, until its step is left

-- step 0 for 30 ms, its action after 20 ms
abbrev delayed : PlantData
delayed = lamp (begins (sets (for Delayed 20) 0 ∷ []) ∷ step [] ∷ []) (goes 0 1 (lasts 0 30) ∷ [])

-- at 10 ms it is not executed yet
d_waits : executed delayed (scans 2) ≡ []
unfolding state_of program_scan rank_order
d_waits = refl

-- at 20 ms Q is 1
d_begins : q_in delayed 0 0 (scans 3) ≡ true
unfolding state_of program_scan rank_order
d_begins = refl

-- at 30 ms step 0 is left: Q is 0
d_ends : q_in delayed 0 0 (scans 4) ≡ false
unfolding state_of program_scan rank_order
d_ends = refl

-- ---- P: for one scan

-- step 0 for 20 ms, then step 1 for one scan
abbrev pulsed : PlantData
pulsed = lamp (begins (sets Pulse 0 ∷ []) ∷ step [] ∷ []) (goes 0 1 (lasts 0 20) ∷ goes 1 0 always ∷ [])

-- at 0 step 0 is entered: Q is 1
p_once : q_in pulsed 0 0 (scans 1) ≡ true
unfolding state_of program_scan rank_order
p_once = refl

-- at 10 ms Q is 0, though step 0 is active
p_ends : q_in pulsed 0 0 (scans 2) ≡ false
unfolding state_of program_scan rank_order
p_ends = refl

-- at 30 ms step 0 is entered again: Q is 1
p_again : q_in pulsed 0 0 (scans 4) ≡ true
unfolding state_of program_scan rank_order
p_again = refl

-- ---- SD: stored, and after its time, until it is reset

-- step 0 for one scan, step 1 for 20 ms, step 2, which has R, and step 3
abbrev stored_delayed : PlantData
stored_delayed = lamp (begins (sets (for StoredDelayed 20) 0 ∷ []) ∷ step [] ∷ step (sets Reset 0 ∷ []) ∷ step [] ∷ [])
    (goes 0 1 always ∷ goes 1 2 (lasts 1 20) ∷ goes 2 3 always ∷ [])

-- at 10 ms it is not executed yet
sd_waits : executed stored_delayed (scans 2) ≡ []
unfolding state_of program_scan rank_order
sd_waits = refl

-- though its step was left at 10 ms
sd_begins : q_in stored_delayed 0 0 (scans 3) ≡ true
unfolding state_of program_scan rank_order
sd_begins = refl

-- at 30 ms step 2 is entered: R ends it
sd_reset : q_in stored_delayed 0 0 (scans 4) ≡ false
unfolding state_of program_scan rank_order
sd_reset = refl

-- at 40 ms it is not executed, though R is over
sd_over : executed stored_delayed (scans 5) ≡ []
unfolding state_of program_scan rank_order
sd_over = refl

-- where R comes at the end of its time it never begins: step 1 for one scan alone
abbrev reset_at_end : PlantData
reset_at_end = lamp (begins (sets (for StoredDelayed 20) 0 ∷ []) ∷ step [] ∷ step (sets Reset 0 ∷ []) ∷ [])
    (goes 0 1 always ∷ goes 1 2 always ∷ [])

-- at 20 ms step 2 is entered
sd_never : executed reset_at_end (scans 3) ≡ []
unfolding state_of program_scan rank_order
sd_never = refl

-- ---- DS: stored once its step was active for its time

-- step 0 for so long, step 1 for 10 ms, and step 2, which has R
abbrev delayed_stored : ℕ → PlantData
delayed_stored t = lamp (begins (sets (for DelayedStored 20) 0 ∷ []) ∷ step [] ∷ step (sets Reset 0 ∷ []) ∷ [])
    (goes 0 1 (lasts 0 t) ∷ goes 1 2 (lasts 1 10) ∷ [])

-- at 10 ms it is not executed yet
ds_waits : executed (delayed_stored 30) (scans 2) ≡ []
unfolding state_of program_scan rank_order
ds_waits = refl

-- it stays where its step is left
ds_stays : q_in (delayed_stored 30) 0 0 (scans 4) ≡ true
unfolding state_of program_scan rank_order
ds_stays = refl

-- at 40 ms step 2 is entered: R ends it
ds_reset : q_in (delayed_stored 30) 0 0 (scans 5) ≡ false
unfolding state_of program_scan rank_order
ds_reset = refl

-- it never begins where its step is left at the end of the time
ds_never : executed (delayed_stored 20) (scans 3) ≡ []
unfolding state_of program_scan rank_order
ds_never = refl

-- ---- SL: stored, for at most its time

-- step 0 for one scan, and then step 1
abbrev stored_limited : PlantData
stored_limited = lamp (begins (sets (for StoredLimited 30) 0 ∷ []) ∷ step [] ∷ []) (goes 0 1 always ∷ [])

-- though its step was left at 10 ms
sl_stays : q_in stored_limited 0 0 (scans 3) ≡ true
unfolding state_of program_scan rank_order
sl_stays = refl

-- at 30 ms the time is over
sl_ends : q_in stored_limited 0 0 (scans 4) ≡ false
unfolding state_of program_scan rank_order
sl_ends = refl

-- two steps by turns: the first has SL, the second has this
abbrev by_turns : List Association → PlantData
by_turns second = lamp (begins (sets (for StoredLimited 10) 0 ∷ []) ∷ step second ∷ []) (goes 0 1 always ∷ goes 1 0 always ∷ [])

-- it is stored still, and so doesn't begin again
sl_once : executed (by_turns []) (scans 3) ≡ []
unfolding state_of program_scan rank_order
sl_once = refl

-- with R in the second step it begins again at 20 ms
sl_after_reset : q_in (by_turns (sets Reset 0 ∷ [])) 0 0 (scans 3) ≡ true
unfolding state_of program_scan rank_order
sl_after_reset = refl

-- ---- R beside timers: step 0 stays active with this action, while the steps 1, 2, which has R and N, and 3 follow each other

abbrev beside : Association → PlantData
beside timed = lamp (begins (timed ∷ []) ∷ begins [] ∷ step (sets Reset 0 ∷ sets NonStored 0 ∷ []) ∷ step [] ∷ [])
    (goes 1 2 always ∷ goes 2 3 always ∷ [])

-- at 10 ms R blocks L, and N too
r_blocks : q_in (beside (sets (for Limited 30) 0)) 0 0 (scans 2) ≡ false
unfolding state_of program_scan rank_order
r_blocks = refl

-- at 20 ms R is over, and the time of L is not: R touched no timer of it
l_after_r : q_in (beside (sets (for Limited 30) 0)) 0 0 (scans 3) ≡ true
unfolding state_of program_scan rank_order
l_after_r = refl

-- at 30 ms it is over, as it would be without R
l_ends_in_time : q_in (beside (sets (for Limited 30) 0)) 0 0 (scans 4) ≡ false
unfolding state_of program_scan rank_order
l_ends_in_time = refl

-- SD is stored anew at 20 ms, as its step is still active: at 30 ms its 20 ms are not over
sd_anew : q_in (beside (sets (for StoredDelayed 20) 0)) 0 0 (scans 4) ≡ false
unfolding state_of program_scan rank_order
sd_anew = refl

-- at 40 ms they are
sd_anew_begins : q_in (beside (sets (for StoredDelayed 20) 0)) 0 0 (scans 5) ≡ true
unfolding state_of program_scan rank_order
sd_anew_begins = refl

-- ---- P1 and P0: executed once, without Q

-- n := n + 1, and where Q is 1 q := q + 1
abbrev counting : Body
counting =
    Assign (the 0) (Binary op.Add types.Int (reads 0) (number 1))
    (If (When ActionQ (Assign (the 1) (Binary op.Add types.Int (reads 1) (number 1)) Nothing) NoBranch) Nothing)

-- step 0, which has the action so, for 20 ms, and then step 1
abbrev counted : List Association → PlantData
counted associations = small (int (codes "n") 0 ∷ int (codes "q") 0 ∷ [])
    (chart (begins associations ∷ step [] ∷ []) (goes 0 1 (lasts 0 20) ∷ []) (action counting ∷ []))

-- where its step becomes active
p1_once : executed (counted (runs RisingPulse 0 ∷ [])) (scans 1) ≡ 0 ∷ []
unfolding state_of program_scan rank_order
p1_once = refl

-- at 10 ms it is not executed, though step 0 is active
p1_over : executed (counted (runs RisingPulse 0 ∷ [])) (scans 2) ≡ []
unfolding state_of program_scan rank_order
p1_over = refl

-- of four scans one executed the body
p1_counts : read (counted (runs RisingPulse 0 ∷ [])) 0 (scans 4) ≡ value.Int (pos 1)
unfolding state_of program_scan rank_order
p1_counts = refl

-- and its Q was 0
p1_without_q : read (counted (runs RisingPulse 0 ∷ [])) 1 (scans 4) ≡ value.Int (pos 0)
unfolding state_of program_scan rank_order
p1_without_q = refl

-- R does not block it
p1_with_r : executed (counted (runs Reset 0 ∷ runs RisingPulse 0 ∷ [])) (scans 1) ≡ 0 ∷ []
unfolding state_of program_scan rank_order
p1_with_r = refl

-- where its step is left
p0_waits : executed (counted (runs FallingPulse 0 ∷ [])) (scans 2) ≡ []
unfolding state_of program_scan rank_order
p0_waits = refl

-- at 20 ms step 0 is left: executed
p0_once : executed (counted (runs FallingPulse 0 ∷ [])) (scans 3) ≡ 0 ∷ []
unfolding state_of program_scan rank_order
p0_once = refl

-- at 30 ms it is not executed
p0_over : executed (counted (runs FallingPulse 0 ∷ [])) (scans 4) ≡ []
unfolding state_of program_scan rank_order
p0_over = refl

-- by N the body is executed with Q at 1 in the scans at 0 and 10 ms, and in the final scan with Q at 0
n_counts : read (counted (runs NonStored 0 ∷ [])) 0 (scans 4) ≡ value.Int (pos 3)
unfolding state_of program_scan rank_order
n_counts = refl

-- so q is 2
n_counts_q : read (counted (runs NonStored 0 ∷ [])) 1 (scans 4) ≡ value.Int (pos 2)
unfolding state_of program_scan rank_order
n_counts_q = refl

-- ---- pulses of Boolean actions: V, U and W begin with TRUE, and have P1, P and P0; after 10 ms their step is left

abbrev pulses : PlantData
pulses =
    let yes = value.Bool true in
    small (global (codes "V") types.Bool yes ∷ global (codes "U") types.Bool yes ∷ global (codes "W") types.Bool yes ∷ [])
    (chart (begins (sets RisingPulse 0 ∷ sets Pulse 1 ∷ sets FallingPulse 2 ∷ []) ∷ step [] ∷ []) (goes 0 1 (lasts 0 10) ∷ []) [])

-- at 0 V and U are executed
pulses_at_0 : executed pulses (scans 1) ≡ 0 ∷ 1 ∷ []
unfolding state_of program_scan rank_order
pulses_at_0 = refl

-- each variable is assigned its Q, which P alone gives
v_false : read pulses 0 (scans 1) ≡ value.Bool false
unfolding state_of program_scan rank_order
v_false = refl

-- at 0 U is assigned TRUE
u_true : read pulses 1 (scans 1) ≡ value.Bool true
unfolding state_of program_scan rank_order
u_true = refl

-- at 10 ms U is executed for the last time, and W by P0
pulses_at_10 : executed pulses (scans 2) ≡ 1 ∷ 2 ∷ []
unfolding state_of program_scan rank_order
pulses_at_10 = refl

-- W is assigned FALSE all the same
w_false : read pulses 2 (scans 2) ≡ value.Bool false
unfolding state_of program_scan rank_order
w_false = refl

-- ---- the order of actions

-- Step 0 has both actions and V, until 20 ms. By the declarations the first action goes first: it doubles n and adds 1
-- while V is TRUE. The second adds 10, and where step 1 is active it notes the time of step 0 and 1 ms.
abbrev in_order : PlantData
in_order =
    let doubled = Binary op.Add types.Int (Binary op.Multiply types.Int (reads 1) (number 2)) (number 1) in
    let one : Body = If (When (reads 0) (Assign (the 1) doubled Nothing) NoBranch) Nothing in
    let noted = Binary op.Add types.Time (StepTime (record { 0 = 0 })) (Literal (value.Time (ms 1))) in
    let noting : Body = If (When (StepActive (record { 0 = 1 })) (Assign (the 2) noted Nothing) NoBranch) Nothing in
    let two : Body = Assign (the 1) (Binary op.Add types.Int (reads 1) (number 10)) noting in
    small (flag (codes "V") ∷ int (codes "n") 0 ∷ time_variable (codes "t") 0 ∷ [])
    (chart (begins (runs NonStored 1 ∷ runs NonStored 0 ∷ sets NonStored 0 ∷ []) ∷ step [] ∷ []) (goes 0 1 (lasts 0 20) ∷ [])
    (action one ∷ action two ∷ []))

-- outputs are assigned before bodies are executed: 0 * 2 + 1 + 10
outputs_first : read in_order 1 (scans 1) ≡ value.Int (pos 11)
unfolding state_of program_scan rank_order
outputs_first = refl

-- 11 * 2 + 1 + 10 in the second scan; in the third, the final one, V is FALSE: 33 + 10
final_bodies : read in_order 1 (scans 3) ≡ value.Int (pos 43)
unfolding state_of program_scan rank_order
final_bodies = refl

-- bodies see the steps as they are after the scan's transitions: step 0 had 20 ms
new_steps : read in_order 2 (scans 3) ≡ value.Time (ms 21)
unfolding state_of program_scan rank_order
new_steps = refl
