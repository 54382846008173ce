-- A scan with the active steps of the one before, where action control is at rest, changes only which actions are executed.
use Rattle.std.proofs.Common.{◌≡◌, ℕ, ◌<◌, ◌≤◌, ◌==◌, not, ◌&&◌, ◌||◌, Bool, true, false, List, [], ◌∷◌, length, arith, refl, sym, ◌∙◌, ap, subst, inl, inr, ℤ, Option, None, nat_lt}
use Rattle.std.specs.Prelude.{All, find, filter, map, is_some, slice_index_or, pos}
use Rattle.std.specs.List.{list_any}
use Rattle.std.proofs.lemmas.Bool.Decides.{nat_tests}
use Rattle.std.proofs.lemmas.List.{length-map}
use Rattle.std.proofs.lemmas.List.Elements.{All-head, All-tail}
use Rattle.sfc_base.specs.declared.qualifier.TimedQualifier.{TimedQualifier}
use Rattle.sfc_base.specs.declared.qualifier.TimedQualifier.TheVariants.{Limited, Delayed, StoredDelayed, DelayedStored, StoredLimited}
use Rattle.sfc_flags.specs.Flags.{flag}
use Rattle.sfc_timers.specs.Timers.{Reading, has_elapsed, is_on}
use Rattle.sfc_timers.specs.Past.{on_delay_past}
use Rattle.sfc_timers.specs.Agreement.{OnDelayAgrees}
use Rattle.sfc_tables.specs.declared.step_action.StepAction.{StepAction}
use Rattle.sfc_tables.specs.Tables.{Tabled}
use Rattle.sfc_evolve.specs.Lookback.{or_else}
use Rattle.sfc_action.specs.declared.fault.ControlFault.{ControlFault}
use Rattle.sfc_action.specs.declared.blocks.Block.{Block}
use Rattle.sfc_action.specs.declared.control_state.ControlState.{ControlState}
use Rattle.sfc_action.specs.ActionControl.{Scan, Letter, N, R, S, L, D, P, SD, DS, SL, P1, P0, is, input, preset}
use Rattle.sfc_action.specs.ActionControl.{stored, on_delay, delayed, delayed_then_stored, set_reset, column, q, executed}
use Rattle.sfc_action.specs.ActionControl.{fault_by, fault_of, fault_with, first_in, first_fault, is_two_timed}
use Rattle.sfc_action.specs.Past.{DelayPast, delay_in}
use Rattle.sfc_action.specs.Private.Keeping.{AreFor, IsStateAfter, BlockAgrees, called, readings, is_of}
use Rattle.sfc_action.specs.Private.Live.{IsIdle}
use Rattle.sfc_action.specs.Private.Resting.{IsAtRest, rested}
use Rattle.sfc_action.proofs.Elapsed.{bool_cases, is_on_next, never_elapsed}
use Rattle.sfc_action.proofs.SingleTimes.{AreOff, times, few_times}
use Rattle.sfc_action.proofs.Live.{idle_stepped}
use Rattle.sfc_action.proofs.Pasts.{delay_kept}

-- ---- flip-flops and pulses

-- a flip-flop that is told the same again
again : (x s r : Bool) → (((((x || s) && not r) || s) && not r) ≡ ((x || s) && not r))
again true true true = refl
again true true false = refl
again true false true = refl
again true false false = refl
again false true true = refl
again false true false = refl
again false false true = refl
again false false false = refl

-- and one that is told nothing but the same R
held : (x e r : Bool) → (((((x || e) && not r) || false) && not r) ≡ ((x || e) && not r))
held true true true = refl
held true true false = refl
held true false true = refl
held true false false = refl
held false true true = refl
held false true false = refl
held false false true = refl
held false false false = refl

-- Q, with an input P where it had `z` in the scan before
abbrev q_with : Bool → Bool → Bool → Bool → Bool → Bool → Bool → Bool → Bool
q_with r n s p z ds u w = not r && (n || s || (false && u) || false || (p && not z) || false || ds || (false && w))

-- a pulse that gives no Q gives none in the next scan
no_pulse : (r n s p z ds u w v x : Bool) → (p && q_with r n s p z ds u w) ≡ false → q_with r n s p p ds v x ≡ q_with r n s p z ds u w
no_pulse r n s false z ds u w v x e = refl
no_pulse true n s true z ds u w v x e = refl
no_pulse false true s true z ds u w v x e = refl
no_pulse false false true true z ds u w v x e = refl
no_pulse false false false true true ds u w v x e = refl
no_pulse false false false true false ds u w v x e = absurd (let bad : true ≡ false = e in cc)

once : (v x y : Bool) → v ≡ (v || (v && not v) || (x && not x) || (y && not y))
once true x y = refl
once false true true = refl
once false true false = refl
once false false true = refl
once false false false = refl

and_false : (x : Bool) → (x && false) ≡ false
and_false true = refl
and_false false = refl

-- ---- on-delays

-- an on-delay whose run has ended has no input
input_off : (x : Bool) (p t : ℤ) (rs : List Reading) → is_some (on_delay_past ((x, p, t) ∷ rs)) ≡ false → x ≡ false
input_off true p t rs e = absurd (let bad : true ≡ false = e in cc)
input_off false p t rs e = refl

find_idle : (is : Block → Bool) (blocks : List Block) → All IsIdle blocks → is_some (delay_in (find is blocks)).begun ≡ false
find_idle is [] rest = refl
find_idle is (block ∷ blocks) rest = elim (bool_cases (is block)) [
  | inl here ↦ (rw here (All-head IsIdle block blocks rest).runs)
  | inr other ↦ (rw other (find_idle is blocks (All-tail IsIdle block blocks rest)))
]

-- ---- faults

no_fault : (fault : ℕ → Option ControlFault) (xs : List StepAction) → ((a : ℕ) → fault a ≡ None) → first_in fault xs ≡ None
no_fault fault [] none = refl
no_fault fault (x ∷ xs) none = (λ i. or_else (fault_with x.action (none x.action.0 i)) (no_fault fault xs none i))

not_more : (n : ℕ) → n ≤ 1 → nat_lt 1 n ≡ false
not_more n le = grind (arith, nat_tests)

-- ---- a scan at rest

module _ (tables : Tabled) (state : ControlState) (scan last : Scan) (h : List Scan) (same : scan.active ≡ last.active)
    (size : AreFor tables state) (each : IsStateAfter tables state (last ∷ h)) (rest : IsAtRest state) where
  abbrev n : ℕ
  n = length tables.actions

  abbrev before : List Scan
  before = last ∷ h

  abbrev now : List Scan
  now = scan ∷ last ∷ h

  input_same : (a : ℕ) (letter : Letter) → input tables a letter now ≡ input tables a letter before
  input_same a letter =
      λ i. list_any (λ (x : StepAction). ((x.action.0 == a) && flag (same i) x.step.0) && is letter x.qualifier) tables.associations

  stored_same : (a : ℕ) (letter : Letter) → stored tables a letter now ≡ stored tables a letter before
  stored_same a letter =
      let s = input tables a letter before in
      let r = input tables a R before in
      let was = column (set_reset tables a (input tables a letter)) h in
      is_on_next (input tables a letter now) (input tables a R now) (column (set_reset tables a (input tables a letter)) before)
      ∙ (λ i. (is_on_next s r was i || input_same a letter i) && not (input_same a R i))
      ∙ again (is_on was) s r ∙ sym (is_on_next s r was)

  called_before : (a : ℕ) (p : TimedQualifier) → called tables a p before ≡ false
  called_before a p =
      input_off (called tables a p before) (preset tables a last) last.at (readings tables a p h)
      (ap (λ (d : DelayPast). is_some d.begun) (sym (delay_kept tables before a p state.blocks each.blocks size.covered))
      ∙ find_idle (is_of a p) state.blocks rest.delays)

  called_now : (a : ℕ) (p : TimedQualifier) → called tables a p now ≡ false
  called_now a Limited = input_same a L ∙ called_before a Limited
  called_now a Delayed = input_same a D ∙ called_before a Delayed
  called_now a DelayedStored = input_same a DS ∙ called_before a DelayedStored
  called_now a StoredDelayed = stored_same a SD ∙ called_before a StoredDelayed
  called_now a StoredLimited = stored_same a SL ∙ called_before a StoredLimited

  elapsed_before : (a : ℕ) (p : TimedQualifier) → on_delay tables a (called tables a p) before ≡ false
  elapsed_before a p = never_elapsed (called tables a p before) (preset tables a last) last.at (readings tables a p h) (called_before a p)

  elapsed_now : (a : ℕ) (p : TimedQualifier) → on_delay tables a (called tables a p) now ≡ false
  elapsed_now a p = never_elapsed (called tables a p now) (preset tables a scan) scan.at (readings tables a p before) (called_now a p)

  one_rests : (block : Block) → BlockAgrees tables before block → IsIdle block → BlockAgrees tables now block
  one_rests block agrees idle =
      let a = block.action.0 in
      let p = block.qualifier in
      let col = readings tables a p before in
      let pt = preset tables a scan in
      let stepped = idle_stepped pt scan.at block idle in
      let is : ((false, pt, scan.at) ∷ col) ≡ readings tables a p now = (λ i. (sym (called_now a p) i, pt, scan.at) ∷ col) in
      record {
        delay = subst (OnDelayAgrees block.delay) is (stepped.agrees col agrees.delay);
        elapsed = stepped.answer col agrees.delay ∙ ap has_elapsed is;
      }

  delayed_stored_same : (a : ℕ) → delayed_then_stored tables a DS now ≡ delayed_then_stored tables a DS before
  delayed_stored_same a =
      let e = delayed tables a DS before in
      let r = input tables a R before in
      let was = column (set_reset tables a (delayed tables a DS)) h in
      is_on_next (delayed tables a DS now) (input tables a R now) (column (set_reset tables a (delayed tables a DS)) before)
      ∙ (λ i. (is_on_next e r was i || elapsed_now a DelayedStored i) && not (input_same a R i))
      ∙ held (is_on was) e r ∙ sym (is_on_next e r was)

  -- what gives Q, now and before
  q_now : (a : ℕ) → q tables a now
      ≡ q_with (input tables a R before) (input tables a N before) (stored tables a S before) (input tables a P before)
      (input tables a P before) (delayed_then_stored tables a DS before) (not (delayed tables a L now))
      (not (on_delay tables a (stored tables a SL) now))
  q_now a = λ i. not (input_same a R i) && (
      input_same a N i || stored_same a S i || (called_now a Limited i && not (delayed tables a L now)) || elapsed_now a Delayed i
      || (input_same a P i && not (input tables a P before)) || elapsed_now a StoredDelayed i || delayed_stored_same a i
      || (called_now a StoredLimited i && not (on_delay tables a (stored tables a SL) now)))

  q_before : (a : ℕ) → q tables a before
      ≡ q_with (input tables a R before) (input tables a N before) (stored tables a S before) (input tables a P before)
      (input tables a P h) (delayed_then_stored tables a DS before) (not (delayed tables a L before))
      (not (on_delay tables a (stored tables a SL) before))
  q_before a = λ i. not (input tables a R before) && (
      input tables a N before || stored tables a S before || (called_before a Limited i && not (delayed tables a L before))
      || elapsed_before a Delayed i
      || (input tables a P before && not (input tables a P h)) || elapsed_before a StoredDelayed i || delayed_then_stored tables a DS before
      || (called_before a StoredLimited i && not (on_delay tables a (stored tables a SL) before)))

  q_same : (a : ℕ) → a < n → q tables a now ≡ q tables a before
  q_same a lt =
      let over : (input tables a P before && q tables a before) ≡ false =
      (λ i. sym (each.pulse a lt) i && sym (each.q a lt) i) ∙ rest.pulses a in
      q_now a
      ∙ no_pulse (input tables a R before) (input tables a N before) (stored tables a S before) (input tables a P before)
      (input tables a P h) (delayed_then_stored tables a DS before) (not (delayed tables a L before))
      (not (on_delay tables a (stored tables a SL) before)) (not (delayed tables a L now))
      (not (on_delay tables a (stored tables a SL) now)) ((λ i. input tables a P before && sym (q_before a) i) ∙ over)
      ∙ sym (q_before a)

  executed_now : (a : ℕ) → a < n → flag state.q a ≡ executed tables a now
  executed_now a lt =
      let v = q tables a before in
      let x = input tables a P1 before in
      let y = input tables a P0 before in
      each.q a lt ∙ once v x y
      ∙ (λ i. sym (q_same a lt) i || (v && not (sym (q_same a lt) i)) || (sym (input_same a P1) i && not x)
      || (y && not (sym (input_same a P0) i)))

  pub rested_state : IsStateAfter tables (rested state) now
  rested_state = record {
    pulse = λ a lt. each.pulse a lt ∙ sym (input_same a P);
    rising_pulse = λ a lt. each.rising_pulse a lt ∙ sym (input_same a P1);
    falling_pulse = λ a lt. each.falling_pulse a lt ∙ sym (input_same a P0);
    set = λ a lt. each.set a lt ∙ sym (stored_same a S);
    stored_delayed = λ a lt. each.stored_delayed a lt ∙ sym (stored_same a SD);
    stored_limited = λ a lt. each.stored_limited a lt ∙ sym (stored_same a SL);
    delayed_stored = λ a lt. each.delayed_stored a lt ∙ sym (delayed_stored_same a);
    q = λ a lt. each.q a lt ∙ sym (q_same a lt);
    executed = executed_now;
    blocks = λ k d lt. one_rests (slice_index_or state.blocks k d) (each.blocks k d lt) (rest.delays k d lt);
  }

  one_faultless : (a : ℕ) → fault_of tables a now ≡ None
  one_faultless a =
      let time : StepAction → ℤ = λ x. slice_index_or scan.times x.number.0 (pos 0) in
      let off : AreOff a scan tables.associations = record {
        limited = called_now a Limited;
        delayed = called_now a Delayed;
        delayed_stored = called_now a DelayedStored;
      } in
      let acting = filter (times a scan) tables.associations in
      let same_length : length (map time acting) ≡ length acting = length-map acting time in
      let one = few_times a scan tables.associations off (size.single rest.single) in
      let few : is_two_timed tables a now ≡ false = not_more (length (map time acting)) (omega (arith, same_length, one)) in
      (λ i. fault_by (few i) (input tables a SD now && called_now a StoredLimited i) (input tables a SL now && called_now a StoredDelayed i))
      ∙ (λ i. fault_by false (and_false (input tables a SD now) i) (and_false (input tables a SL now) i))

  pub rested_faultless : first_fault tables now ≡ None
  rested_faultless = no_fault (λ a. fault_of tables a now) tables.associations one_faultless

pub rested_size : (tables : Tabled) (state : ControlState) → AreFor tables state → AreFor tables (rested state)
rested_size tables state size = record {
  sized = record {
    kept = size.sized.kept;
    q = size.sized.q;
    executed = size.sized.q;
    blocks = size.sized.blocks;
  };
  delays = size.delays;
  few = size.few;
  covered = size.covered;
  single = size.single;
}
