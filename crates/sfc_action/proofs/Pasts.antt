-- What is kept of the scans of a life is their past, and the past goes on by one scan.
use denote.Struct.Props.{props}
use Rattle.std.proofs.Common.{◌≡◌, inl, inr, ℕ, ◌<◌, ◌==◌, not, ◌&&◌, ◌||◌, Bool, true, false, List, [], ◌∷◌, ◌++◌}
use Rattle.std.proofs.Common.{length, arith, refl, sym, ◌∙◌, ap, ℤ, Option, Some, None}
use Rattle.std.specs.Prelude.{find, slice_index_or, All}
use Rattle.std.specs.List.{list_any}
use Rattle.std.proofs.lemmas.Bool.Decides.{nat_tests}
use Rattle.std.proofs.lemmas.List.Elements.{All-head, All-tail}
use Rattle.sfc_base.specs.declared.qualifier.TimedQualifier.{TimedQualifier}
use Rattle.sfc_base.specs.declared.qualifier.TimedQualifier.TheVariants.{Limited, Delayed, StoredDelayed, DelayedStored, StoredLimited}
use Rattle.sfc_timers.specs.Timers.{Reading, has_elapsed}
use Rattle.sfc_timers.specs.Past.{on_delay_past}
use Rattle.sfc_timers.proofs.Cuts.{past_cut, elapsed_cut}
use Rattle.sfc_timers.proofs.Pasts.{on_delay_keeps, on_delay_agrees, on_delay_prop}
use Rattle.sfc_tables.specs.Tables.{Tabled, AreTables}
use Rattle.sfc_tables.specs.declared.step_action.StepAction.{StepAction}
use Rattle.sfc_evolve.specs.Lookback.{or_else}
use Rattle.sfc_base.proofs.ByPlace.{at_place, mapped}
use Rattle.sfc_action.specs.declared.blocks.Block.{Block}
use Rattle.sfc_action.specs.declared.control_state.ControlState.{ControlState}
use Rattle.sfc_action.specs.declared.fault.ControlFault.{ControlFault}
use Rattle.sfc_action.specs.Private.DelayLists.{same_timed}
use Rattle.sfc_action.specs.ActionControl.{Scan, N, R, S, L, P, SD, DS, SL, P1, P0, input, stored, delayed, delayed_then_stored}
use Rattle.sfc_action.specs.ActionControl.{preset, q, executed, fault_of, fault_by, fault_with, is_two_timed, first_in, first_fault}
use Rattle.sfc_action.specs.Agreement.{ControlsAgree}
use Rattle.sfc_action.specs.Past.{DelayPast, delay_past, action_past, controls_past, delay_in, action_in, past_in}
use Rattle.sfc_action.specs.Private.Keeping.{is_of, called, readings, IsCovered, BlockAgrees}
use Rattle.sfc_action.proofs.Elapsed.{bool_cases, and_left, and_right, same_timed_is, is_on_next, never_called}

-- ---- the past of each action

pub action_by : (tables : Tabled) (h other : List Scan) → controls_past tables h ≡ controls_past tables other
    → (a : ℕ) → a < length tables.actions → action_past tables h a ≡ action_past tables other a
action_by tables h other same a lt =
    at_place (action_past tables h) (action_past tables other) (length tables.actions) a (action_past tables [] 0) lt same

-- ---- what is kept agrees with all of the same past

block_same : (tables : Tabled) (h other : List Scan) (block : Block) → BlockAgrees tables h block
    → delay_past tables block.action.0 block.qualifier h ≡ delay_past tables block.action.0 block.qualifier other
    → BlockAgrees tables other block
block_same tables h other block agrees e = record {
  delay = on_delay_agrees block.delay (readings tables block.action.0 block.qualifier other)
      (on_delay_keeps block.delay (readings tables block.action.0 block.qualifier h) agrees.delay ∙ ap (λ p. p.begun) e);
  elapsed = agrees.elapsed ∙ ap (λ p. p.elapsed) e;
}

pub same_past : (tables : Tabled) (state : ControlState) (h other : List Scan) → ControlsAgree tables state h
    → controls_past tables h ≡ controls_past tables other → ControlsAgree tables state other
unfolding ControlsAgree
same_past tables state h other k e =
    let each = k.each in
    let by = action_by tables h other e in
    record {
      size = k.size;
      each = record {
        pulse = λ a lt. each.pulse a lt ∙ ap (λ p. p.pulse) (by a lt);
        rising_pulse = λ a lt. each.rising_pulse a lt ∙ ap (λ p. p.rising_pulse) (by a lt);
        falling_pulse = λ a lt. each.falling_pulse a lt ∙ ap (λ p. p.falling_pulse) (by a lt);
        set = λ a lt. each.set a lt ∙ ap (λ p. p.set) (by a lt);
        stored_delayed = λ a lt. each.stored_delayed a lt ∙ ap (λ p. p.stored_delayed) (by a lt);
        stored_limited = λ a lt. each.stored_limited a lt ∙ ap (λ p. p.stored_limited) (by a lt);
        delayed_stored = λ a lt. each.delayed_stored a lt ∙ ap (λ p. p.delayed_stored) (by a lt);
        q = λ a lt. each.q a lt ∙ ap (λ p. p.q) (by a lt);
        executed = λ a lt. each.executed a lt ∙ ap (λ p. p.executed) (by a lt);
        blocks = λ j d lt.
            let block = slice_index_or state.blocks j d in
            block_same tables h other block (each.blocks j d lt)
            (ap (λ p. p.delay block.qualifier) (by block.action.0 (k.size.sized.blocks j d lt)));
      };
    }

-- ---- what is kept is the past

abbrev quiet : List Reading → DelayPast
quiet rs = record { begun = on_delay_past rs; elapsed = has_elapsed rs }

-- an on-delay without an input has nothing
no_run : (x : Bool) (p t : ℤ) (rs : List Reading) → x ≡ false → quiet ((x, p, t) ∷ rs) ≡ delay_in None
no_run true p t rs e = absurd cc
no_run false p t rs e = refl

no_delay : (tables : Tabled) (blocks : List Block) (a : ℕ) (p : TimedQualifier) → All (IsCovered blocks) tables.associations
    → list_any (is_of a p) blocks ≡ false → (h : List Scan) → delay_in None ≡ delay_past tables a p h
no_delay tables blocks a p covered empty [] = refl
no_delay tables blocks a p covered empty (scan ∷ h) =
    sym (no_run (called tables a p (scan ∷ h)) (preset tables a scan) scan.at (readings tables a p h)
    (never_called tables blocks a p covered empty (scan ∷ h)))

one_delay : (tables : Tabled) (h : List Scan) (a : ℕ) (p : TimedQualifier) (block : Block) → BlockAgrees tables h block
    → is_of a p block ≡ true → delay_in (Some block) ≡ delay_past tables a p h
one_delay tables h a p block agrees e =
    let t = and_left (block.action.0 == a) (same_timed p block.qualifier) e in
    let same_action : block.action.0 ≡ a = grind (arith, nat_tests) in
    let same_qualifier : block.qualifier ≡ p = same_timed_is p block.qualifier
    (and_right (block.action.0 == a) (same_timed p block.qualifier) e) in
    let begun = on_delay_keeps block.delay (readings tables block.action.0 block.qualifier h) agrees.delay in
    (λ i. record { begun = begun i; elapsed = agrees.elapsed i })
    ∙ (λ i. delay_past tables (same_action i) (same_qualifier i) h)

found_delay : (tables : Tabled) (h : List Scan) (a : ℕ) (p : TimedQualifier) (blocks : List Block) → All (BlockAgrees tables h) blocks
    → list_any (is_of a p) blocks ≡ true → delay_in (find (is_of a p) blocks) ≡ delay_past tables a p h
found_delay tables h a p [] agree e = absurd cc
found_delay tables h a p (block ∷ blocks) agree e = elim (bool_cases (is_of a p block)) [
  | inl here ↦ (rw here (one_delay tables h a p block (All-head (BlockAgrees tables h) block blocks agree) here))
  | inr other ↦ (
      let rest : list_any (is_of a p) blocks ≡ true = rw other at e in
      rw other (found_delay tables h a p blocks (All-tail (BlockAgrees tables h) block blocks agree) rest))
]

none_found : (is : Block → Bool) (blocks : List Block) → list_any is blocks ≡ false → find is blocks ≡ None
none_found is [] e = refl
none_found is (block ∷ blocks) e = elim (bool_cases (is block)) [
  | inl here ↦ absurd (let bad : true ≡ false = rw here at e in cc)
  | inr other ↦ (let rest : list_any is blocks ≡ false = rw other at e in rw other (none_found is blocks rest))
]

pub delay_kept : (tables : Tabled) (h : List Scan) (a : ℕ) (p : TimedQualifier) (blocks : List Block) → All (BlockAgrees tables h) blocks
    → All (IsCovered blocks) tables.associations → delay_in (find (is_of a p) blocks) ≡ delay_past tables a p h
delay_kept tables h a p blocks agree covered = elim (bool_cases (list_any (is_of a p) blocks)) [
  | inl there ↦ found_delay tables h a p blocks agree there
  | inr empty ↦ ap delay_in (none_found (is_of a p) blocks empty) ∙ no_delay tables blocks a p covered empty h
]

pub keeps_past : (tables : Tabled) (state : ControlState) (h : List Scan) → ControlsAgree tables state h → past_in tables state ≡ controls_past tables h
unfolding ControlsAgree past_in
keeps_past tables state h k = mapped (action_in state) (action_past tables h) (length tables.actions) (λ a lt.
    let each = k.each in
    (λ i. record {
      pulse = each.pulse a lt i;
      rising_pulse = each.rising_pulse a lt i;
      falling_pulse = each.falling_pulse a lt i;
      set = each.set a lt i;
      stored_delayed = each.stored_delayed a lt i;
      stored_limited = each.stored_limited a lt i;
      delayed_stored = each.delayed_stored a lt i;
      q = each.q a lt i;
      executed = each.executed a lt i;
      delay = λ p. delay_kept tables h a p state.blocks each.blocks k.size.covered i;
    }))

-- ---- one scan more

module _ (tables : Tabled) (scan : Scan) (h other : List Scan) (a : ℕ) (same : action_past tables h a ≡ action_past tables other a) where
  stored_set : stored tables a S (scan ∷ h) ≡ stored tables a S (scan ∷ other)
  stored_set =
      is_on_next (input tables a S (scan ∷ h)) (input tables a R (scan ∷ h)) _
      ∙ ap (λ p. (p.set || input tables a S (scan ∷ h)) && not (input tables a R (scan ∷ h))) same
      ∙ sym (is_on_next (input tables a S (scan ∷ other)) (input tables a R (scan ∷ other)) _)

  pub stored_sd : stored tables a SD (scan ∷ h) ≡ stored tables a SD (scan ∷ other)
  stored_sd =
      is_on_next (input tables a SD (scan ∷ h)) (input tables a R (scan ∷ h)) _
      ∙ ap (λ p. (p.stored_delayed || input tables a SD (scan ∷ h)) && not (input tables a R (scan ∷ h))) same
      ∙ sym (is_on_next (input tables a SD (scan ∷ other)) (input tables a R (scan ∷ other)) _)

  pub stored_sl : stored tables a SL (scan ∷ h) ≡ stored tables a SL (scan ∷ other)
  stored_sl =
      is_on_next (input tables a SL (scan ∷ h)) (input tables a R (scan ∷ h)) _
      ∙ ap (λ p. (p.stored_limited || input tables a SL (scan ∷ h)) && not (input tables a R (scan ∷ h))) same
      ∙ sym (is_on_next (input tables a SL (scan ∷ other)) (input tables a R (scan ∷ other)) _)

  called_same : (p : TimedQualifier) → called tables a p (scan ∷ h) ≡ called tables a p (scan ∷ other)
  called_same Limited = refl
  called_same Delayed = refl
  called_same StoredDelayed = stored_sd
  called_same DelayedStored = refl
  called_same StoredLimited = stored_sl

  delay_next : (p : TimedQualifier) → delay_past tables a p (scan ∷ h) ≡ delay_past tables a p (scan ∷ other)
  delay_next p =
      let was = readings tables a p h in
      let was' = readings tables a p other in
      let e : on_delay_past was ≡ on_delay_past was' = ap (λ x. (x.delay p).begun) same in
      let call : Reading = (called tables a p (scan ∷ other), preset tables a scan, scan.at) in
      let same_call : (called tables a p (scan ∷ h), preset tables a scan, scan.at) ≡ call =
      (λ i. (called_same p i, preset tables a scan, scan.at)) in
      let begun = past_cut was was' (call ∷ []) e in
      let elapsed = elapsed_cut call was was' [] e in
      (λ i. record { begun = on_delay_past (same_call i ∷ was); elapsed = has_elapsed (same_call i ∷ was) })
      ∙ (λ i. record { begun = begun i; elapsed = elapsed i })

  delayed_stored_next : delayed_then_stored tables a DS (scan ∷ h) ≡ delayed_then_stored tables a DS (scan ∷ other)
  delayed_stored_next =
      is_on_next (delayed tables a DS (scan ∷ h)) (input tables a R (scan ∷ h)) _
      ∙ (λ i. ((same i).delayed_stored || (delay_next DelayedStored i).elapsed) && not (input tables a R (scan ∷ h)))
      ∙ sym (is_on_next (delayed tables a DS (scan ∷ other)) (input tables a R (scan ∷ other)) _)

  q_next : q tables a (scan ∷ h) ≡ q tables a (scan ∷ other)
  q_next = (λ i. not (input tables a R (scan ∷ h)) && (
      input tables a N (scan ∷ h)
      || stored_set i
      || (input tables a L (scan ∷ h) && not (delay_next Limited i).elapsed)
      || (delay_next Delayed i).elapsed
      || (input tables a P (scan ∷ h) && not (same i).pulse)
      || (delay_next StoredDelayed i).elapsed
      || delayed_stored_next i
      || (stored_sl i && not (delay_next StoredLimited i).elapsed)))

  executed_next : executed tables a (scan ∷ h) ≡ executed tables a (scan ∷ other)
  executed_next = (λ i. q_next i
      || ((same i).q && not (q_next i))
      || (input tables a P1 (scan ∷ h) && not (same i).rising_pulse)
      || ((same i).falling_pulse && not (input tables a P0 (scan ∷ h))))

  pub action_next : action_past tables (scan ∷ h) a ≡ action_past tables (scan ∷ other) a
  action_next = (λ i. record {
    pulse = input tables a P (scan ∷ h);
    rising_pulse = input tables a P1 (scan ∷ h);
    falling_pulse = input tables a P0 (scan ∷ h);
    set = stored_set i;
    stored_delayed = stored_sd i;
    stored_limited = stored_sl i;
    delayed_stored = delayed_stored_next i;
    q = q_next i;
    executed = executed_next i;
    delay = λ p. delay_next p i;
  })

  pub fault_next : fault_of tables a (scan ∷ h) ≡ fault_of tables a (scan ∷ other)
  fault_next = (λ i. fault_by (is_two_timed tables a (scan ∷ h)) (input tables a SD (scan ∷ h) && stored_sl i)
      (input tables a SL (scan ∷ h) && stored_sd i))

pub past_next : (tables : Tabled) (scan : Scan) (h other : List Scan) → controls_past tables h ≡ controls_past tables other
    → controls_past tables (scan ∷ h) ≡ controls_past tables (scan ∷ other)
past_next tables scan h other same = mapped (action_past tables (scan ∷ h)) (action_past tables (scan ∷ other)) (length tables.actions)
    (λ a lt. action_next tables scan h other a (action_by tables h other same a lt))

pub past_cut_at : (tables : Tabled) (h other later : List Scan) → controls_past tables h ≡ controls_past tables other
    → controls_past tables (later ++ h) ≡ controls_past tables (later ++ other)
past_cut_at tables h other [] e = e
past_cut_at tables h other (scan ∷ later) e = past_next tables scan (later ++ h) (later ++ other) (past_cut_at tables h other later e)

first_same : (f g : ℕ → Option ControlFault) (n : ℕ) (xs : List StepAction) → ((a : ℕ) → a < n → f a ≡ g a)
    → All (λ (x : StepAction). x.action.0 < n) xs → first_in f xs ≡ first_in g xs
first_same f g n [] same below = refl
first_same f g n (x ∷ xs) same below =
    let here = same x.action.0 (All-head (λ (x : StepAction). x.action.0 < n) x xs below) in
    let rest = first_same f g n xs same (All-tail (λ (x : StepAction). x.action.0 < n) x xs below) in
    (λ i. or_else (fault_with x.action (here i)) (rest i))

pub fault_cut : (tables : Tabled) (scan : Scan) (h other : List Scan) → AreTables tables
    → controls_past tables h ≡ controls_past tables other → first_fault tables (scan ∷ h) ≡ first_fault tables (scan ∷ other)
fault_cut tables scan h other sound same =
    first_same (λ a. fault_of tables a (scan ∷ h)) (λ a. fault_of tables a (scan ∷ other)) (length tables.actions) tables.associations
    (λ a lt. fault_next tables scan h other a (action_by tables h other same a lt)) (λ k d lt. (sound.associations k d lt).action)

-- it agrees in one way at most
pub agrees_prop : (tables : Tabled) (state : ControlState) (h : List Scan) → IsProp (ControlsAgree tables state h)
unfolding ControlsAgree
agrees_prop tables state h = hlevel (props, on_delay_prop)
