-- One scan of action control leaves what the definitions say.
use Rattle.std.proofs.Common.{◌≡◌, ℕ, suc, ◌<◌, ◌==◌, Bool, true, false, cond, not, ◌&&◌, ◌||◌, List, [], ◌∷◌, length, arith, refl, sym, subst, ◌∙◌, ap, inl, inr, ℤ, pos, nat_lt, get_or, Some, None}
use Rattle.std.specs.Prelude.{All, slice_index_or, map, filter, Option}
use Rattle.std.specs.List.{list_any}
use Rattle.std.proofs.lemmas.Bool.Decides.{nat_tests}
use Rattle.std.proofs.lemmas.List.Elements.{All-head, All-tail}
use Rattle.sfc_base.specs.declared.qualifier.TimedQualifier.{TimedQualifier}
use Rattle.sfc_base.specs.declared.qualifier.TimedQualifier.TheVariants.{Limited, Delayed, StoredDelayed, DelayedStored, StoredLimited}
use Rattle.sfc_flags.specs.Flags.{flag, places_from}
use Rattle.sfc_timers.specs.Timers.{has_elapsed}
use Rattle.sfc_timers.specs.Agreement.{OnDelayAgrees}
use Rattle.sfc_plant.specs.declared.association.Qualifier.{Qualifier}
use Rattle.sfc_plant.specs.declared.association.Qualifier.TheVariants as qualifier
use Rattle.sfc_tables.specs.declared.step_action.StepAction.{StepAction}
use Rattle.sfc_tables.specs.Tables.{Tabled, AreTables}
use Rattle.sfc_evolve.specs.Lookback.{or_else}
use Rattle.sfc_base.specs.declared.ids.ActionNumber.{ActionNumber}
use Rattle.sfc_action.specs.declared.fault.ActionFault.{ActionFault}
use Rattle.sfc_action.specs.declared.fault.ControlFault.{ControlFault}
use Rattle.sfc_action.specs.declared.timed.Timed.{Timed}
use Rattle.sfc_action.specs.declared.inputs.Inputs.{Inputs}
use Rattle.sfc_action.specs.declared.stores.Stores.{Stores}
use Rattle.sfc_action.specs.declared.blocks.Block.{Block}
use Rattle.sfc_action.specs.declared.control_state.ControlState.{ControlState}
use Rattle.sfc_action.specs.ActionControl.{Scan, Letter, N, R, S, L, D, P, SD, DS, SL, P1, P0, is, acts, is_timed, input, preset}
use Rattle.sfc_action.specs.ActionControl.{stored, on_delay, delayed, delayed_then_stored, q, executed, acting_times}
use Rattle.sfc_action.specs.ActionControl.{fault_by, fault_of, fault_with, first_in, first_fault}
use Rattle.sfc_action.specs.Private.TimedSets.{none, by}
use Rattle.sfc_action.specs.Private.Marking.{cleared, marked_at, presets_at, IsWithin}
use Rattle.sfc_action.specs.Private.Storing.{AreNext}
use Rattle.sfc_action.specs.Private.Delays.{input_of, preset_of, IsStepped, gathered}
use Rattle.sfc_action.specs.Private.Failing.{fault_at}
use Rattle.sfc_action.specs.Private.Keeping.{AreFor, IsStateAfter, IsActed, BlockAgrees, IsCovered, called, readings, delay_of, has_block, is_of, IsStateSized}
use Rattle.sfc_action.specs.Private.DelayLists.{same_timed}
use Rattle.sfc_action.proofs.Choices.{executions}
use Rattle.sfc_action.proofs.Elapsed.{bool_cases, is_on_next, elapsed_are}
use Rattle.sfc_action.proofs.Timings.{inputs_are, timing_is, more_are, preset_is}
use Rattle.sfc_action.proofs.ScanInputs.{flags_at}
use Rattle.sfc_action.proofs.Works.{within}

-- inputs and times are those of the scan
pub record AreScanInputs (tables : Tabled) (scan : Scan) (i : Inputs) (ps : List ℤ) : Type 0 where
  pub letters : (a : ℕ) (letter : Letter)
      → flag (flags_at i letter) a ≡ list_any (λ x. acts a scan x && is letter x.qualifier) tables.associations
  pub more : (a : ℕ) → flag i.more_times a ≡ nat_lt 1 (length (acting_times tables a scan))
  pub times : (a : ℕ) → flag i.more_times a ≡ false → preset_of i ps a ≡ preset tables a scan

pub are_scan_inputs : (tables : Tabled) → AreTables tables → (scan : Scan) (ps new_ps : List ℤ) (i : Inputs)
    → length scan.times ≡ length tables.associations → length ps ≡ length tables.actions
    → i ≡ marked_at tables.associations (places_from scan.active 0) (cleared (length tables.actions))
    → new_ps ≡ presets_at scan.times tables.associations (places_from scan.active 0) ps
    → AreScanInputs tables scan i new_ps
are_scan_inputs tables sound scan ps new_ps i et ep ei en =
    let n = length tables.actions in
    let m = length scan.times in
    let all : All (IsWithin n m) tables.associations = within tables sound n m refl et in
    let timing = λ (a : ℕ). timing_is n m scan.times a scan tables.associations ps all ep in
    let i_0 = marked_at tables.associations (places_from scan.active 0) (cleared n) in
    let ps_0 = presets_at scan.times tables.associations (places_from scan.active 0) ps in
    let scan_input : AreScanInputs tables scan i_0 ps_0 = record {
      letters = λ a letter. inputs_are n m scan.times scan tables.associations ps a letter all ep;
      more = λ a. more_are n m scan.times a (flag i_0.more_times a) (flag i_0.any_time a) (slice_index_or ps_0 a (pos 0))
          (acting_times tables a scan) (timing a);
      times = λ a few. preset_is n m scan.times a (flag i_0.more_times a) (flag i_0.any_time a)
          (slice_index_or ps_0 a (pos 0)) (acting_times tables a scan) (timing a) few;
    } in
    rw (ei, en) scan_input

-- neither of two faults is one
both_none : (action : ActionNumber) (o : Option ControlFault) (rest : Option ActionFault) → or_else (fault_with action o) rest ≡ None
    → (o ≡ None) × (rest ≡ None)
both_none action None rest e = (refl, e)
both_none action (Some f) rest e = absurd cc

-- ---- flip-flops

module _ (tables : Tabled) (state : ControlState) (scan : Scan) (h : List Scan) (i : Inputs) (ps : List ℤ) (next : Stores)
    (each : IsStateAfter tables state h) (scan_input : AreScanInputs tables scan i ps) (stores : AreNext state.kept.stores i next) where
  abbrev n : ℕ
  n = length tables.actions

  abbrev h' : List Scan
  h' = scan ∷ h

  pub set_is : (a : ℕ) → a < n → flag next.set a ≡ stored tables a S h'
  set_is a lt =
      stores.set a
      ∙ (λ k. (each.set a lt k || scan_input.letters a S k) && not (scan_input.letters a R k))
      ∙ sym (is_on_next (input tables a S h') (input tables a R h') _)

  pub stored_delayed_is : (a : ℕ) → a < n → flag next.stored_delayed a ≡ stored tables a SD h'
  stored_delayed_is a lt =
      stores.stored_delayed a
      ∙ (λ k. (each.stored_delayed a lt k || scan_input.letters a SD k) && not (scan_input.letters a R k))
      ∙ sym (is_on_next (input tables a SD h') (input tables a R h') _)

  pub stored_limited_is : (a : ℕ) → a < n → flag next.stored_limited a ≡ stored tables a SL h'
  stored_limited_is a lt =
      stores.stored_limited a
      ∙ (λ k. (each.stored_limited a lt k || scan_input.letters a SL k) && not (scan_input.letters a R k))
      ∙ sym (is_on_next (input tables a SL h') (input tables a R h') _)

  -- ---- faults

  fault_is : (a : ℕ) → a < n → fault_at i next a ≡ fault_of tables a h'
  fault_is a lt = λ k. fault_by (scan_input.more a k) (scan_input.letters a SD k && stored_limited_is a lt k)
      (scan_input.letters a SL k && stored_delayed_is a lt k)

  faults_in : (xs : List StepAction) → All (λ x. x.action.0 < n) xs
      → first_in (fault_at i next) xs ≡ first_in (λ a. fault_of tables a h') xs
  faults_in [] below = refl
  faults_in (x ∷ xs) below =
      let here = All-head (λ (x : StepAction). x.action.0 < n) x xs below in
      (λ k. or_else (fault_with x.action (fault_is x.action.0 here k)) (faults_in xs (All-tail (λ (x : StepAction). x.action.0 < n) x xs below) k))

  pub first_fault_is : AreTables tables → first_in (fault_at i next) tables.associations ≡ first_fault tables h'
  first_fault_is sound = faults_in tables.associations (λ k d lt. (sound.associations k d lt).action)

-- ---- no action has more than one time, where there is no fault

none_at : (fault : ℕ → Option ControlFault) (xs : List StepAction) (a : ℕ) → first_in fault xs ≡ None
    → list_any (λ x. x.action.0 == a) xs ≡ true → fault a ≡ None
none_at fault [] a e there = absurd (let bad : false ≡ true = there in cc)
none_at fault (x ∷ xs) a e there =
    let parts = both_none x.action (fault x.action.0) (first_in fault xs) e in
    elim (bool_cases (x.action.0 == a)) [
      | inl here ↦ (let same : x.action.0 ≡ a = grind (arith, nat_tests) in ap fault (sym same) ∙ parts.0)
      | inr later ↦ none_at fault xs a parts.1 (rw later at there)
    ]

no_times : (b : ℕ) (scan : Scan) (xs : List StepAction) → list_any (λ x. x.action.0 == b) xs ≡ false
    → filter (λ x. acts b scan x && is_timed x.qualifier) xs ≡ []
no_times b scan [] e = refl
no_times b scan (x ∷ xs) e =
    let here = or_left (x.action.0 == b) (list_any (λ x. x.action.0 == b) xs) e in
    let rest = no_times b scan xs (or_right (x.action.0 == b) (list_any (λ x. x.action.0 == b) xs) e) in
    (λ k. cond ((here k && flag scan.active x.step.0) && is_timed x.qualifier)
    (x ∷ filter (λ x. acts b scan x && is_timed x.qualifier) xs) (filter (λ x. acts b scan x && is_timed x.qualifier) xs))
    ∙ rest
  where
    or_left : (x y : Bool) → (x || y) ≡ false → x ≡ false
    or_left true y e = e
    or_left false y e = refl

    or_right : (x y : Bool) → (x || y) ≡ false → y ≡ false
    or_right true y e = absurd cc
    or_right false y e = e

pub few_times : (tables : Tabled) (scan : Scan) (i : Inputs) (ps : List ℤ) (next : Stores) → AreScanInputs tables scan i ps
    → first_in (fault_at i next) tables.associations ≡ None → (a : ℕ) → flag i.more_times a ≡ false
few_times tables scan i ps next scan_input e a =
    elim (bool_cases (list_any (λ (x : StepAction). x.action.0 == a) tables.associations)) [
      | inl there ↦ (
          let fine = none_at (fault_at i next) tables.associations a e there in
          no_more (flag i.more_times a) (flag i.timed.stored_delayed a && flag next.stored_limited a)
          (flag i.timed.stored_limited a && flag next.stored_delayed a) fine)
      | inr empty ↦ (
          scan_input.more a
          ∙ ap (λ (xs : List StepAction). nat_lt 1 (length (map (λ x. slice_index_or scan.times x.number.0 (pos 0)) xs)))
          (no_times a scan tables.associations empty)
          ∙ none_more)
    ]
  where
    no_more : (m b c : Bool) → fault_by m b c ≡ None → m ≡ false
    no_more true b c e = absurd cc
    no_more false b c e = refl

    none_more : nat_lt 1 0 ≡ false
    none_more = grind (arith, nat_tests)

-- ---- sizes

module _ (tables : Tabled) (state new : ControlState) (i : Inputs) (ps : List ℤ) (next : Stores) (t : ℤ) (size : AreFor tables state)
    (acted : IsActed i next ps t state new) where
  same_any : (a : ℕ) (p : TimedQualifier) (xs ys : List Block) → length ys ≡ length xs
      → ((k : ℕ) (d : Block) → k < length xs → (get_or ys k d).action ≡ (get_or xs k d).action)
      → ((k : ℕ) (d : Block) → k < length xs → (get_or ys k d).qualifier ≡ (get_or xs k d).qualifier)
      → list_any (is_of a p) ys ≡ list_any (is_of a p) xs
  same_any a p [] [] e actions qualifiers = refl
  same_any a p [] (y ∷ ys) e actions qualifiers = absurd (omega arith)
  same_any a p (x ∷ xs) [] e actions qualifiers = absurd (omega arith)
  same_any a p (x ∷ xs) (y ∷ ys) e actions qualifiers =
      let first = actions 0 x (omega arith) in
      let second = qualifiers 0 x (omega arith) in
      let rest = same_any a p xs ys (omega arith) (λ k d lt. actions (suc k) d (omega arith))
      (λ k d lt. qualifiers (suc k) d (omega arith)) in
      (λ k. (((first k).0 == a) && same_timed p (second k)) || rest k)

  same_delays : (xs ys : List Block) → length ys ≡ length xs
      → ((k : ℕ) (d : Block) → k < length xs → (slice_index_or ys k d).action ≡ (slice_index_or xs k d).action)
      → ((k : ℕ) (d : Block) → k < length xs → (slice_index_or ys k d).qualifier ≡ (slice_index_or xs k d).qualifier)
      → map delay_of ys ≡ map delay_of xs
  same_delays [] [] e actions qualifiers = refl
  same_delays [] (y ∷ ys) e actions qualifiers = absurd (omega arith)
  same_delays (x ∷ xs) [] e actions qualifiers = absurd (omega arith)
  same_delays (x ∷ xs) (y ∷ ys) e actions qualifiers =
      let first = actions 0 x (omega arith) in
      let second = qualifiers 0 x (omega arith) in
      let rest = same_delays xs ys (omega arith) (λ k d lt. actions (suc k) d (omega arith))
      (λ k d lt. qualifiers (suc k) d (omega arith)) in
      (λ k. record { action = (first k).0; qualifier = second k } ∷ rest k)

  same_block : (a : ℕ) (p : Qualifier) → has_block new.blocks a p ≡ has_block state.blocks a p
  same_block a (qualifier.Timed p time) =
      same_any a p state.blocks new.blocks acted.same_blocks (λ k d lt. (acted.blocks k d lt).action)
      (λ k d lt. (acted.blocks k d lt).qualifier)
  same_block a _ = refl

  covered : All (IsCovered new.blocks) tables.associations
  covered = λ k d lt. same_block (slice_index_or tables.associations k d).action.0 (slice_index_or tables.associations k d).qualifier
      ∙ size.covered k d lt

  pub next_size : AreFor tables new
  next_size = record {
    sized = subst (λ n. IsStateSized n new) size.sized.q acted.sized;
    delays = same_delays state.blocks new.blocks acted.same_blocks (λ k d lt. (acted.blocks k d lt).action)
        (λ k d lt. (acted.blocks k d lt).qualifier)
        ∙ size.delays;
    few = let e = acted.same_blocks in let few = size.few in omega arith;
    covered = covered;
    single = λ on. size.single (sym acted.single ∙ on);
  }

-- ---- on-delays

module _ (tables : Tabled) (state new : ControlState) (scan : Scan) (h : List Scan) (i : Inputs) (ps : List ℤ) (next : Stores)
    (size : AreFor tables state) (each : IsStateAfter tables state h) (scan_input : AreScanInputs tables scan i ps)
    (stores : AreNext state.kept.stores i next) (faultless : first_in (fault_at i next) tables.associations ≡ None)
    (acted : IsActed i next ps scan.at state new) where
  abbrev m : ℕ
  m = length tables.actions

  abbrev now : List Scan
  now = scan ∷ h

  called_is : (q : TimedQualifier) (a : ℕ) → a < m → flag (input_of q i next) a ≡ called tables a q now
  called_is Limited a lt = scan_input.letters a L
  called_is Delayed a lt = scan_input.letters a D
  called_is DelayedStored a lt = scan_input.letters a DS
  called_is StoredDelayed a lt = stored_delayed_is tables state scan h i ps next each scan_input stores a lt
  called_is StoredLimited a lt = stored_limited_is tables state scan h i ps next each scan_input stores a lt

  one_agrees : (old block : Block) (input : Bool) (pt : ℤ) → BlockAgrees tables h old → IsStepped input pt scan.at old block
      → input ≡ called tables old.action.0 old.qualifier now → pt ≡ preset tables old.action.0 scan
      → BlockAgrees tables now block
  one_agrees old block input pt agrees stepped ei ep =
      let col = readings tables old.action.0 old.qualifier h in
      let same_readings : readings tables block.action.0 block.qualifier now ≡ readings tables old.action.0 old.qualifier now =
      (λ k. readings tables (stepped.action k).0 (stepped.qualifier k) now) in
      let all : ((input, pt, scan.at) ∷ col) ≡ readings tables old.action.0 old.qualifier now =
      (λ k. (ei k, ep k, scan.at) ∷ col) in
      let is : ((input, pt, scan.at) ∷ col) ≡ readings tables block.action.0 block.qualifier now = all ∙ sym same_readings in
      record {
        delay = subst (OnDelayAgrees block.delay) is (stepped.agrees col agrees.delay);
        elapsed = stepped.answer col agrees.delay ∙ ap has_elapsed is;
      }

  blocks_agree : All (BlockAgrees tables now) new.blocks
  blocks_agree = λ k d lt.
      let within : k < length state.blocks = let e = acted.same_blocks in omega arith in
      let old = slice_index_or state.blocks k d in
      let lt_action : old.action.0 < m = size.sized.blocks k d within in
      one_agrees old (slice_index_or new.blocks k d) (flag (input_of old.qualifier i next) old.action.0)
      (preset_of i ps old.action.0) (each.blocks k d within) (acted.blocks k d within)
      (called_is old.qualifier old.action.0 lt_action)
      (scan_input.times old.action.0 (few_times tables scan i ps next scan_input faultless old.action.0))

  -- ---- outputs

  abbrev elapsed : Timed
  elapsed = gathered new.blocks (none (length state.q))

  elapsed_is : (p : TimedQualifier) (a : ℕ) → flag (by p elapsed) a ≡ on_delay tables a (called tables a p) now
  elapsed_is p a = elapsed_are tables scan h (length state.q) new.blocks p a acted.sized.blocks blocks_agree
      (covered tables state new i ps next scan.at size acted)

  delayed_stored_is : (a : ℕ) → a < m → flag new.kept.delayed_stored a ≡ delayed_then_stored tables a DS now
  delayed_stored_is a lt =
      acted.delayed_stored a
      ∙ (λ k. (each.delayed_stored a lt k || elapsed_is DelayedStored a k) && not (scan_input.letters a R k))
      ∙ sym (is_on_next (delayed tables a DS now) (input tables a R now) _)

  q_is : (a : ℕ) → a < m → flag new.q a ≡ q tables a now
  q_is a lt =
      acted.outputs a
      ∙ (λ k. not (scan_input.letters a R k) && (
      scan_input.letters a N k
      || set_is tables state scan h i ps next each scan_input stores a lt k
      || (scan_input.letters a L k && not (elapsed_is Limited a k))
      || elapsed_is Delayed a k
      || (scan_input.letters a P k && not (each.pulse a lt k))
      || elapsed_is StoredDelayed a k
      || delayed_stored_is a lt k
      || (stored_limited_is tables state scan h i ps next each scan_input stores a lt k && not (elapsed_is StoredLimited a k))))

  executed_is : (a : ℕ) → a < m → flag new.executed a ≡ executed tables a now
  executed_is a lt =
      acted.executions a
      ∙ (λ k. ((each.q a lt k || q_is a lt k) || (scan_input.letters a P1 k && not (each.rising_pulse a lt k)))
      || (each.falling_pulse a lt k && not (scan_input.letters a P0 k)))
      ∙ executions (q tables a h) (q tables a now) (input tables a P1 now && not (input tables a P1 h))
      (input tables a P0 h && not (input tables a P0 now))

  pub next_state : IsStateAfter tables new now
  next_state = record {
    pulse = λ a lt. ap (λ xs. flag xs a) acted.pulse ∙ scan_input.letters a P;
    rising_pulse = λ a lt. ap (λ xs. flag xs a) acted.rising_pulse ∙ scan_input.letters a P1;
    falling_pulse = λ a lt. ap (λ xs. flag xs a) acted.falling_pulse ∙ scan_input.letters a P0;
    set = λ a lt. ap (λ (s : Stores). flag s.set a) acted.stores ∙ set_is tables state scan h i ps next each scan_input stores a lt;
    stored_delayed = λ a lt. ap (λ (s : Stores). flag s.stored_delayed a) acted.stores
        ∙ stored_delayed_is tables state scan h i ps next each scan_input stores a lt;
    stored_limited = λ a lt. ap (λ (s : Stores). flag s.stored_limited a) acted.stores
        ∙ stored_limited_is tables state scan h i ps next each scan_input stores a lt;
    delayed_stored = delayed_stored_is;
    q = q_is;
    executed = executed_is;
    blocks = blocks_agree;
  }

-- ---- a scan that was read

-- what reading a scan left: `active` are the active steps after it
pub record IsRead (tables : Tabled) (state : ControlState) (active : List Bool) (times ps : List ℤ) (i : Inputs) (new_ps : List ℤ)
    (next : Stores) : Type 0 where
  pub sound : AreTables tables
  pub same_times : length times ≡ length tables.associations
  pub presets_len : length ps ≡ length tables.actions
  pub inputs : i ≡ marked_at tables.associations (places_from active 0) (cleared (length tables.actions))
  pub presets : new_ps ≡ presets_at times tables.associations (places_from active 0) ps
  pub stores : AreNext state.kept.stores i next

-- the scan with these active steps
abbrev pub scan_of : List Bool → List ℤ → ℤ → Scan
scan_of active times t = record { active = active; times = times; at = t }

module _ (tables : Tabled) (state : ControlState) (active : List Bool) (times ps : List ℤ) (i : Inputs) (new_ps : List ℤ) (next : Stores)
    (t : ℤ) (h : List Scan) (read : IsRead tables state active times ps i new_ps next) (each : IsStateAfter tables state h) where
  what : AreScanInputs tables (scan_of active times t) i new_ps
  what = are_scan_inputs tables read.sound (scan_of active times t) ps new_ps i read.same_times read.presets_len read.inputs read.presets

  pub fault_read : (steps : List Bool) → active ≡ steps
      → first_in (fault_at i next) tables.associations ≡ first_fault tables (scan_of steps times t ∷ h)
  fault_read steps e =
      first_fault_is tables state (scan_of active times t) h i new_ps next each what read.stores read.sound
      ∙ ap (λ xs. first_fault tables (scan_of xs times t ∷ h)) e

  pub state_read : (new : ControlState) (steps : List Bool) → active ≡ steps → AreFor tables state
      → first_in (fault_at i next) tables.associations ≡ None → IsActed i next new_ps t state new
      → IsStateAfter tables new (scan_of steps times t ∷ h)
  state_read new steps e size faultless acted =
      subst (λ (xs : List Bool). IsStateAfter tables new (scan_of xs times t ∷ h)) e
      (next_state tables state new (scan_of active times t) h i new_ps next size each what read.stores faultless acted)
