-- What a table keeps of one call more.
use Rattle.std.proofs.Common.{◌≡◌, ◌≢◌, ℕ, ◌+◌, ◌<◌, ◌==◌, arith, List, [], ◌∷◌, ◌++◌, length, ℤ, Bool, true, false, cond, refl, sym, ◌∙◌, ap, subst, append-nil, inl, inr, add-zero, slice_set}
use Rattle.std.proofs.lemmas.List.{get_or-set_same, get_or-set_other}
use borrow.Author.Count.{below_more}
use Rattle.std.proofs.lemmas.Bool.Decides.{eqb_tells}
use Rattle.sfc_base.specs.declared.ids.TaskId.{TaskId}
use Rattle.sfc_plant.specs.declared.task.Task.{Task}
use Rattle.sfc_tasks.specs.declared.task_slot.TaskSlot.{TaskSlot}
use Rattle.sfc_tasks.specs.declared.table.TaskTable.{TaskTable}
use Rattle.sfc_tasks.specs.Calls.{Call, Elapsed, Rose, single_of, last_instant}
use Rattle.sfc_tasks.specs.Releases.{interval_of, waiting, waits_since, first_of, overruns, capped}
use Rattle.sfc_tasks.specs.Private.Keeping.{slot_at, blank_slot, HoldsReleases, Gains, elapsed_releases}
use Rattle.sfc_tasks.specs.Agreement.{SlotAgrees, Keeps}

-- a call that releases `us` for task k, and does not serve it
slot_gains : (tasks : List Task) (calls : List Call) (k : ℕ) (old new : TaskSlot) (us : List ℤ) → SlotAgrees tasks calls k old
    → Gains us old new → (call : Call)
    → waiting (interval_of tasks k) k (call ∷ calls) ≡ waiting (interval_of tasks k) k calls ++ us
    → overruns (interval_of tasks k) k (call ∷ calls) ≡ overruns (interval_of tasks k) k calls
    → SlotAgrees tasks (call ∷ calls) k new
slot_gains tasks calls k old new us agrees gains call waits late = record {
  interval = gains.same.interval ∙ agrees.interval;
  priority = gains.same.priority ∙ agrees.priority;
  releases = subst (λ (x : List ℤ). HoldsReleases new x) (sym waits) (gains.agrees _ agrees.releases);
  overruns = gains.same.overruns ∙ agrees.overruns ∙ sym late;
}

-- of one task, where time went on
pub elapsed_slot : (tasks : List Task) (old : TaskTable) (t : ℤ) (singles : List Bool) (calls : List Call) (k : ℕ) (new : TaskSlot)
    → k < length tasks
    → Gains (elapsed_releases (slot_at old.slots k).interval old.last t (single_of singles k)) (slot_at old.slots k) new
    → Keeps tasks old calls → SlotAgrees tasks (Elapsed t singles ∷ calls) k new
elapsed_slot tasks old t singles calls k new lt gains agrees =
    let us : List ℤ = elapsed_releases (interval_of tasks k) (last_instant calls) t (single_of singles k) in
    let same : elapsed_releases (slot_at old.slots k).interval old.last t (single_of singles k) ≡ us =
    ap (λ (x : ℤ). elapsed_releases x old.last t (single_of singles k)) (agrees.each k lt).interval
    ∙ ap (λ (x : ℤ). elapsed_releases (interval_of tasks k) x t (single_of singles k)) agrees.last in
    slot_gains tasks calls k (slot_at old.slots k) new us (agrees.each k lt)
    (subst (λ (x : List ℤ). Gains x (slot_at old.slots k) new) same gains) (Elapsed t singles) refl (ap capped (add-zero _))

-- since when one task waits, where time went on
pub elapsed_since : (tasks : List Task) (old : TaskTable) (t : ℤ) (singles : List Bool) (calls : List Call) (k : ℕ)
    → k < length tasks → Keeps tasks old calls
    → first_of (waiting (interval_of tasks k) k calls ++ elapsed_releases (slot_at old.slots k).interval old.last t (single_of singles k))
    ≡ waits_since tasks (Elapsed t singles ∷ calls) k
elapsed_since tasks old t singles calls k lt agrees =
    ap (λ (x : ℤ). first_of (waiting (interval_of tasks k) k calls ++ elapsed_releases x old.last t (single_of singles k)))
    (agrees.each k lt).interval
    ∙ ap (λ (x : ℤ). first_of (waiting (interval_of tasks k) k calls ++ elapsed_releases (interval_of tasks k) x t (single_of singles k)))
    agrees.last

pub elapse_agrees : (tasks : List Task) (old new : TaskTable) (t : ℤ) (singles : List Bool) (calls : List Call)
    → new.count ≡ old.count → new.last ≡ t → length singles ≡ old.count
    → ((k : ℕ) → k < length singles → Gains
    (elapsed_releases (slot_at old.slots k).interval old.last t (single_of singles k))
    (slot_at old.slots k) (slot_at new.slots k))
    → Keeps tasks old calls → Keeps tasks new (Elapsed t singles ∷ calls)
elapse_agrees tasks old new t singles calls count last len gains agrees = record {
  size = count ∙ agrees.size;
  last = last;
  each = λ k lt.
      elapsed_slot tasks old t singles calls k (slot_at new.slots k) lt (gains k (omega (arith, len, agrees.size, lt))) agrees;
}

rise_here : (us : List ℤ) (t : ℤ) (b : Bool) → b ≡ true → us ++ cond b (t ∷ []) [] ≡ us ++ t ∷ []
rise_here us t b e = ap (λ (x : Bool). us ++ cond x (t ∷ []) []) e

rise_there : (us : List ℤ) (t : ℤ) (b : Bool) → b ≡ false → us ++ cond b (t ∷ []) [] ≡ us
rise_there us t b e = ap (λ (x : Bool). us ++ cond x (t ∷ []) []) e ∙ append-nil us

pub rise_agrees : (tasks : List Task) (old : TaskTable) (new : TaskTable) (task : TaskId) (t : ℤ) (p : TaskSlot)
    (calls : List Call)
    → new.count ≡ old.count → new.last ≡ old.last → new.slots ≡ slice_set old.slots task.0 p
    → task.0 < length old.slots → Gains (t ∷ []) (slot_at old.slots task.0) p
    → Keeps tasks old calls → Keeps tasks new (Rose task t ∷ calls)
rise_agrees tasks old new task t p calls count last slots fits gains agrees = record {
  size = count ∙ agrees.size;
  last = last ∙ agrees.last;
  each = λ k lt.
      let us : List ℤ = waiting (interval_of tasks k) k calls in
      let late : overruns (interval_of tasks k) k (Rose task t ∷ calls) ≡ overruns (interval_of tasks k) k calls =
      ap capped (add-zero _) in
      elim (eqb_tells task.0 k) as (λ _. SlotAgrees tasks (Rose task t ∷ calls) k (slot_at new.slots k)) [
        | inl w ↦
            let here : slot_at new.slots k ≡ p =
            ap (λ (x : List TaskSlot). slot_at x k) slots
            ∙ ap (λ (x : ℕ). slot_at (slice_set old.slots task.0 p) x) (sym w.1)
            ∙ get_or-set_same old.slots task.0 p blank_slot fits in
            subst (λ (x : TaskSlot). SlotAgrees tasks (Rose task t ∷ calls) k x) (sym here)
            (slot_gains tasks calls k (slot_at old.slots k) p (t ∷ []) (agrees.each k lt)
            (subst (λ (x : ℕ). Gains (t ∷ []) (slot_at old.slots x) p) w.1 gains) (Rose task t)
            (rise_here us t (task.0 == k) w.0) late)
        | inr w ↦
            let there : slot_at new.slots k ≡ slot_at old.slots k =
            ap (λ (x : List TaskSlot). slot_at x k) slots
            ∙ get_or-set_other old.slots task.0 k p blank_slot (λ e. w.1 (sym e)) in
            let h : SlotAgrees tasks calls k (slot_at new.slots k) =
            subst (λ (x : TaskSlot). SlotAgrees tasks calls k x) (sym there) (agrees.each k lt) in
            record {
              interval = h.interval;
              priority = h.priority;
              releases =
                  subst (λ (x : List ℤ). HoldsReleases (slot_at new.slots k) x) (sym (rise_there us t (task.0 == k) w.0))
                  h.releases;
              overruns = h.overruns ∙ sym late;
            }
      ];
}

-- a slot more is done
module _ (P : ℕ → TaskSlot → Type 0) where
  pub slot_more : (slots : List TaskSlot) (i : ℕ) (p : TaskSlot) → i < length slots
      → ((j : ℕ) → j < i → P j (slot_at slots j)) → P i p → (j : ℕ) → j < i + 1 → P j (slot_at (slice_set slots i p) j)
  slot_more slots i p fits done here =
      below_more (λ j. P j (slot_at (slice_set slots i p) j)) i
      (λ j lt.
      let ne : j ≢ i = λ e. absurd (omega (arith, lt, e)) in
      subst (λ (x : TaskSlot). P j x) (sym (get_or-set_other slots i j p blank_slot ne)) (done j lt))
      (subst (λ (x : TaskSlot). P i x) (sym (get_or-set_same slots i p blank_slot fits)) here)

-- time went on for one task more
pub elapsed_more : (initial slots : List TaskSlot) (singles : List Bool) (last t : ℤ) (i : ℕ) (p : TaskSlot) → i < length slots
    → ((j : ℕ) → j < i → Gains (elapsed_releases (slot_at initial j).interval last t (single_of singles j))
    (slot_at initial j) (slot_at slots j))
    → slot_at slots i ≡ slot_at initial i
    → Gains (elapsed_releases (slot_at slots i).interval last t (single_of singles i)) (slot_at slots i) p
    → (j : ℕ) → j < i + 1 → Gains (elapsed_releases (slot_at initial j).interval last t (single_of singles j))
    (slot_at initial j) (slot_at (slice_set slots i p) j)
elapsed_more initial slots singles last t i p fits done rest here =
    let Q : ℕ → TaskSlot → Type 0 =
    λ j q. Gains (elapsed_releases (slot_at initial j).interval last t (single_of singles j)) (slot_at initial j) q in
    slot_more Q slots i p fits done
    (subst (λ (x : TaskSlot). Gains (elapsed_releases x.interval last t (single_of singles i)) x p) rest here)
