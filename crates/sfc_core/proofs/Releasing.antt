-- What waits for a task are the releases that no scan has served.
use Rattle.std.proofs.Common.{◌≡◌, ◌↔◌, ◌⊎◌, inl, inr, ℕ, zero, suc, ◌==◌, ◌+◌, ◌<◌, arith, Bool, true, false, cond, List, [], ◌∷◌, ◌++◌, length, append-nil, ℤ, Contains, All, Option, Some, None, refl, sym, ◌∙◌, ap, subst}
use Rattle.std.specs.Prelude.{not, ◌&&◌}
use Rattle.std.proofs.lemmas.Bool.Decides.{eqb_tells}
use Rattle.std.proofs.lemmas.List.{length-map}
use Rattle.std.proofs.lemmas.List.Elements.{All-nil, All-cons, All-head, All-tail, All-contains, Contains-append_left, Contains-append_right, Contains-append_cases, Contains-push_cases}
use Rattle.sfc_base.specs.declared.ids.TaskId.{TaskId}
use Rattle.sfc_plant.specs.declared.task.Task.{Task}
use Rattle.sfc_plant.specs.Plants.{PlantData}
use Rattle.sfc_instances.specs.Singles.{single_in}
use Rattle.sfc_tasks.specs.Calls.{Call, Elapsed, Rose, single_of}
use Rattle.sfc_tasks.specs.Calls as calls
use Rattle.sfc_tasks.specs.Meaning.{IsMultipleBetween}
use Rattle.sfc_tasks.specs.Multiples.{multiples_between}
use Rattle.sfc_tasks.specs.Releases.{waiting, interval_of}
use Rattle.sfc_tasks.proofs.Rising.{each_between, between_contained}
use Rattle.sfc_tasks.proofs.Waited.{bool_cases, none_contained}
use Rattle.sfc_events.specs.Events.{scanned_task}
use Rattle.sfc_events.specs.History.{TimedEvent, History, last_instant}
use Rattle.sfc_core.specs.PlantState.{state_of}
use Rattle.sfc_core.specs.Due.{singles_of, calls_of, calls_at, with_rise, with_rises, with_served, with_service, is_task, is_scan_of}
use Rattle.sfc_core.specs.Releases.{single_after, IsMultipleUntil, IsRiseBy, BringsRelease, IsUnserved}

-- ---- rises

-- whether task k rises, where the first SINGLE is that of task n
abbrev rose : ℕ → ℕ → List Bool → List Bool → Bool
rose n k [] after = false
rose n k (x ∷ before) [] = false
rose n k (x ∷ before) (y ∷ after) = cond (n == k) (not x && y) (rose (suc n) k before after)

-- a task before the first does not
rose_past : (n k : ℕ) (before after : List Bool) → k < n → rose n k before after ≡ false
rose_past n k [] after lt = refl
rose_past n k (x ∷ before) [] lt = refl
rose_past n k (x ∷ before) (y ∷ after) lt = elim (eqb_tells n k) as (λ _. rose n k (x ∷ before) (y ∷ after) ≡ false) [
  | inl e ↦ absurd (let same : n ≡ k = e.1 in omega (arith, same, lt))
  | inr e ↦ ap (λ (b : Bool). cond b (not x && y) (rose (suc n) k before after)) e.0 ∙ rose_past (suc n) k before after (omega (arith, lt))
]

-- the i-th after the first does where its SINGLE read so
rose_reads : (n i : ℕ) (before after : List Bool) → length before ≡ length after
    → rose n (n + i) before after ≡ (not (single_of before i) && single_of after i)
rose_reads n i [] [] e = refl
rose_reads n i [] (y ∷ after) e = absurd (omega (arith, e))
rose_reads n i (x ∷ before) [] e = absurd (omega (arith, e))
rose_reads n zero (x ∷ before) (y ∷ after) e = elim (eqb_tells n (n + 0))
    as (λ _. rose n (n + 0) (x ∷ before) (y ∷ after) ≡ (not x && y)) [
      | inl s ↦ ap (λ (b : Bool). cond b (not x && y) (rose (suc n) (n + 0) before after)) s.0
      | inr s ↦ absurd (s.1 (omega arith))
    ]
rose_reads n (suc i) (x ∷ before) (y ∷ after) e = elim (eqb_tells n (n + suc i))
    as (λ _. rose n (n + suc i) (x ∷ before) (y ∷ after) ≡ (not (single_of before i) && single_of after i)) [
      | inl s ↦ absurd (let same : n ≡ n + suc i = s.1 in omega (arith, same))
      | inr s ↦
          let further : n + suc i ≡ suc n + i = omega arith in
          ap (λ (b : Bool). cond b (not x && y) (rose (suc n) (n + suc i) before after)) s.0
          ∙ ap (λ (k : ℕ). rose (suc n) k before after) further ∙ rose_reads (suc n) i before after (omega (arith, e))
    ]

sole : (t u : ℤ) → Contains (t ∷ []) u → u ≡ t
sole t u c = elim (Contains-push_cases [] t u c) as (λ _. u ≡ t) [
  | inl none ↦ none_contained u none
  | inr same ↦ sym same
]

-- a rise is one release
abbrev rise_at : ℤ → Bool → List ℤ
rise_at t b = cond b (t ∷ []) []

module _ (interval : ℤ) (k : ℕ) where
  rise_waits : (t : ℤ) (n : ℕ) (b : Bool) (told : List Call)
      → waiting interval k (cond b (Rose (record { 0 = n }) t ∷ told) told) ≡ waiting interval k told ++ rise_at t ((n == k) && b)
  rise_waits t n true told = elim (n == k)
      as (λ same. (waiting interval k told ++ cond same (t ∷ []) []) ≡ (waiting interval k told ++ rise_at t (same && true))) [
        | true ↦ refl
        | false ↦ refl
      ]
  rise_waits t n false told = elim (n == k)
      as (λ same. waiting interval k told ≡ waiting interval k told ++ rise_at t (same && false)) [
        | true ↦ sym (append-nil (waiting interval k told))
        | false ↦ sym (append-nil (waiting interval k told))
      ]

  -- one task's rise and those of the tasks behind it
  rises_join : (t : ℤ) (ws : List ℤ) (n : ℕ) (b : Bool) (before after : List Bool)
      → ((ws ++ rise_at t ((n == k) && b)) ++ rise_at t (rose (suc n) k before after))
      ≡ ws ++ rise_at t (cond (n == k) b (rose (suc n) k before after))
  rises_join t ws n b before after = elim (eqb_tells n k)
      as (λ _. ((ws ++ rise_at t ((n == k) && b)) ++ rise_at t (rose (suc n) k before after))
      ≡ (ws ++ rise_at t (cond (n == k) b (rose (suc n) k before after)))) [
        | inl e ↦
            let none : rose (suc n) k before after ≡ false =
            rose_past (suc n) k before after (let same : n ≡ k = e.1 in omega (arith, same)) in
            ap (λ (r : Bool). (ws ++ rise_at t ((n == k) && b)) ++ rise_at t r) none
            ∙ append-nil (ws ++ rise_at t ((n == k) && b))
            ∙ ap (λ (same : Bool). ws ++ rise_at t (same && b)) e.0
            ∙ sym (ap (λ (same : Bool). ws ++ rise_at t (cond same b (rose (suc n) k before after))) e.0)
        | inr e ↦
            ap (λ (same : Bool). (ws ++ rise_at t (same && b)) ++ rise_at t (rose (suc n) k before after)) e.0
            ∙ ap (λ (us : List ℤ). us ++ rise_at t (rose (suc n) k before after)) (append-nil ws)
            ∙ sym (ap (λ (same : Bool). ws ++ rise_at t (cond same b (rose (suc n) k before after))) e.0)
      ]

  rises_wait : (t : ℤ) (n : ℕ) (before after : List Bool) (told : List Call)
      → waiting interval k (with_rises t n before after told) ≡ waiting interval k told ++ rise_at t (rose n k before after)
  rises_wait t n [] after told = sym (append-nil (waiting interval k told))
  rises_wait t n (x ∷ before) [] told = sym (append-nil (waiting interval k told))
  rises_wait t n (x ∷ before) (y ∷ after) told =
      rises_wait t (suc n) before after (with_rise t n x y told)
      ∙ ap (λ (us : List ℤ). us ++ rise_at t (rose (suc n) k before after)) (rise_waits t n (not x && y) told)
      ∙ rises_join t (waiting interval k told) n (not x && y) before after

  -- ---- scans

  served_waits : (task : Option TaskId) (told : List Call)
      → waiting interval k (with_served task told) ≡ cond (is_task k task) [] (waiting interval k told)
  served_waits None told = refl
  served_waits (Some task) told = ap (λ (us : List ℤ). cond (task.0 == k) [] us) (append-nil (waiting interval k told))

-- ---- how far time has gone on

rise_until : (t : ℤ) (n : ℕ) (b : Bool) (told : List Call)
    → calls.last_instant (cond b (Rose (record { 0 = n }) t ∷ told) told) ≡ calls.last_instant told
rise_until t n true told = refl
rise_until t n false told = refl

rises_until : (t : ℤ) (n : ℕ) (before after : List Bool) (told : List Call)
    → calls.last_instant (with_rises t n before after told) ≡ calls.last_instant told
rises_until t n [] after told = refl
rises_until t n (x ∷ before) [] told = refl
rises_until t n (x ∷ before) (y ∷ after) told =
    rises_until t (suc n) before after (with_rise t n x y told) ∙ rise_until t n (not x && y) told

served_until : (task : Option TaskId) (told : List Call) → calls.last_instant (with_served task told) ≡ calls.last_instant told
served_until None told = refl
served_until (Some task) told = refl

told_until : (plant : PlantData) (h : History) → calls.last_instant (calls_of plant h) ≡ last_instant h
unfolding calls_of
told_until plant [] = refl
told_until plant (timed_event ∷ h) =
    rises_until timed_event.1 0 (singles_of plant h) (singles_of plant (timed_event ∷ h)) _
    ∙ served_until (scanned_task timed_event.0) (Elapsed timed_event.1 (singles_of plant h) ∷ calls_of plant h)

-- ---- by the events

singles_length : (plant : PlantData) (h : History) → length (singles_of plant h) ≡ length plant.tasks
unfolding singles_of
singles_length plant h = length-map plant.tasks (λ (task : Task). single_in plant (state_of plant h).changes task.single)

rise_parts : (p q : Bool) → (not p && q) ≡ true → (p ≡ false) × (q ≡ true)
rise_parts true q e = absurd cc
rise_parts false q e = (refl, e)

rise_from : (p q : Bool) → p ≡ false → q ≡ true → (not p && q) ≡ true
rise_from true q e f = absurd cc
rise_from false q e f = f

module _ (plant : PlantData) (k : ℕ) where
  abbrev waits : History → List ℤ
  waits h = waiting (interval_of plant.tasks k) k (calls_of plant h)

  -- the multiples until t
  abbrev until : History → ℤ → List ℤ
  until h t = cond (single_after plant h k) [] (multiples_between (interval_of plant.tasks k) (last_instant h) t)

  abbrev rises : History → TimedEvent → Bool
  rises h timed_event = not (single_after plant h k) && single_after plant (timed_event ∷ h) k

  waits_until : (h : History) (t : ℤ)
      → waiting (interval_of plant.tasks k) k (calls_at plant h t) ≡ waits h ++ until h t
  waits_until h t =
      ap (λ (last : ℤ). waits h ++ cond (single_after plant h k) [] (multiples_between (interval_of plant.tasks k) last t))
      (told_until plant h)

  waits_then : (h : History) (timed_event : TimedEvent)
      → waits (timed_event ∷ h)
      ≡ cond (is_scan_of k timed_event.0) [] (waits h ++ until h timed_event.1) ++ rise_at timed_event.1 (rises h timed_event)
  unfolding calls_of
  waits_then h timed_event =
      let told : List Call = calls_at plant h timed_event.1 in
      let interval : ℤ = interval_of plant.tasks k in
      let reads : rose 0 k (singles_of plant h) (singles_of plant (timed_event ∷ h)) ≡ rises h timed_event =
      ap (λ (j : ℕ). rose 0 j (singles_of plant h) (singles_of plant (timed_event ∷ h))) (let from : k ≡ 0 + k = omega arith in from)
      ∙ rose_reads 0 k (singles_of plant h) (singles_of plant (timed_event ∷ h))
      (singles_length plant h ∙ sym (singles_length plant (timed_event ∷ h))) in
      rises_wait interval k timed_event.1 0 (singles_of plant h) (singles_of plant (timed_event ∷ h)) (with_service timed_event.0 told)
      ∙ ap (λ (us : List ℤ). us ++ rise_at timed_event.1 (rose 0 k (singles_of plant h) (singles_of plant (timed_event ∷ h))))
      (served_waits interval k (scanned_task timed_event.0) told)
      ∙ ap (λ (us : List ℤ). cond (is_scan_of k timed_event.0) [] us ++ rise_at timed_event.1 (rose 0 k (singles_of plant h) (singles_of plant (timed_event ∷ h))))
      (waits_until h timed_event.1)
      ∙ ap (λ (b : Bool). cond (is_scan_of k timed_event.0) [] (waits h ++ until h timed_event.1) ++ rise_at timed_event.1 b) reads

  -- ---- a multiple

  multiple_is : (h : History) (t u : ℤ) → Contains (until h t) u → IsMultipleUntil plant h k t u
  multiple_is h t u c = elim (bool_cases (single_after plant h k)) as (λ _. IsMultipleUntil plant h k t u) [
    | inl on ↦
        none_contained u
        (subst (λ (b : Bool). Contains (cond b [] (multiples_between (interval_of plant.tasks k) (last_instant h) t)) u) on c)
    | inr off ↦ record {
      off = off;
      multiple =
          All-contains (IsMultipleBetween (interval_of plant.tasks k) (last_instant h) t)
          (multiples_between (interval_of plant.tasks k) (last_instant h) t) u (each_between (interval_of plant.tasks k) (last_instant h) t)
          (subst (λ (b : Bool). Contains (cond b [] (multiples_between (interval_of plant.tasks k) (last_instant h) t)) u) off c);
    }
  ]

  is_multiple : (h : History) (t u : ℤ) → IsMultipleUntil plant h k t u → Contains (until h t) u
  is_multiple h t u m =
      subst (λ (b : Bool). Contains (cond b [] (multiples_between (interval_of plant.tasks k) (last_instant h) t)) u) (sym m.off)
      (between_contained (interval_of plant.tasks k) (last_instant h) t u m.multiple)

  -- ---- a rise

  rise_is : (h : History) (timed_event : TimedEvent) (u : ℤ) → Contains (rise_at timed_event.1 (rises h timed_event)) u
      → IsRiseBy plant h timed_event k u
  rise_is h timed_event u c = elim (bool_cases (rises h timed_event)) as (λ _. IsRiseBy plant h timed_event k u) [
    | inl on ↦
        let (before, after) = rise_parts (single_after plant h k) (single_after plant (timed_event ∷ h) k) on in
        record {
          off = before;
          on = after;
          at = sole timed_event.1 u (subst (λ (b : Bool). Contains (rise_at timed_event.1 b) u) on c);
        }
    | inr off ↦ none_contained u (subst (λ (b : Bool). Contains (rise_at timed_event.1 b) u) off c)
  ]

  is_rise : (h : History) (timed_event : TimedEvent) (u : ℤ) → IsRiseBy plant h timed_event k u
      → Contains (rise_at timed_event.1 (rises h timed_event)) u
  is_rise h timed_event u r =
      subst (λ (b : Bool). Contains (rise_at timed_event.1 b) u)
      (sym (rise_from (single_after plant h k) (single_after plant (timed_event ∷ h) k) r.off r.on)) (0, omega arith, sym r.at)

  -- ---- what waits no scan has served

  later_too : (h : History) (timed_event : TimedEvent) (u : ℤ) → is_scan_of k timed_event.0 ≡ false → IsUnserved plant h k u
      → IsUnserved plant (timed_event ∷ h) k u
  later_too h timed_event u off r = record {
    later = timed_event ∷ r.later;
    timed_event = r.timed_event;
    earlier = r.earlier;
    splits = ap (λ (x : History). timed_event ∷ x) r.splits;
    brings = r.brings;
    unserved = All-cons (λ (other : TimedEvent). is_scan_of k other.0 ≡ false) timed_event r.later off r.unserved;
  }

  at_once : (h : History) (timed_event : TimedEvent) (u : ℤ) → BringsRelease plant h timed_event k u
      → IsUnserved plant (timed_event ∷ h) k u
  at_once h timed_event u brings = record {
    later = [];
    timed_event = timed_event;
    earlier = h;
    splits = refl;
    brings = brings;
    unserved = All-nil (λ (other : TimedEvent). is_scan_of k other.0 ≡ false);
  }

  kept_before : (h : History) (timed_event : TimedEvent) (u : ℤ) → (Contains (waits h) u → IsUnserved plant h k u)
      → Contains (cond (is_scan_of k timed_event.0) [] (waits h ++ until h timed_event.1)) u → IsUnserved plant (timed_event ∷ h) k u
  kept_before h timed_event u before c = elim (bool_cases (is_scan_of k timed_event.0))
      as (λ _. IsUnserved plant (timed_event ∷ h) k u) [
        | inl on ↦
            none_contained u (subst (λ (b : Bool). Contains (cond b [] (waits h ++ until h timed_event.1)) u) on c)
        | inr off ↦
            elim (Contains-append_cases (waits h) (until h timed_event.1) u
            (subst (λ (b : Bool). Contains (cond b [] (waits h ++ until h timed_event.1)) u) off c))
            as (λ _. IsUnserved plant (timed_event ∷ h) k u) [
              | inl old ↦ later_too h timed_event u off (before old)
              | inr new ↦ at_once h timed_event u (inl (multiple_is h timed_event.1 u new, off))
            ]
      ]

  unserved : (h : History) (u : ℤ) → Contains (waits h) u → IsUnserved plant h k u
  unfolding calls_of
  unserved [] u c = none_contained u c
  unserved (timed_event ∷ h) u c =
      elim (Contains-append_cases (cond (is_scan_of k timed_event.0) [] (waits h ++ until h timed_event.1))
      (rise_at timed_event.1 (rises h timed_event)) u (subst (λ (us : List ℤ). Contains us u) (waits_then h timed_event) c))
      as (λ _. IsUnserved plant (timed_event ∷ h) k u) [
        | inl before ↦ kept_before h timed_event u (λ old. unserved h u old) before
        | inr new ↦ at_once h timed_event u (inr (rise_is h timed_event u new))
      ]

  -- ---- what no scan has served waits

  waits_by : (h : History) (timed_event : TimedEvent) (u : ℤ) → is_scan_of k timed_event.0 ≡ false
      → Contains (waits h ++ until h timed_event.1) u → Contains (waits (timed_event ∷ h)) u
  waits_by h timed_event u off c =
      subst (λ (us : List ℤ). Contains us u) (sym (waits_then h timed_event))
      (Contains-append_left (cond (is_scan_of k timed_event.0) [] (waits h ++ until h timed_event.1))
      (rise_at timed_event.1 (rises h timed_event)) u
      (subst (λ (b : Bool). Contains (cond b [] (waits h ++ until h timed_event.1)) u) (sym off) c))

  brought_waits : (h : History) (timed_event : TimedEvent) (u : ℤ) → BringsRelease plant h timed_event k u
      → Contains (waits (timed_event ∷ h)) u
  brought_waits h timed_event u (inl m) =
      waits_by h timed_event u m.1 (Contains-append_right (waits h) (until h timed_event.1) u (is_multiple h timed_event.1 u m.0))
  brought_waits h timed_event u (inr r) =
      subst (λ (us : List ℤ). Contains us u) (sym (waits_then h timed_event))
      (Contains-append_right (cond (is_scan_of k timed_event.0) [] (waits h ++ until h timed_event.1))
      (rise_at timed_event.1 (rises h timed_event)) u (is_rise h timed_event u r))

  still_waits : (later : History) (timed_event : TimedEvent) (earlier : History) (u : ℤ)
      → BringsRelease plant earlier timed_event k u → All (λ (other : TimedEvent). is_scan_of k other.0 ≡ false) later
      → Contains (waits (later ++ timed_event ∷ earlier)) u
  still_waits [] timed_event earlier u brings all = brought_waits earlier timed_event u brings
  still_waits (other ∷ later) timed_event earlier u brings all =
      let rest : History = later ++ timed_event ∷ earlier in
      waits_by rest other u (All-head (λ (x : TimedEvent). is_scan_of k x.0 ≡ false) other later all)
      (Contains-append_left (waits rest) (until rest other.1) u
      (still_waits later timed_event earlier u brings (All-tail (λ (x : TimedEvent). is_scan_of k x.0 ≡ false) other later all)))

  waiting_still : (h : History) (u : ℤ) → IsUnserved plant h k u → Contains (waits h) u
  waiting_still h u r =
      subst (λ (x : History). Contains (waits x) u) (sym r.splits) (still_waits r.later r.timed_event r.earlier u r.brings r.unserved)

  -- ---- both ways

  pub waits_unserved : (h : History) (u : ℤ)
      → Contains (waiting (interval_of plant.tasks k) k (calls_of plant h)) u ↔ IsUnserved plant h k u
  waits_unserved h u = ((λ c. unserved h u c), (λ r. waiting_still h u r))

  unserved_at : (h : History) (t u : ℤ) → Contains (waits h ++ until h t) u → IsUnserved plant h k u ⊎ IsMultipleUntil plant h k t u
  unserved_at h t u c = elim (Contains-append_cases (waits h) (until h t) u c)
      as (λ _. IsUnserved plant h k u ⊎ IsMultipleUntil plant h k t u) [
        | inl old ↦ inl (unserved h u old)
        | inr new ↦ inr (multiple_is h t u new)
      ]

  waiting_at : (h : History) (t u : ℤ) → IsUnserved plant h k u ⊎ IsMultipleUntil plant h k t u → Contains (waits h ++ until h t) u
  waiting_at h t u (inl old) = Contains-append_left (waits h) (until h t) u (waiting_still h u old)
  waiting_at h t u (inr new) = Contains-append_right (waits h) (until h t) u (is_multiple h t u new)

  pub waits_until_now : (h : History) (t u : ℤ)
      → Contains (waiting (interval_of plant.tasks k) k (calls_at plant h t)) u
      ↔ (IsUnserved plant h k u ⊎ IsMultipleUntil plant h k t u)
  waits_until_now h t u = (
    (λ c. unserved_at h t u (subst (λ (us : List ℤ). Contains us u) (waits_until h t) c)),
    (λ r. subst (λ (us : List ℤ). Contains us u) (sym (waits_until h t)) (waiting_at h t u r)),
  )
