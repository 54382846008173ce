-- The conditions of the transitions that may be enabled are those of all.
use Rattle.std.proofs.Common.{◌≡◌, inl, inr, ℕ, zero, suc, ◌+◌, ◌-◌, ◌<◌, ◌≤◌, ◌==◌, ◌||◌, Bool, true, false, cond}
use Rattle.std.proofs.Common.{List, [], ◌∷◌, length, get_or, drop, arith, refl, sym, ◌∙◌, ap, slice_set, Ok, Option, None, Some, Err}
use Rattle.std.specs.Result.{result_err}
use Rattle.std.proofs.lemmas.Bool.Decides.{nat_tests}
use Rattle.std.proofs.lemmas.List.Sums.{sum_by-cons}
use Rattle.std.proofs.lemmas.List.Sorted.{list_any-IsPermutation}
use Rattle.sfc_expr.specs.declared.fault.Fault.{Fault}
use Rattle.sfc_expr.specs.Environment.{Environment}
use Rattle.sfc_flags.specs.Flags.{flag, set_from}
use Rattle.sfc_plant.specs.declared.chart.Chart.{Chart}
use Rattle.sfc_base.specs.declared.ids.TransitionId.{TransitionId}
use Rattle.sfc_tables.specs.Ranks.{transitions_to}
use Rattle.sfc_tables.specs.Tables.{Tabled, AreTables}
use Rattle.sfc_evolve.specs.Lookback.{or_else}
use Rattle.sfc_evolve.specs.Private.Proposing.{at_places}
use Rattle.sfc_evolve.proofs.Flagged.{one_set}
use Rattle.sfc_evolve.proofs.Looks.{bool_cases}
use Rattle.sfc_instance.specs.Life.{Life}
use Rattle.sfc_instance.specs.ProgramScan.{enabled, condition_result, condition_flag, condition_fault, fault_with}
use Rattle.sfc_instance.specs.Work.{condition_work, transition_work}
use Rattle.sfc_instance.specs.Private.Evaluating.{evaluated, is_among, test_work}
use Rattle.sfc_instance.proofs.Evaluated.{flag_of, no_fault, some_fault, among_range}

abbrev first : TransitionId
first = record { 0 = 0 }

or_true : (b : Bool) → (b || true) ≡ true
or_true true = refl
or_true false = refl

module _ (tables : Tabled) (chart : Chart) (env : Environment) (life : Life) where
  -- the candidates from rank k on are among all
  record AreSeen (whole : List TransitionId) (k : ℕ) (ranked : List TransitionId) (candidates : List Bool) : Type 0 where
    each : (i : ℕ) → i < length ranked → get_or ranked i first ≡ get_or whole (k + i) first
    long : length candidates ≡ length ranked
    proposed : (i : ℕ) → i < length ranked → enabled tables life (get_or ranked i first).0 ≡ true → flag candidates i ≡ true

  seen_next : (whole : List TransitionId) (k : ℕ) (tr : TransitionId) (ranked : List TransitionId) (b : Bool) (candidates : List Bool)
      → AreSeen whole k (tr ∷ ranked) (b ∷ candidates) → AreSeen whole (suc k) ranked candidates
  seen_next whole k tr ranked b candidates s = record {
    each = λ i lt. let n : k + suc i ≡ suc k + i = omega arith in s.each (suc i) (omega arith) ∙ ap (λ j. get_or whole j first) n;
    long = (let e : length (b ∷ candidates) ≡ length (tr ∷ ranked) = s.long in omega arith);
    proposed = λ i lt on. s.proposed (suc i) (omega arith) on;
  }

  seen_here : (whole : List TransitionId) (k : ℕ) (tr : TransitionId) (ranked : List TransitionId) (b : Bool) (candidates : List Bool)
      → AreSeen whole k (tr ∷ ranked) (b ∷ candidates) → get_or whole k first ≡ tr
  seen_here whole k tr ranked b candidates s =
      let e : k + 0 ≡ k = omega arith in ap (λ j. get_or whole j first) (sym e) ∙ sym (s.each 0 (omega arith))

  selected_has : (whole : List TransitionId) (k : ℕ) (ranked : List TransitionId) (candidates : List Bool) (tr : ℕ)
      → AreSeen whole k ranked candidates → enabled tables life tr ≡ true → is_among ranked tr ≡ true
      → is_among (at_places whole (set_from k candidates)) tr ≡ true
  selected_has whole k [] candidates tr s on e = absurd (let bad : false ≡ true = e in cc)
  selected_has whole k (t ∷ ranked) [] tr s on e = absurd (let bad : 0 ≡ length (t ∷ ranked) = s.long in omega arith)
  selected_has whole k (t ∷ ranked) (true ∷ candidates) tr s on e =
      ap (λ (x : TransitionId). (x.0 == tr) || is_among (at_places whole (set_from (suc k) candidates)) tr)
      (seen_here whole k t ranked true candidates s)
      ∙ elim (bool_cases (t.0 == tr)) [
        | inl here ↦ rw here refl
        | inr other ↦ (
            let rest : is_among ranked tr ≡ true = rw other at e in
            ap (λ b. (t.0 == tr) || b)
            (selected_has whole (suc k) ranked candidates tr (seen_next whole k t ranked true candidates s) on rest)
            ∙ or_true (t.0 == tr))
      ]
  selected_has whole k (t ∷ ranked) (false ∷ candidates) tr s on e = elim (bool_cases (t.0 == tr)) [
    | inl here ↦ absurd (
        let same : t.0 ≡ tr = grind (arith, nat_tests) in
        let bad : false ≡ true = s.proposed 0 (omega arith) (ap (enabled tables life) same ∙ on) in
        cc)
    | inr other ↦ (
        let rest : is_among ranked tr ≡ true = rw other at e in
        selected_has whole (suc k) ranked candidates tr (seen_next whole k t ranked false candidates s) on rest)
  ]

  fault_selected : (whole : List TransitionId) (k : ℕ) (ranked : List TransitionId) (candidates : List Bool)
      → AreSeen whole k ranked candidates
      → condition_fault tables chart env life ranked
      ≡ condition_fault tables chart env life (at_places whole (set_from k candidates))
  fault_selected whole k [] [] s = refl
  fault_selected whole k [] (b ∷ candidates) s = absurd (let bad : length (b ∷ candidates) ≡ 0 = s.long in omega arith)
  fault_selected whole k (t ∷ ranked) [] s = absurd (let bad : 0 ≡ length (t ∷ ranked) = s.long in omega arith)
  fault_selected whole k (t ∷ ranked) (true ∷ candidates) s =
      ap (λ o. or_else (fault_with t (cond (enabled tables life t.0) (result_err (condition_result chart env t.0)) None)) o)
      (fault_selected whole (suc k) ranked candidates (seen_next whole k t ranked true candidates s))
      ∙ ap (λ (x : TransitionId). condition_fault tables chart env life (x ∷ at_places whole (set_from (suc k) candidates)))
      (sym (seen_here whole k t ranked true candidates s))
  fault_selected whole k (t ∷ ranked) (false ∷ candidates) s =
      let idle : enabled tables life t.0 ≡ false =
      elim (bool_cases (enabled tables life t.0)) [
        | inl on ↦ absurd (let bad : false ≡ true = s.proposed 0 (omega arith) on in cc)
        | inr off ↦ off
      ] in
      ap (λ b. or_else (fault_with t (cond b (result_err (condition_result chart env t.0)) None)) (condition_fault tables chart env life ranked)) idle
      ∙ fault_selected whole (suc k) ranked candidates (seen_next whole k t ranked false candidates s)

  module _ (sound : AreTables tables) (candidates : List Bool) (long : length candidates ≡ length tables.ranked)
      (proposed : (i : ℕ) → i < length tables.ranked → enabled tables life (get_or tables.ranked i first).0 ≡ true
      → flag candidates i ≡ true) where
    all_seen : AreSeen tables.ranked 0 tables.ranked candidates
    all_seen = record {
      each = λ i lt. let e : i ≡ 0 + i = omega arith in ap (λ j. get_or tables.ranked j first) e;
      long = long;
      proposed = proposed;
    }

    pub fault_is : condition_fault tables chart env life tables.ranked
        ≡ condition_fault tables chart env life (at_places tables.ranked (set_from 0 candidates))
    fault_is = fault_selected tables.ranked 0 tables.ranked candidates all_seen

    pub none_other : (tr : ℕ) → tr < length tables.sides → is_among (at_places tables.ranked (set_from 0 candidates)) tr ≡ false
        → condition_flag tables chart env life tr ≡ false
    none_other tr lt apart = elim (bool_cases (enabled tables life tr)) [
      | inr off ↦ rw off refl
      | inl on ↦ absurd (
          let ranked : is_among tables.ranked tr ≡ true =
          sym (list_any-IsPermutation (λ (id : TransitionId). id.0 == tr) (transitions_to (length tables.sides)) tables.ranked sound.ranked)
          ∙ among_range 0 (length tables.sides) tr (omega arith) (omega (arith, lt)) in
          let among = selected_has tables.ranked 0 tables.ranked candidates tr all_seen on ranked in
          let bad : true ≡ false = sym among ∙ apart in
          cc)
    ]

  -- one more condition
  pub flag_next : (t : TransitionId) (rest : List TransitionId) (flags : List Bool) (x : Bool) (tr : ℕ) → t.0 < length flags
      → Ok x ≡ evaluated tables chart env life t.0
      → (is_among (t ∷ rest) tr ≡ false → flag flags tr ≡ condition_flag tables chart env life tr)
      → is_among rest tr ≡ false → flag (slice_set flags t.0 x) tr ≡ condition_flag tables chart env life tr
  flag_next t rest flags x tr within e old apart =
      one_set flags x t.0 tr within
      ∙ elim (bool_cases (t.0 == tr)) [
        | inl here ↦ (
            let same : t.0 ≡ tr = grind (arith, nat_tests) in
            rw here
            (flag_of (enabled tables life t.0) (condition_result chart env t.0) x e ∙ ap (condition_flag tables chart env life) same))
        | inr other ↦ rw other (old (rw (other, apart) refl))
      ]

  -- one whose condition isn't TRUE changes nothing
  pub flag_kept : (t : TransitionId) (rest : List TransitionId) (flags : List Bool) (tr : ℕ) → Ok false ≡ evaluated tables chart env life t.0
      → (flag flags t.0 ≡ true → condition_flag tables chart env life t.0 ≡ true)
      → (is_among (t ∷ rest) tr ≡ false → flag flags tr ≡ condition_flag tables chart env life tr)
      → is_among rest tr ≡ false → flag flags tr ≡ condition_flag tables chart env life tr
  flag_kept t rest flags tr e sound old apart = elim (bool_cases (t.0 == tr)) [
    | inl here ↦ (
        let same : t.0 ≡ tr = grind (arith, nat_tests) in
        let off : false ≡ condition_flag tables chart env life t.0 = flag_of (enabled tables life t.0) (condition_result chart env t.0) false e in
        elim (bool_cases (flag flags t.0)) [
          | inl on ↦ absurd (let bad : false ≡ true = off ∙ sound on in cc)
          | inr none ↦ sym (ap (flag flags) same) ∙ none ∙ off ∙ ap (condition_flag tables chart env life) same
        ])
    | inr other ↦ old (rw (other, apart) refl)
  ]

  -- and one whose condition is TRUE sets a flag that is right
  pub sound_next : (t : TransitionId) (flags : List Bool) (tr : ℕ) → t.0 < length flags → Ok true ≡ evaluated tables chart env life t.0
      → ((i : ℕ) → flag flags i ≡ true → condition_flag tables chart env life i ≡ true)
      → flag (slice_set flags t.0 true) tr ≡ true → condition_flag tables chart env life tr ≡ true
  sound_next t flags tr within e old on = elim (bool_cases (t.0 == tr)) [
    | inl here ↦ (
        let same : t.0 ≡ tr = grind (arith, nat_tests) in
        ap (condition_flag tables chart env life) (sym same)
        ∙ sym (flag_of (enabled tables life t.0) (condition_result chart env t.0) true e))
    | inr other ↦ (
        let kept : flag (slice_set flags t.0 true) tr ≡ flag flags tr = one_set flags true t.0 tr within ∙ rw other refl in
        old tr (sym kept ∙ on))
  ]

  pub fault_next : (t : TransitionId) (rest : List TransitionId) (x : Bool) → Ok x ≡ evaluated tables chart env life t.0
      → condition_fault tables chart env life (t ∷ rest) ≡ condition_fault tables chart env life rest
  fault_next t rest x e = ap (λ (o : Option Fault). or_else (fault_with t o) (condition_fault tables chart env life rest))
      (no_fault (enabled tables life t.0) (condition_result chart env t.0) x e)

  pub fault_here : (t : TransitionId) (rest : List TransitionId) (f : Fault) → Err f ≡ evaluated tables chart env life t.0
      → condition_fault tables chart env life (t ∷ rest) ≡ Some (record { transition = t; fault = f })
  fault_here t rest f e = ap (λ (o : Option Fault). or_else (fault_with t o) (condition_fault tables chart env life rest))
      (some_fault (enabled tables life t.0) (condition_result chart env t.0) f e)

module _ (tables : Tabled) (chart : Chart) where
  pub work_covers : (ranked : List TransitionId) → length ranked ≤ condition_work tables chart ranked
  work_covers [] = omega arith
  work_covers (t ∷ ranked) = omega (arith, work_covers ranked, sum_by-cons (transition_work tables chart) t ranked)

  pub work_left : (ranked : List TransitionId) (at j : ℕ) (d : TransitionId) → at ≤ j → j < length ranked
      → suc j - at + test_work tables chart (get_or ranked j d) + condition_work tables chart (drop (suc j) ranked)
      ≤ condition_work tables chart (drop at ranked)
  work_left [] at j d le lt = absurd (omega arith)
  work_left (t ∷ ranked) zero zero d le lt = omega (arith, sum_by-cons (transition_work tables chart) t ranked)
  work_left (t ∷ ranked) zero (suc j) d le lt =
      omega (arith, work_left ranked 0 j d (omega arith) (omega arith), sum_by-cons (transition_work tables chart) t ranked)
  work_left (t ∷ ranked) (suc at) zero d le lt = absurd (omega arith)
  work_left (t ∷ ranked) (suc at) (suc j) d le lt = omega (arith, work_left ranked at j d (omega arith) (omega arith))
