-- The conditions of all transitions, one after the other.
use Rattle.std.proofs.Common.{◌≡◌, ℕ, zero, suc, ◌+◌, ◌<◌, ◌≤◌, ◌==◌, ◌&&◌, ◌||◌, arith, Bool, true, false, cond, List, [], ◌∷◌, ◌++◌, length, map, take, drop, replicate, get_or, slice_set, Option, Some, None, Result, Ok, Err, refl, sym, ap, ◌∙◌}
use Rattle.std.specs.List.{list_any, range_with_len}
use Rattle.std.specs.Result.{result_err}
use Rattle.std.proofs.lemmas.List.{take_more, take_all, drop_more, get_or_default}
use Rattle.std.proofs.lemmas.List.Sorted.{list_any-IsPermutation}
use Rattle.std.proofs.lemmas.List.Sums.{sum_by-cons}
use Rattle.std.proofs.lemmas.Bool.Decides.{nat_tests}
use Rattle.sfc_expr.specs.declared.fault.Fault.{Fault}
use Rattle.sfc_base.specs.declared.value.Value.{Value}
use Rattle.sfc_expr.specs.Environment.{Environment}
use Rattle.sfc_flags.specs.Flags.{flag}
use Rattle.sfc_plant.specs.declared.chart.Chart.{Chart}
use Rattle.sfc_base.specs.declared.ids.TransitionId.{TransitionId}
use Rattle.sfc_tables.specs.Ranks.{transitions_to}
use Rattle.sfc_tables.specs.Tables.{Tabled, AreTables}
use Rattle.sfc_evolve.specs.Lookback.{or_else}
use Rattle.sfc_evolve.proofs.Flagged.{one_set}
use Rattle.sfc_evolve.proofs.Listed.{listed}
use Rattle.sfc_instance.specs.declared.conditions.TransitionFault.{TransitionFault}
use Rattle.sfc_instance.specs.Life.{Life}
use Rattle.sfc_instance.specs.ProgramScan.{enabled, condition_result, condition_flag, condition_flags, condition_fault, fault_with, is_true}
use Rattle.sfc_instance.specs.Work.{condition_work, transition_work}
use Rattle.sfc_expr.specs.Meaning.{truth_of}
use Rattle.sfc_instance.specs.Private.Evaluating.{at_transition, evaluated, is_among, AreEvaluated}

-- the element of a list that is another list
pub item_at : (xs ys : List TransitionId) (i : ℕ) (d : TransitionId) → xs ≡ ys → i < length xs → get_or xs i d ≡ get_or ys i (get_or xs i d)
item_at xs ys i d same lt = get_or_default xs i d (get_or xs i d) lt ∙ ap (λ (l : List TransitionId). get_or l i (get_or xs i d)) same

-- ---- one transition

pub flag_of : (b : Bool) (r : Result Value Fault) (x : Bool) → Ok x ≡ cond b (truth_of r) (Ok false) → x ≡ (b && is_true r)
flag_of true (Ok v) x e = cc
flag_of true (Err f) x e = absurd cc
flag_of false r x e = cc

pub no_fault : (b : Bool) (r : Result Value Fault) (x : Bool) → Ok x ≡ cond b (truth_of r) (Ok false) → cond b (result_err r) None ≡ None
no_fault true (Ok v) x e = refl
no_fault true (Err f) x e = absurd cc
no_fault false r x e = refl

pub some_fault : (b : Bool) (r : Result Value Fault) (f : Fault) → Err f ≡ cond b (truth_of r) (Ok false) → cond b (result_err r) None ≡ Some f
some_fault true (Ok v) f e = absurd cc
some_fault true (Err g) f e = cc
some_fault false r f e = absurd cc

-- what is told of one with its transition
pub ok_inside : (tr : TransitionId) (r : Result Bool Fault) (x : Bool) → Ok x ≡ at_transition tr r → Ok x ≡ r
ok_inside tr (Ok y) x e = cc
ok_inside tr (Err f) x e = absurd cc

same_error : (r : Result Bool TransitionFault) (x y : TransitionFault) → r ≡ Err x → r ≡ Err y → x ≡ y
same_error r x y e g = cc

pub err_inside : (tr : TransitionId) (r : Result Bool Fault) (f : TransitionFault) → Err f ≡ at_transition tr r
    → (Err f.fault ≡ r) × (f ≡ record { transition = tr; fault = f.fault })
err_inside tr (Ok y) f e = absurd cc
err_inside tr (Err g) f e =
    let same : f ≡ record { transition = tr; fault = g } = same_error (Err f) f (record { transition = tr; fault = g }) refl e in
    (ap (λ (x : TransitionFault). Err x.fault) same, same ∙ (λ k. record { transition = tr; fault = (sym same k).fault }))

module _ (ranked : List TransitionId) (i : ℕ) (tr : TransitionId) (lt : i < length ranked) (is : tr ≡ get_or ranked i tr) where
  split : drop i ranked ≡ tr ∷ drop (i + 1) ranked
  split = drop_more ranked i tr lt ∙ ap (λ (y : TransitionId). y ∷ drop (i + 1) ranked) (sym is)

  pub fault_passed : (tables : Tabled) (chart : Chart) (env : Environment) (life : Life) (x : Bool)
      → Ok x ≡ evaluated tables chart env life tr.0
      → condition_fault tables chart env life (drop i ranked) ≡ condition_fault tables chart env life (drop (i + 1) ranked)
  fault_passed tables chart env life x e =
      ap (condition_fault tables chart env life) split
      ∙ ap (λ (o : Option Fault). or_else (fault_with tr o) (condition_fault tables chart env life (drop (i + 1) ranked)))
      (no_fault (enabled tables life tr.0) (condition_result chart env tr.0) x e)

  pub fault_found : (tables : Tabled) (chart : Chart) (env : Environment) (life : Life) (f : Fault)
      → Err f ≡ evaluated tables chart env life tr.0 → condition_fault tables chart env life (drop i ranked) ≡ Some (record { transition = tr; fault = f })
  fault_found tables chart env life f e =
      ap (condition_fault tables chart env life) split
      ∙ ap (λ (o : Option Fault). or_else (fault_with tr o) (condition_fault tables chart env life (drop (i + 1) ranked)))
      (some_fault (enabled tables life tr.0) (condition_result chart env tr.0) f e)

  pub work_split : (tables : Tabled) (chart : Chart)
      → condition_work tables chart (drop i ranked) ≡ transition_work tables chart tr + condition_work tables chart (drop (i + 1) ranked)
  work_split tables chart = ap (condition_work tables chart) split ∙ sum_by-cons (transition_work tables chart) tr (drop (i + 1) ranked)

  -- ---- what was evaluated

  any_push : (p : TransitionId → Bool) (xs : List TransitionId) (y : TransitionId) → list_any p (xs ++ y ∷ []) ≡ (list_any p xs || p y)
  any_push p [] y = at (p y)
    where
      at : (b : Bool) → (b || false) ≡ b
      at true = refl
      at false = refl
  any_push p (x ∷ xs) y = at (p x) (any_push p xs y)
    where
      at : (b : Bool) → list_any p (xs ++ y ∷ []) ≡ (list_any p xs || p y) → (b || list_any p (xs ++ y ∷ [])) ≡ ((b || list_any p xs) || p y)
      at true rest = refl
      at false rest = rest

  among_more : (k : ℕ) → is_among (take (i + 1) ranked) k ≡ (is_among (take i ranked) k || (tr.0 == k))
  among_more k =
      ap (λ (ids : List TransitionId). is_among ids k) (take_more ranked i tr lt ∙ ap (λ (y : TransitionId). take i ranked ++ y ∷ []) (sym is))
      ∙ any_push (λ id. id.0 == k) (take i ranked) tr

  both : (seen here x y old : Bool) → (here ≡ true → x ≡ y) → old ≡ (seen && y) → cond here x old ≡ ((seen || here) && y)
  both true true x y old same e = same refl
  both false true x y old same e = same refl
  both true false x y old same e = e
  both false false x y old same e = e

  pub evaluated_more : (tables : Tabled) (chart : Chart) (env : Environment) (life : Life) (flags : List Bool) (x : Bool)
      → tr.0 < length flags → Ok x ≡ evaluated tables chart env life tr.0
      → AreEvaluated tables chart env life (take i ranked) flags
      → AreEvaluated tables chart env life (take (i + 1) ranked) (slice_set flags tr.0 x)
  unfolding AreEvaluated
  evaluated_more tables chart env life flags x within e h k =
      let value : x ≡ condition_flag tables chart env life tr.0 =
      flag_of (enabled tables life tr.0) (condition_result chart env tr.0) x e in
      one_set flags x tr.0 k within
      ∙ both (is_among (take i ranked) k) (tr.0 == k) x (condition_flag tables chart env life k) (flag flags k)
      (λ t. let same : tr.0 ≡ k = grind (arith, nat_tests) in value ∙ ap (condition_flag tables chart env life) same) (h k)
      ∙ ap (λ b. b && condition_flag tables chart env life k) (sym (among_more k))

pub evaluated_none : (tables : Tabled) (chart : Chart) (env : Environment) (life : Life) (ranked : List TransitionId) (flags : List Bool) (n : ℕ)
    → flags ≡ replicate n false → AreEvaluated tables chart env life (take 0 ranked) flags
unfolding AreEvaluated
evaluated_none tables chart env life ranked flags n is k = ap (λ (xs : List Bool). flag xs k) is ∙ blank n k
  where
    blank : (n k : ℕ) → flag (replicate n false) k ≡ false
    blank zero k = refl
    blank (suc n) zero = refl
    blank (suc n) (suc k) = blank n k

-- ---- all of them

pub among_range : (a n k : ℕ) → a ≤ k → k < a + n
    → list_any (λ (id : TransitionId). id.0 == k) (map (λ (i : ℕ). let id : TransitionId = record { 0 = i } in id) (range_with_len a n)) ≡ true
among_range a zero k le lt = absurd (omega (arith, le, lt))
among_range a (suc n) k le lt = by_test (a == k) (λ t. among_range (a + 1) n k (other t) (omega (arith, lt)))
  where
    other : (a == k) ≡ false → a + 1 ≤ k
    other t = grind (arith, nat_tests)

    by_test : (b : Bool) → (b ≡ false → list_any (λ (id : TransitionId). id.0 == k) (map (λ (i : ℕ). let id : TransitionId = record { 0 = i } in id) (range_with_len (a + 1) n)) ≡ true)
        → (b || list_any (λ (id : TransitionId). id.0 == k) (map (λ (i : ℕ). let id : TransitionId = record { 0 = i } in id) (range_with_len (a + 1) n))) ≡ true
    by_test true rest = refl
    by_test false rest = rest refl

pub evaluated_all : (tables : Tabled) (chart : Chart) (env : Environment) (life : Life) (flags : List Bool) (i : ℕ) → AreTables tables
    → length flags ≡ length tables.sides → length tables.ranked ≤ i → AreEvaluated tables chart env life (take i tables.ranked) flags
    → flags ≡ condition_flags tables chart env life
unfolding AreEvaluated
evaluated_all tables chart env life flags i sound long all h =
    listed (condition_flag tables chart env life) (length tables.sides) flags long (λ k lt.
    h k
    ∙ ap (λ (ids : List TransitionId). is_among ids k && condition_flag tables chart env life k) (take_all i tables.ranked all)
    ∙ ap (λ b. b && condition_flag tables chart env life k)
    (sym (list_any-IsPermutation (λ (id : TransitionId). id.0 == k) (transitions_to (length tables.sides)) tables.ranked sound.ranked)
    ∙ among_range 0 (length tables.sides) k (omega arith) (omega (arith, lt))))

pub ruleset conditions = (fault_passed, fault_found, work_split, evaluated_more, evaluated_none, evaluated_all)
