-- What writes leave at each step.
use Rattle.std.proofs.Common.{◌≡◌, inl, inr, ℕ, zero, suc, ◌+◌, ◌<◌, ◌==◌, ◌||◌, ◌&&◌, not, Bool}
use Rattle.std.proofs.Common.{true, false, cond, List, [], ◌∷◌, length, arith, refl, sym, ◌∙◌, ap, ℤ, ◌-ℤ◌}
use Rattle.std.specs.Prelude.{slice_set, All}
use Rattle.std.specs.List.{list_any}
use Rattle.std.proofs.lemmas.Bool.Decides.{nat_tests}
use Rattle.std.proofs.lemmas.Grind.{common_steps}
use Rattle.std.proofs.lemmas.List.{length-set}
use Rattle.std.proofs.lemmas.List.Elements.{All-nil, All-cons, All-head, All-tail}
use Rattle.sfc_base.specs.declared.references.StepId.{StepId}
use Rattle.sfc_flags.specs.Flags.{flag, set_from, places_from}
use Rattle.sfc_evolve.specs.Marks.{has, marked}
use Rattle.sfc_evolve.specs.Private.Keeping.{AllBelow, number, unmarked, changed_by, left_at, left_by, put_at, begun_at, set_at}
use Rattle.sfc_evolve.proofs.Looks.{bool_cases}

-- ---- one write

pub one_set : (flags : List Bool) (b : Bool) (p s : ℕ) → p < length flags → flag (slice_set flags p b) s ≡ cond (p == s) b (flag flags s)
one_set flags b p s lt = elim (bool_cases (p == s)) [
  | inl e ↦ (let same : p ≡ s = grind (arith, nat_tests) in rw e (grind (arith, common_steps)))
  | inr e ↦ (let apart : p ≡ s
      → ⊥ = λ h. (let t : (p == s) ≡ true = grind (arith, nat_tests) in let bad : true ≡ false = sym t ∙ e in absurd cc) in
      rw e (grind (arith, common_steps)))
]

pub one_put : (xs : List ℤ) (v : ℤ) (p s : ℕ) → p < length xs → number (slice_set xs p v) s ≡ cond (p == s) v (number xs s)
one_put xs v p s lt = elim (bool_cases (p == s)) [
  | inl e ↦ (let same : p ≡ s = grind (arith, nat_tests) in rw e (grind (arith, common_steps)))
  | inr e ↦ (let apart : p ≡ s
      → ⊥ = λ h. (let t : (p == s) ≡ true = grind (arith, nat_tests) in let bad : true ≡ false = sym t ∙ e in absurd cc) in
      rw e (grind (arith, common_steps)))
]

-- ---- flags of listed steps

pub length-marked : (steps : List StepId) (flags : List Bool) → length (marked steps flags) ≡ length flags
length-marked [] flags = refl
length-marked (p ∷ steps) flags = length-marked steps (slice_set flags p.0 true) ∙ length-set _ _ _

pub length-unmarked : (steps : List StepId) (flags : List Bool) → length (unmarked steps flags) ≡ length flags
length-unmarked [] flags = refl
length-unmarked (p ∷ steps) flags = length-unmarked steps (slice_set flags p.0 false) ∙ length-set _ _ _

set_step : (h e f : Bool) → (h || cond e true f) ≡ ((e || h) || f)
set_step true true f = refl
set_step true false f = refl
set_step false true f = refl
set_step false false f = refl

pub flag-marked : (n : ℕ) (steps : List StepId) (flags : List Bool) (s : ℕ) → length flags ≡ n → AllBelow n steps
    → flag (marked steps flags) s ≡ (has steps s || flag flags s)
flag-marked n [] flags s long below = refl
flag-marked n (p ∷ steps) flags s long below =
    let here = All-head (λ (step : StepId). step.0 < n) p steps below in
    flag-marked n steps (slice_set flags p.0 true) s (length-set _ _ _ ∙ long) (All-tail (λ (step : StepId). step.0 < n) p steps below)
    ∙ ap (λ b. has steps s || b) (one_set flags true p.0 s (omega arith))
    ∙ set_step (has steps s) (p.0 == s) (flag flags s)

clear_step : (h e f : Bool) → (not h && cond e false f) ≡ (not (e || h) && f)
clear_step true true f = refl
clear_step true false f = refl
clear_step false true f = refl
clear_step false false f = refl

pub flag-unmarked : (n : ℕ) (steps : List StepId) (flags : List Bool) (s : ℕ) → length flags ≡ n → AllBelow n steps
    → flag (unmarked steps flags) s ≡ (not (has steps s) && flag flags s)
flag-unmarked n [] flags s long below = refl
flag-unmarked n (p ∷ steps) flags s long below =
    let here = All-head (λ (step : StepId). step.0 < n) p steps below in
    flag-unmarked n steps (slice_set flags p.0 false) s (length-set _ _ _ ∙ long) (All-tail (λ (step : StepId). step.0 < n) p steps below)
    ∙ ap (λ b. not (has steps s) && b) (one_set flags false p.0 s (omega arith))
    ∙ clear_step (has steps s) (p.0 == s) (flag flags s)

-- ---- times of listed steps

pub length-left_at : (t : ℤ) (since : List ℤ) (steps : List StepId) (held_times : List ℤ) → length (left_at t since steps held_times) ≡ length held_times
length-left_at t since [] held_times = refl
length-left_at t since (p ∷ steps) held_times = length-left_at t since steps (slice_set held_times p.0 (t -ℤ number since p.0)) ∙ length-set _ _ _

put_step : (h e : Bool) (x y k : ℤ) → (e ≡ true → y ≡ x) → cond h x (cond e y k) ≡ cond (e || h) x k
put_step true true x y k same = refl
put_step true false x y k same = refl
put_step false true x y k same = same refl
put_step false false x y k same = refl

pub number-left_at : (n : ℕ) (t : ℤ) (since : List ℤ) (steps : List StepId) (held_times : List ℤ) (s : ℕ) → length held_times ≡ n → AllBelow n steps
    → number (left_at t since steps held_times) s ≡ cond (has steps s) (t -ℤ number since s) (number held_times s)
number-left_at n t since [] held_times s long below = refl
number-left_at n t since (p ∷ steps) held_times s long below =
    let here = All-head (λ (step : StepId). step.0 < n) p steps below in
    let v = t -ℤ number since p.0 in
    number-left_at n t since steps (slice_set held_times p.0 v) s (length-set _ _ _ ∙ long)
    (All-tail (λ (step : StepId). step.0 < n) p steps below)
    ∙ ap (λ k. cond (has steps s) (t -ℤ number since s) k) (one_put held_times v p.0 s (omega arith))
    ∙ put_step (has steps s) (p.0 == s) (t -ℤ number since s) v (number held_times s)
    (λ e. let same : p.0 ≡ s = grind (arith, nat_tests) in ap (λ k. t -ℤ number since k) same)

pub number-put_at : (n : ℕ) (t : ℤ) (steps : List StepId) (times : List ℤ) (s : ℕ) → length times ≡ n → AllBelow n steps
    → number (put_at t steps times) s ≡ cond (has steps s) t (number times s)
number-put_at n t [] times s long below = refl
number-put_at n t (p ∷ steps) times s long below =
    let here = All-head (λ (step : StepId). step.0 < n) p steps below in
    number-put_at n t steps (slice_set times p.0 t) s (length-set _ _ _ ∙ long) (All-tail (λ (step : StepId). step.0 < n) p steps below)
    ∙ ap (λ k. cond (has steps s) t k) (one_put times t p.0 s (omega arith))
    ∙ put_step (has steps s) (p.0 == s) t t (number times s) (λ e. refl)

pub number-begun_at : (n : ℕ) (t : ℤ) (places : List ℕ) (since : List ℤ) (s : ℕ) → length since ≡ n → All (λ p. p < n) places
    → number (begun_at t places since) s ≡ cond (list_any (λ p. p == s) places) t (number since s)
number-begun_at n t [] since s long below = refl
number-begun_at n t (p ∷ places) since s long below =
    let here = All-head (λ p. p < n) p places below in
    number-begun_at n t places (slice_set since p t) s (length-set _ _ _ ∙ long) (All-tail (λ p. p < n) p places below)
    ∙ ap (λ k. cond (list_any (λ p. p == s) places) t k) (one_put since t p s (omega arith))
    ∙ put_step (list_any (λ p. p == s) places) (p == s) t t (number since s) (λ e. refl)

pub flag-set_at : (n : ℕ) (places : List ℕ) (flags : List Bool) (s : ℕ) → length flags ≡ n → All (λ p. p < n) places
    → flag (set_at places flags) s ≡ (list_any (λ p. p == s) places || flag flags s)
flag-set_at n [] flags s long below = refl
flag-set_at n (p ∷ places) flags s long below =
    let here = All-head (λ p. p < n) p places below in
    flag-set_at n places (slice_set flags p true) s (length-set _ _ _ ∙ long) (All-tail (λ p. p < n) p places below)
    ∙ ap (λ b. list_any (λ p. p == s) places || b) (one_set flags true p s (omega arith))
    ∙ set_step (list_any (λ p. p == s) places) (p == s) (flag flags s)

-- ---- the same for the steps of transitions

module _ (n : ℕ) (side : ℕ → List StepId) (within : (tr : ℕ) → AllBelow n (side tr)) where
  abbrev some : List ℕ → ℕ → Bool
  some trs s = list_any (λ tr. has (side tr) s) trs

  or_turn : (a b c : Bool) → (a || (b || c)) ≡ ((b || a) || c)
  or_turn true true c = refl
  or_turn true false c = refl
  or_turn false true c = refl
  or_turn false false c = refl

  pub flag-marked_by : (trs : List ℕ) (flags : List Bool) (s : ℕ) → length flags ≡ n
      → flag (changed_by marked side trs flags) s ≡ (some trs s || flag flags s)
  flag-marked_by [] flags s long = refl
  flag-marked_by (tr ∷ trs) flags s long =
      flag-marked_by trs (marked (side tr) flags) s (length-marked (side tr) flags ∙ long)
      ∙ ap (λ b. some trs s || b) (flag-marked n (side tr) flags s long (within tr))
      ∙ or_turn (some trs s) (has (side tr) s) (flag flags s)

  and_turn : (a b c : Bool) → (not a && (not b && c)) ≡ (not (b || a) && c)
  and_turn true true c = refl
  and_turn true false c = refl
  and_turn false true c = refl
  and_turn false false c = refl

  pub flag-unmarked_by : (trs : List ℕ) (flags : List Bool) (s : ℕ) → length flags ≡ n
      → flag (changed_by unmarked side trs flags) s ≡ (not (some trs s) && flag flags s)
  flag-unmarked_by [] flags s long = refl
  flag-unmarked_by (tr ∷ trs) flags s long =
      flag-unmarked_by trs (unmarked (side tr) flags) s (length-unmarked (side tr) flags ∙ long)
      ∙ ap (λ b. not (some trs s) && b) (flag-unmarked n (side tr) flags s long (within tr))
      ∙ and_turn (some trs s) (has (side tr) s) (flag flags s)

  cond_turn : (a b : Bool) (x k : ℤ) → cond a x (cond b x k) ≡ cond (b || a) x k
  cond_turn true true x k = refl
  cond_turn true false x k = refl
  cond_turn false true x k = refl
  cond_turn false false x k = refl

  pub number-left_by : (t : ℤ) (since : List ℤ) (trs : List ℕ) (held_times : List ℤ) (s : ℕ) → length held_times ≡ n
      → number (left_by t since side trs held_times) s ≡ cond (some trs s) (t -ℤ number since s) (number held_times s)
  number-left_by t since [] held_times s long = refl
  number-left_by t since (tr ∷ trs) held_times s long =
      number-left_by t since trs (left_at t since (side tr) held_times) s (length-left_at t since (side tr) held_times ∙ long)
      ∙ ap (λ k. cond (some trs s) (t -ℤ number since s) k) (number-left_at n t since (side tr) held_times s long (within tr))
      ∙ cond_turn (some trs s) (has (side tr) s) (t -ℤ number since s) (number held_times s)

-- ---- set places

none_below : (i k : ℕ) (flags : List Bool) → k < i → list_any (λ p. p == k) (set_from i flags) ≡ false
none_below i k [] lt = refl
none_below i k (true ∷ flags) lt = let e : (i == k) ≡ false = grind (arith, nat_tests) in rw e (none_below (suc i) k flags (omega arith))
none_below i k (false ∷ flags) lt = none_below (suc i) k flags (omega arith)

set_member : (i s k : ℕ) (flags : List Bool) → k ≡ i + s → list_any (λ p. p == k) (set_from i flags) ≡ flag flags s
set_member i s k [] e = refl
set_member i zero k (true ∷ flags) e = let t : (i == k) ≡ true = grind (arith, nat_tests) in rw t refl
set_member i zero k (false ∷ flags) e = none_below (suc i) k flags (omega arith)
set_member i (suc s) k (true ∷ flags) e = let t : (i == k) ≡ false = grind (arith, nat_tests) in
    rw t (set_member (suc i) s k flags (omega arith))
set_member i (suc s) k (false ∷ flags) e = set_member (suc i) s k flags (omega arith)

pub is_member : (flags : List Bool) (s : ℕ) → list_any (λ p. p == s) (places_from flags 0) ≡ flag flags s
is_member flags s = set_member 0 s s flags (omega arith)

set_below : (i n : ℕ) (flags : List Bool) → i + length flags ≡ n → All (λ p. p < n) (set_from i flags)
set_below i n [] e = All-nil (λ p. p < n)
set_below i n (true ∷ flags) e = All-cons (λ p. p < n) i (set_from (suc i) flags) (omega arith) (set_below (suc i) n flags (omega arith))
set_below i n (false ∷ flags) e = set_below (suc i) n flags (omega arith)

pub members_below : (flags : List Bool) (n : ℕ) → length flags ≡ n → All (λ p. p < n) (places_from flags 0)
members_below flags n e = set_below 0 n flags (omega arith)

pub any_where : (p : ℕ → Bool) (xs : List ℕ) → list_any p xs ≡ true → (x : ℕ) × (p x ≡ true) × (list_any (λ y. y == x) xs ≡ true)
any_where p [] e = absurd (let bad : false ≡ true = e in cc)
any_where p (x ∷ xs) e = elim (bool_cases (p x)) [
  | inl here ↦ (x, here, (let t : (x == x) ≡ true = grind (arith, nat_tests) in rw t refl))
  | inr not_here ↦ (
      let rest : list_any p xs ≡ true = rw not_here at e in
      let (y, holds, among) = any_where p xs rest in
      (y, holds, ap (λ b. (x == y) || b) among ∙ or_true (x == y)))
]
  where
    or_true : (b : Bool) → (b || true) ≡ true
    or_true true = refl
    or_true false = refl
