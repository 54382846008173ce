-- Instants and the times between them, and one step of a walk that writes them.
use Rattle.std.proofs.Common.{◌≡◌, ◌⊎◌, inl, inr, zero, suc, subst, ℕ, ◌+◌, ◌<◌, ◌≤◌, ◌^◌, List, [], ◌∷◌, length, get_or, drop}
use Rattle.std.proofs.Common.{ℤ, pos, ◌-ℤ◌, ◌≤ℤ◌, to_z, of_z, w64, arith, refl, sym, ap, ◌∙◌}
use Rattle.std.specs.Prelude.{slice_set}
use Rattle.std.proofs.Math.Numerals.{add-one}
use Rattle.std.proofs.Math.Seq.{drop-cons}
use Rattle.std.proofs.lemmas.Int.{ints}
use Rattle.std.proofs.lemmas.List.{drop_all}
use Rattle.sfc_base.specs.declared.references.StepId.{StepId}
use Rattle.sfc_base.specs.Instants.{AreInstants}
use Rattle.sfc_evolve.specs.Private.Keeping.{number, left_at, put_at, begun_at}

-- an instant fits in 64 bits
pub same_instant : (x : ℤ) → pos 0 ≤ℤ x → x ≤ℤ pos (2 ^ 62) → to_z w64 (of_z w64 x) ≡ x
same_instant x low high = omega (arith, ints)

pub instant_low : (x : ℤ) → pos 0 ≤ℤ x → x ≤ℤ pos (2 ^ 62) → pos 0 ≤ℤ to_z w64 (of_z w64 x)
instant_low x low high = subst (λ (y : ℤ). pos 0 ≤ℤ y) (sym (same_instant x low high)) low

pub instant_high : (x : ℤ) → pos 0 ≤ℤ x → x ≤ℤ pos (2 ^ 62) → to_z w64 (of_z w64 x) ≤ℤ pos (2 ^ 62)
instant_high x low high = subst (λ (y : ℤ). y ≤ℤ pos (2 ^ 62)) (sym (same_instant x low high)) high

-- so does the time between two instants
pub time_is : (t since x : ℤ) → pos 0 ≤ℤ t → t ≤ℤ pos (2 ^ 62) → pos 0 ≤ℤ since → since ≤ℤ pos (2 ^ 62)
    → x ≡ (to_z w64 (of_z w64 t) -ℤ to_z w64 (of_z w64 since)) → to_z w64 (of_z w64 x) ≡ (t -ℤ since)
time_is t since x low high since_low since_high e = omega (arith, ints)

module _ (t t' : ℤ) (same : t' ≡ t) (since : List ℤ) where
  -- the time of one step more is kept
  pub left_one : (steps : List StepId) (i : ℕ) (held_times : List ℤ) (v : ℤ) → i < length steps
      → v ≡ (t -ℤ number since (get_or steps i record { 0 = 0 }).0)
      → left_at t' since (drop (i + 1) steps) (slice_set held_times (get_or steps i record { 0 = 0 }).0 v)
      ≡ left_at t' since (drop i steps) held_times
  left_one steps i held_times v lt e = rw (e, same, add-one, drop-cons steps i record { 0 = 0 }) refl

  -- those of all are
  pub left_all : (steps : List StepId) (i : ℕ) (held_times before : List ℤ) → length steps ≤ i
      → left_at t' since (drop i steps) held_times ≡ left_at t' since steps before → held_times ≡ left_at t since steps before
  left_all steps i held_times before le rest =
      sym (ap (λ (xs : List StepId). left_at t' since xs held_times) (drop_all i steps le)) ∙ rest
      ∙ ap (λ (x : ℤ). left_at x since steps before) same

  -- one step more is put
  pub put_one : (steps : List StepId) (i : ℕ) (times : List ℤ) → i < length steps
      → put_at t' (drop (i + 1) steps) (slice_set times (get_or steps i record { 0 = 0 }).0 t') ≡ put_at t' (drop i steps) times
  put_one steps i times lt = rw (add-one, drop-cons steps i record { 0 = 0 }) refl

  -- all steps are put
  pub put_all : (steps : List StepId) (i : ℕ) (times before : List ℤ) → length steps ≤ i
      → put_at t' (drop i steps) times ≡ put_at t' steps before → times ≡ put_at t steps before
  put_all steps i times before le rest =
      sym (ap (λ (xs : List StepId). put_at t' xs times) (drop_all i steps le)) ∙ rest
      ∙ ap (λ (x : ℤ). put_at x steps before) same

  -- all places have begun
  pub begun_all : (left all : List ℕ) (before : List ℤ) → left ≡ [] → begun_at t' left since ≡ begun_at t' all before
      → since ≡ begun_at t all before
  begun_all left all before none rest =
      sym (ap (λ (places : List ℕ). begun_at t' places since) none) ∙ rest ∙ ap (λ (x : ℤ). begun_at x all before) same

-- an instant set keeps them instants
pub begun_instants : (t t' : ℤ) (since : List ℤ) (s : ℕ) → t' ≡ t → pos 0 ≤ℤ t → t ≤ℤ pos (2 ^ 62) → AreInstants since
    → AreInstants (slice_set since s t')
begun_instants t t' since s same low high instants k = elim (cases_at since s k t') [
  | inl put ↦ (let is = put ∙ same in
      (subst (λ (x : ℤ). pos 0 ≤ℤ x) (sym is) low, subst (λ (x : ℤ). x ≤ℤ pos (2 ^ 62)) (sym is) high))
  | inr other ↦ (
    subst (λ (x : ℤ). pos 0 ≤ℤ x) (sym other) (instants k).0,
    subst (λ (x : ℤ). x ≤ℤ pos (2 ^ 62)) (sym other) (instants k).1,
  )
]
  where
    cases_at : (since : List ℤ) (s k : ℕ) (v : ℤ)
        → (number (slice_set since s v) k ≡ v) ⊎ (number (slice_set since s v) k ≡ number since k)
    cases_at [] s k v = inr refl
    cases_at (x ∷ xs) zero zero v = inl refl
    cases_at (x ∷ xs) zero (suc k) v = inr refl
    cases_at (x ∷ xs) (suc s) zero v = inr refl
    cases_at (x ∷ xs) (suc s) (suc k) v = cases_at xs s k v
