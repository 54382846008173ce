-- A pass over a list that changes one element at a time.
use Rattle.std.proofs.Common.{◌≡◌, ℕ, ◌+◌, ◌<◌, ◌≤◌, List, length, get_or, arith, sym, subst, ◌∙◌, inl, inr}
use Rattle.std.specs.Prelude.{slice_set}
use Rattle.std.proofs.lemmas.Bool.{cases_lt}
use Rattle.std.proofs.lemmas.List.{get_or-set_same, get_or-set_other, get_or_default}

module _ {A : Type 0} where
  module _ (R : A → A → Type 0) (old now : List A) (place : ℕ) (e after : A) where
    pub next_done : place < length now → R (get_or now place e) after
        → ((k : ℕ) (d : A) → k < place → R (get_or old k d) (get_or now k d))
        → ((k : ℕ) (d : A) → place ≤ k → get_or now k d ≡ get_or old k d)
        → (k : ℕ) (d : A) → k < place + 1 → R (get_or old k d) (get_or (slice_set now place after) k d)
    next_done lt step done rest k d le = elim (cases_lt k place) [
      | inl earlier ↦ (
          let apart : get_or (slice_set now place after) k d ≡ get_or now k d =
          get_or-set_other now place k after d (λ e. omega (arith, e)) in
          subst (R (get_or old k d)) (sym apart) (done k d earlier))
      | inr later ↦ (
          let here : k ≡ place = omega arith in
          let put : get_or (slice_set now place after) place d ≡ after = get_or-set_same now place after d lt in
          let was : get_or now place e ≡ get_or old place d = get_or_default now place e d lt ∙ rest place d (omega arith) in
          rw (here, put) (subst (λ x. R x after) was step))
    ]

    pub next_rest : ((k : ℕ) (d : A) → place ≤ k → get_or now k d ≡ get_or old k d)
        → (k : ℕ) (d : A) → place + 1 ≤ k → get_or (slice_set now place after) k d ≡ get_or old k d
    next_rest rest k d le =
        get_or-set_other now place k after d (λ e. omega (arith, e)) ∙ rest k d (omega arith)

  -- the same where the elements come from another list
  pub next_from : (R : A → A → Type 0) (from now : List A) (place : ℕ) (x after : A) → place < length from
      → length from ≡ length now → x ≡ get_or from place x → R x after
      → ((k : ℕ) (d : A) → k < place → R (get_or from k d) (get_or now k d))
      → (k : ℕ) (d : A) → k < place + 1 → R (get_or from k d) (get_or (slice_set now place after) k d)
  next_from R from now place x after lt same is step done k d le = elim (cases_lt k place) [
    | inl earlier ↦ (
        let apart : get_or (slice_set now place after) k d ≡ get_or now k d =
        get_or-set_other now place k after d (λ e. omega (arith, e)) in
        subst (R (get_or from k d)) (sym apart) (done k d earlier))
    | inr later ↦ (
        let here : k ≡ place = omega arith in
        let put : get_or (slice_set now place after) place d ≡ after = get_or-set_same now place after d (omega arith) in
        rw (here, put) (subst (λ y. R y after) (is ∙ get_or_default from place x d lt) step))
  ]
