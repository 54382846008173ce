-- Copies of programs, one after the other.
use Rattle.std.proofs.Common.{◌≡◌, inl, inr, ℕ, ◌+◌, ◌<◌, arith, List, length, get_or, slice_set, sym, ◌∙◌, subst}
use Rattle.std.proofs.lemmas.Bool.{cases_lt}
use Rattle.std.proofs.lemmas.Bool.Decides.{eqb_tells}
use Rattle.std.proofs.lemmas.List.{get_or-set_same, get_or-set_other, get_or_default, length-set}
use Rattle.sfc_plant.specs.Plants.{PlantData}
use Rattle.sfc_instance.specs.declared.program.Program.{Program}
use Rattle.sfc_instance.specs.Agreement.{IsFor}
use Rattle.sfc_instances.specs.Agreement.{AreFor}
use Rattle.sfc_instances.specs.Past.{tables_at}
use Rattle.sfc_instances.specs.Private.Copying.{Takes, AreTaken}

module _ (plant : PlantData) (now : List Program) (k : ℕ) (after : Program) (within : k < length now) where
  -- each is for the tables of its instance, also where one is replaced
  pub sizes_more : IsFor (tables_at plant k) after → AreFor plant now → AreFor plant (slice_set now k after)
  sizes_more here sizes j d lt = elim (eqb_tells k j) as (λ _. IsFor (tables_at plant j) (get_or (slice_set now k after) j d)) [
    | inl w ↦
        subst (λ (m : ℕ). IsFor (tables_at plant m) (get_or (slice_set now k after) m d)) w.1
        (subst (IsFor (tables_at plant k)) (sym (get_or-set_same now k after d within)) here)
    | inr w ↦
        let long : length (slice_set now k after) ≡ length now = length-set now k after in
        subst (IsFor (tables_at plant j)) (sym (get_or-set_other now k j after d (λ e. w.1 (sym e)))) (sizes j d (omega arith))
  ]

  -- one more is taken
  pub taken_more : (from : List Program) (x : Program) → k < length from → x ≡ get_or from k x → Takes plant k x after
      → AreTaken plant k from now → AreTaken plant (k + 1) from (slice_set now k after)
  taken_more from x there is here taken j d lt =
      elim (eqb_tells k j) as (λ _. Takes plant j (get_or from j d) (get_or (slice_set now k after) j d)) [
        | inl w ↦
            let was : x ≡ get_or from k d = is ∙ get_or_default from k x d there in
            subst (λ (m : ℕ). Takes plant m (get_or from m d) (get_or (slice_set now k after) m d)) w.1
            (subst (Takes plant k (get_or from k d)) (sym (get_or-set_same now k after d within))
            (subst (λ (y : Program). Takes plant k y after) was here))
        | inr w ↦
            let other : j < k = below w.1 in
            subst (Takes plant j (get_or from j d)) (sym (get_or-set_other now k j after d (λ e. w.1 (sym e)))) (taken j d other)
      ]
    where
      below : (k ≡ j → ⊥) → j < k
      below apart = elim (cases_lt j k) [
        | inl less ↦ less
        | inr more ↦ absurd (apart (omega arith))
      ]
