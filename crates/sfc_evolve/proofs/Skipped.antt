-- A pass over candidates clears what the pass over all transitions does.
use Rattle.std.proofs.Common.{◌≡◌, inl, inr, ℕ, zero, suc, ◌+◌, ◌-◌, ◌*◌, ◌<◌, ◌≤◌, ◌&&◌, not, Bool, true, false, cond}
use Rattle.std.proofs.Common.{List, [], ◌∷◌, length, get_or, drop, arith, refl, sym, ◌∙◌, ap, subst}
use Rattle.std.specs.Prelude.{slice_set}
use Rattle.std.specs.List.{list_any}
use Rattle.std.proofs.lemmas.List.Sums.{sum_by-cons}
use Rattle.sfc_base.specs.declared.references.StepId.{StepId}
use Rattle.sfc_flags.specs.Flags.{flag, set_from}
use Rattle.sfc_base.specs.declared.ids.TransitionId.{TransitionId}
use Rattle.sfc_tables.specs.Tables.{Sides, sides_at}
use Rattle.sfc_evolve.specs.Marks.{marked}
use Rattle.sfc_evolve.specs.Clearing.{preceding_of, is_enabled, is_cleared, cleared_in}
use Rattle.sfc_evolve.specs.Private.Keeping.{clearing_work}
use Rattle.sfc_evolve.specs.Private.Proposing.{at_places}
use Rattle.sfc_evolve.proofs.Looks.{bool_cases}
use Rattle.sfc_evolve.proofs.Next.{set_where, and_left}

abbrev first : TransitionId
first = record { 0 = 0 }

same_set : (flags : List Bool) (p : ℕ) → flag flags p ≡ false → slice_set flags p false ≡ flags
same_set [] p e = refl
same_set (f ∷ flags) zero e = ap (λ b. b ∷ flags) (sym e)
same_set (f ∷ flags) (suc p) e = ap (λ r. f ∷ r) (same_set flags p e)

not_cleared : (x : ℕ → Bool) (condition : Bool) (preceding : List StepId) (used : List Bool) → is_enabled x preceding ≡ false
    → is_cleared x condition preceding used ≡ false
not_cleared x condition preceding used e = rw e refl

module _ (sides : List Sides) (x : ℕ → Bool) (conditions : List Bool) where
  -- only transitions that are enabled have their flags
  abbrev OnlyEnabled : List Bool → Type 0
  OnlyEnabled cleared = (tr : ℕ) → is_enabled x (preceding_of sides tr) ≡ false → flag cleared tr ≡ false

  still_only : (tr : TransitionId) (used cleared : List Bool) → OnlyEnabled cleared
      → OnlyEnabled (slice_set cleared tr.0 (is_cleared x (flag conditions tr.0) (sides_at sides tr).preceding used))
  still_only tr used cleared only s off =
      let preceding = (sides_at sides tr).preceding in
      let go = is_cleared x (flag conditions tr.0) preceding used in
      elim (bool_cases (flag (slice_set cleared tr.0 go) s)) [
        | inr unset ↦ unset
        | inl on ↦ elim (set_where cleared go tr.0 s on) [
          | inl here ↦ absurd (
              let enabled : is_enabled x (preceding_of sides s) ≡ true =
              subst (λ (k : ℕ). is_enabled x (preceding_of sides k) ≡ true) here.0
              (and_left (is_enabled x preceding) (flag conditions tr.0)
              (and_left (is_enabled x preceding && flag conditions tr.0)
              (not (list_any (λ (step : StepId). flag used step.0) preceding)) here.1)) in
              let bad : true ≡ false = sym enabled ∙ off in
              cc)
          | inr there ↦ absurd (let bad : true ≡ false = sym there ∙ only s off in cc)
        ]
      ]

  pub skipped : (whole : List TransitionId) (k : ℕ) (ranked : List TransitionId) (candidates used cleared : List Bool)
      → ((i : ℕ) → i < length ranked → get_or ranked i first ≡ get_or whole (k + i) first)
      → length candidates ≡ length ranked
      → ((i : ℕ) → i < length ranked → is_enabled x (preceding_of sides (get_or ranked i first).0) ≡ true → flag candidates i ≡ true)
      → OnlyEnabled cleared
      → cleared_in sides x conditions (at_places whole (set_from k candidates)) used cleared
      ≡ cleared_in sides x conditions ranked used cleared
  skipped whole k [] [] used cleared each long proposed only = refl
  skipped whole k [] (b ∷ candidates) used cleared each long proposed only = absurd (omega (arith, long))
  skipped whole k (tr ∷ ranked) [] used cleared each long proposed only = absurd (omega (arith, long))
  skipped whole k (tr ∷ ranked) (true ∷ candidates) used cleared each long proposed only =
      let preceding = (sides_at sides tr).preceding in
      let go = is_cleared x (flag conditions tr.0) preceding used in
      let e : k + 0 ≡ k = omega arith in
      let here : get_or whole k first ≡ tr = ap (λ j. get_or whole j first) (sym e) ∙ sym (each 0 (omega arith)) in
      ap (λ (t : TransitionId). cleared_in sides x conditions (t ∷ at_places whole (set_from (suc k) candidates)) used cleared) here
      ∙ skipped whole (suc k) ranked candidates (cond go (marked preceding used) used) (slice_set cleared tr.0 go)
      (λ i lt. let n : k + suc i ≡ suc k + i = omega arith in each (suc i) (omega arith) ∙ ap (λ j. get_or whole j first) n)
      (omega (arith, long)) (λ i lt on. proposed (suc i) (omega arith) on) (still_only tr used cleared only)
  skipped whole k (tr ∷ ranked) (false ∷ candidates) used cleared each long proposed only =
      let preceding = (sides_at sides tr).preceding in
      let go = is_cleared x (flag conditions tr.0) preceding used in
      let idle : is_enabled x preceding ≡ false =
      elim (bool_cases (is_enabled x preceding)) [
        | inl on ↦ absurd (let bad : false ≡ true = proposed 0 (omega arith) on in cc)
        | inr off ↦ off
      ] in
      let off : go ≡ false = not_cleared x (flag conditions tr.0) preceding used idle in
      skipped whole (suc k) ranked candidates used cleared
      (λ i lt. let n : k + suc i ≡ suc k + i = omega arith in each (suc i) (omega arith) ∙ ap (λ j. get_or whole j first) n)
      (omega (arith, long)) (λ i lt on. proposed (suc i) (omega arith) on) only
      ∙ ap (λ c. cleared_in sides x conditions ranked used c) (sym (same_set cleared tr.0 (only tr.0 idle)))
      ∙ (λ i. cleared_in sides x conditions ranked (cond (sym off i) (marked preceding used) used) (slice_set cleared tr.0 (sym off i)))

-- ---- work

module _ (sides : List Sides) where
  abbrev share : TransitionId → ℕ
  share tr = 1 + 3 * length (sides_at sides tr).preceding

  pub clearing_covers : (ranked : List TransitionId) → length ranked ≤ clearing_work sides ranked
  clearing_covers [] = omega arith
  clearing_covers (tr ∷ ranked) = omega (arith, clearing_covers ranked, sum_by-cons share tr ranked)

  -- the work from place `at` on covers that at place j and after it
  pub clearing_left : (ranked : List TransitionId) (at j : ℕ) (d : TransitionId) → at ≤ j → j < length ranked
      → suc j - at + 3 * length (sides_at sides (get_or ranked j d)).preceding + clearing_work sides (drop (suc j) ranked)
      ≤ clearing_work sides (drop at ranked)
  clearing_left [] at j d le lt = absurd (omega arith)
  clearing_left (tr ∷ ranked) zero zero d le lt = omega (arith, sum_by-cons share tr ranked)
  clearing_left (tr ∷ ranked) zero (suc j) d le lt =
      omega (arith, clearing_left ranked 0 j d (omega arith) (omega arith), sum_by-cons share tr ranked)
  clearing_left (tr ∷ ranked) (suc at) zero d le lt = absurd (omega arith)
  clearing_left (tr ∷ ranked) (suc at) (suc j) d le lt = omega (arith, clearing_left ranked at j d (omega arith) (omega arith))
