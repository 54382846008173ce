-- What was saved under a number, and is gone back to.
use Rattle.std.proofs.Common.{◌≡◌, ◌∙◌, refl, sym, subst, arith, ℕ, zero, suc, ◌<◌, ◌≤◌, List, [], ◌∷◌, ◌++◌, length, get_or, Option, None, Some}
use Rattle.std.specs.List.{slice_get, slice_set}
use Rattle.std.proofs.lemmas.Option.{slice_get_read}
use Rattle.sfc_replay.specs.sfc_debug.Histories.{CommandHistory}
use Rattle.sfc_replay.specs.sfc_debug.Steered.{Steered}
use Rattle.sfc_c.specs.declared.saved.Saved.{Saved}
use Rattle.sfc_c.specs.Resources.{IsPast, IsSaved}
use Rattle.sfc_c.proofs.Slots.{push_here, set_here}

module _ (s : Steered) (h : CommandHistory) (slots : List Saved) (n : ℕ) where
  -- it was put there, or behind all
  pub put_there : (saved : Saved) → n < length slots → IsPast s h saved → IsSaved s h (slice_get (slice_set slots n saved) n)
  put_there saved less is = subst (λ (o : Option Saved). IsSaved s h o) (sym (set_here slots n saved less)) is

  pub pushed_there : (saved : Saved) → n ≡ length slots → IsPast s h saved → IsSaved s h (slice_get (slots ++ saved ∷ []) n)
  pushed_there saved e is = subst (λ (o : Option Saved). IsSaved s h o) (sym (push_here slots n saved e)) is

  -- what is read there is what was saved
  pub past_there : (saved : Saved) → n < length slots → saved ≡ get_or slots n saved → IsSaved s h (slice_get slots n) → IsPast s h saved
  past_there saved less is there =
      subst (λ (o : Option Saved). IsSaved s h o) (slice_get_read slots (length slots) n saved refl less is) there

-- behind all nothing was
pub nothing_there : (s : Steered) (h : CommandHistory) (slots : List Saved) (n : ℕ) → length slots ≤ n → IsSaved s h (slice_get slots n) → ⊥
nothing_there s h [] n le there = there
nothing_there s h (saved ∷ slots) zero le there = grind arith
nothing_there s h (saved ∷ slots) (suc n) le there = nothing_there s h slots n (omega arith) there

-- where one is read there, something was
pub something_there : (slots : List Saved) (n : ℕ) (saved : Saved) → n < length slots → saved ≡ get_or slots n saved → slice_get slots n ≡ None → ⊥
something_there slots n saved less is none =
    let e : Some saved ≡ None = sym (slice_get_read slots (length slots) n saved refl less is) ∙ none in absurd (cc)
