-- Steps that a scan neither leaves nor activates keep their times.
use Rattle.std.proofs.Common.{◌≡◌, inl, inr, ℕ, ◌<◌, ◌||◌, ◌&&◌, not, Bool, true, false, cond, List, refl, sym, ap, ◌∙◌, ℤ, ◌-ℤ◌}
use Rattle.sfc_flags.specs.Flags.{flag}
use Rattle.sfc_tables.specs.Tables.{Tabled}
use Rattle.sfc_evolve.specs.Clearing.{step_count}
use Rattle.sfc_evolve.specs.Evolution.{leaves}
use Rattle.sfc_evolve.specs.Private.Keeping.{number}
use Rattle.sfc_evolve.proofs.Looks.{bool_cases}
use Rattle.sfc_evolve.proofs.Next.{HasMoved}

-- it keeps its times, and isn't active
pub record Kept (since held_times : List ℤ) (active' : List Bool) (since' held_times' : List ℤ) (s : ℕ) : Type 0 where
  pub since_is : number since s ≡ number since' s
  pub time_is : number held_times s ≡ number held_times' s
  pub inactive : flag active' s ≡ false

and_false : (b : Bool) → (b && false) ≡ false
and_false true = refl
and_false false = refl

pub kept : (tables : Tabled) (active : List Bool) (since held_times : List ℤ) (t : ℤ) (cleared' on' active' : List Bool)
    (since' held_times' : List ℤ) → HasMoved tables active since held_times t cleared' on' active' since' held_times'
    → ((s : ℕ) → leaves tables cleared' s ≡ true → flag active s ≡ true)
    → (s : ℕ) → s < step_count tables → flag active s ≡ false → flag on' s ≡ false → Kept since held_times active' since' held_times' s
kept tables active since held_times t cleared' on' active' since' held_times' moved left s lt off quiet =
    let stays : leaves tables cleared' s ≡ false = elim (bool_cases (leaves tables cleared' s)) [
      | inl e ↦ absurd (let bad : true ≡ false = sym (left s e) ∙ off in cc)
      | inr e ↦ e
    ] in
    record {
      since_is = sym (moved.since_is s lt ∙ ap (λ b. cond b t (number since s)) quiet);
      time_is = sym (moved.held_times_are s lt ∙ ap (λ b. cond b (t -ℤ number since s) (number held_times s)) stays);
      inactive = moved.active_is s lt
          ∙ (λ i. (not (leaves tables cleared' s) && off i) || quiet i)
          ∙ ap (λ b. b || false) (and_false (not (leaves tables cleared' s)));
    }
