-- On-delays that keep the same past are equal.
use denote.Struct.Props.{props}
use mathlib.Core.HLevel.{is_prop→PathP}
use Rattle.std.proofs.Common.{◌≡◌, ◌^◌, Bool, true, false, cond, ℤ, pos, ◌≤ℤ◌, Option, Some, None, refl, sym, ap, ◌∙◌}
use Rattle.sfc_timers.specs.declared.on_delay.OnDelay.{OnDelay}
use Rattle.sfc_timers.specs.Past.{on_delay_in}

low_prop : (u : ℤ) → IsProp (pos 0 ≤ℤ u)
low_prop u = hlevel props

high_prop : (u : ℤ) → IsProp (u ≤ℤ pos (2 ^ 62))
high_prop u = hlevel props

rest_prop : (r : Bool) (u : ℤ) → IsProp (r ≡ false → u ≡ pos 0)
rest_prop r u = hlevel props

abbrev past_by : Bool → ℤ → ℤ → Option (ℤ × ℤ)
past_by r p u = cond r (Some (p, u)) None

record AreSame (r s : Bool) (p q u v : ℤ) : Type 0 where
  running : r ≡ s
  preset : p ≡ q
  start : u ≡ v

parts : (r s : Bool) (p q u v : ℤ) → past_by r p u ≡ past_by s q v → (r ≡ false → u ≡ pos 0) → (s ≡ false → v ≡ pos 0)
    → (r ≡ false → p ≡ pos 0) → (s ≡ false → q ≡ pos 0) → AreSame r s p q u v
parts true true p q u v e h k m n =
    let pair : (p, u) ≡ (q, v) = cc in record { running = refl; preset = ap (λ (x : ℤ × ℤ). x.0) pair; start = ap (λ (x : ℤ × ℤ). x.1) pair }
parts true false p q u v e h k m n = absurd cc
parts false true p q u v e h k m n = absurd cc
parts false false p q u v e h k m n = record { running = refl; preset = m refl ∙ sym (n refl); start = h refl ∙ sym (k refl) }

pub alike : (a b : OnDelay) → on_delay_in a ≡ on_delay_in b → a ≡ b
unfolding on_delay_in
alike a b e =
    let same = parts a.is_running b.is_running a.preset b.preset a.start b.start e a.no_start b.no_start a.no_preset b.no_preset in
    λ i. record {
      is_running = same.running i;
      start = same.start i;
      preset = same.preset i;
      start_low = is_prop→PathP (λ j. pos 0 ≤ℤ same.start j) (λ j. low_prop (same.start j)) a.start_low b.start_low i;
      start_high = is_prop→PathP (λ j. same.start j ≤ℤ pos (2 ^ 62)) (λ j. high_prop (same.start j)) a.start_high b.start_high i;
      no_start = is_prop→PathP (λ j. same.running j ≡ false → same.start j ≡ pos 0)
          (λ j. rest_prop (same.running j) (same.start j)) a.no_start b.no_start i;
      no_preset = is_prop→PathP (λ j. same.running j ≡ false → same.preset j ≡ pos 0)
          (λ j. rest_prop (same.running j) (same.preset j)) a.no_preset b.no_preset i;
    }
