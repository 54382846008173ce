-- Lines of numbered places, one after the other.
use Rattle.std.proofs.Common.{◌≡◌, ◌<◌, ◌≤◌, ◌+◌, ◌-◌, ℕ, zero, suc, List, [], ◌++◌, Bool, length, arith, ap, refl, ◌∙◌}
use Rattle.std.specs.List.{flat_map, range_with_len}
use Rattle.sfc_plant.specs.Plants.{PlantData}
use Rattle.sfc_events.specs.declared.command.Answer.{Answer}
use Rattle.sfc_events.specs.declared.command.Answer.TheVariants.{Done, Scanned, Value}
use Rattle.sfc_events.specs.declared.instance_set.InstanceSet.{InstanceSet}
use Rattle.sfc_debug.specs.sfc_instance.Life.{InstanceState}
use Rattle.sfc_output.specs.Commands.{program_lines, scan_end_in, written_line}

module _ (line : ℕ → List ℕ) where
  -- line k, and those behind it
  pub lines_head : (k n : ℕ) → k < n → flat_map line (range_with_len k (n - k)) ≡ line k ++ flat_map line (range_with_len (k + 1) (n - (k + 1)))
  lines_head k n h =
      let e : n - k ≡ suc (n - (k + 1)) = omega (arith, h) in
      ap (λ (m : ℕ). flat_map line (range_with_len k m)) e

  -- there are no more
  pub lines_end : (k n : ℕ) → n ≤ k → flat_map line (range_with_len k (n - k)) ≡ []
  lines_end k n h =
      let none : n - k ≡ 0 = omega (arith, h) in
      ap (λ (m : ℕ). flat_map line (range_with_len k m)) none

  -- where each line is blank, so are all
  pub lines_blank : (k n : ℕ) → ((j : ℕ) → line j ≡ []) → flat_map line (range_with_len k n) ≡ []
  lines_blank k zero blank = refl
  lines_blank k (suc n) blank = ap (λ (xs : List ℕ). xs ++ flat_map line (range_with_len (k + 1) n)) (blank k) ∙ lines_blank (k + 1) n blank

-- an answer that isn't one to a scan tells of no instance
pub untold : (plant : PlantData) (instance_state : ℕ → InstanceState) (answer : Answer)
    → ((ran faulted skipped : InstanceSet) (overruns : ℕ) (hit : Bool) → answer ≡ Scanned ran faulted skipped overruns hit → ⊥)
    → program_lines plant instance_state answer ≡ []
untold plant instance_state Done other =
    lines_blank (λ k. written_line plant instance_state k (scan_end_in Done k)) 0 (length plant.instances) (λ j. refl)
untold plant instance_state (Value v) other =
    lines_blank (λ k. written_line plant instance_state k (scan_end_in (Value v) k)) 0 (length plant.instances) (λ j. refl)
untold plant instance_state (Scanned ran faulted skipped overruns hit) other = absurd (other ran faulted skipped overruns hit refl)
