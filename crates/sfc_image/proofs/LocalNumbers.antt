-- The numbers of an instance's locals.
use Rattle.std.proofs.Common.{◌≡◌, ◌↔◌, ℕ, ◌+◌, ◌-◌, ◌&&◌, nat_le, nat_lt, cond, true, arith, length, Some, None}
use Rattle.std.proofs.lemmas.Bool.Decides.{nat_tests}
use Rattle.sfc_base.specs.declared.references.LocalId.{LocalId}
use Rattle.sfc_base.specs.declared.references.Variable.TheVariants.{Local}
use Rattle.sfc_base.specs.declared.ids.ProgId.{ProgId}
use Rattle.sfc_plant.specs.Plants.{PlantData}
use Rattle.sfc_plant.specs.Finding.{first_local, instance_locals}
use Rattle.sfc_image.specs.Values.{is_local_of}
use Rattle.sfc_image.specs.Environments.{number_of}

number_here : (a n i : ℕ) → (nat_le a i && nat_lt i (a + n)) ≡ true → cond (nat_lt (i - a) n) (Some (a + (i - a))) None ≡ Some i
number_here a n i e = grind (arith, nat_tests)

here_by_number : (a n k i : ℕ) → cond (nat_lt k n) (Some (a + k)) None ≡ Some i → (nat_le a i && nat_lt i (a + n)) ≡ true
here_by_number a n k i e = grind (arith, nat_tests)

pub local_numbers : (plant : PlantData) (p : ProgId) (i : ℕ)
    → (is_local_of plant p i ≡ true) ↔ ((id : LocalId) × (number_of plant p (Local id) ≡ Some i))
local_numbers plant p i = (
  (λ e. (record { 0 = i - first_local plant p }, number_here (first_local plant p) (length (instance_locals plant p)) i e)),
  λ h. here_by_number (first_local plant p) (length (instance_locals plant p)) h.0.0 i h.1,
)
