-- Tests that are gone through one after the other.
use Rattle.std.proofs.Common.{◌≡◌, ◌∙◌, ap, Bool, false, if◌then◌else◌}

-- one that fails
pub skip : {X : Type 0} {t : Bool} (x : X) {y z : X} → t ≡ false → y ≡ z → (if t then x else y) ≡ z
skip x {y = y} e f = ap (λ s. if s then x else y) e ∙ f
