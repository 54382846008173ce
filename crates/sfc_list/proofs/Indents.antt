-- Indentation, a level at a time.
use Rattle.std.proofs.Common.{◌≡◌, ℕ, zero, suc, ◌-◌, ◌<◌, ◌≤◌, ◌++◌, [], codes, refl, ap, arith}
use Rattle.sfc_list.specs.Layout.{indent}

pub nothing : (level : ℕ) → level ≤ 0 → indent level ≡ []
nothing zero le = refl
nothing (suc level) le = absurd (omega arith)

pub deeper : (level : ℕ) → 0 < level → indent level ≡ codes "  " ++ indent (level - 1)
deeper zero lt = absurd (omega arith)
deeper (suc level) lt = ap (λ n. codes "  " ++ indent n) (omega arith)
