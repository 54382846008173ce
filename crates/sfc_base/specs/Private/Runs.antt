-- The longest run at the front.
use Rattle.std.specs.Prelude.{ℕ, List, [], ◌∷◌, if◌then◌else◌}
use Rattle.sfc_base.specs.declared.run.Alphabet.{Alphabet}
use Rattle.sfc_base.specs.Runs.{has}

-- the run at the front, and the rest
unfoldable pub run : Alphabet → List ℕ → List ℕ × List ℕ
run a [] = ([], [])
run a (b ∷ bs) = if has a b then (b ∷ (run a bs).0, (run a bs).1) else ([], b ∷ bs)
