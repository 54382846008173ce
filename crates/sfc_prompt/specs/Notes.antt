-- Text that is put behind other text.
use Rattle.std.specs.Prelude.{◌≡◌, ℕ, List, ◌++◌}

abbrev pub Adds : List ℕ → List ℕ → Type 0
Adds before behind = (text : List ℕ) × (behind ≡ before ++ text)
