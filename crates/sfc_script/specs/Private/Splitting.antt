-- Lines, with their ends and without.
use Rattle.std.specs.Prelude.{◌≡◌, ℕ, Bool, false, List, [], ◌∷◌, ◌++◌}
use Rattle.sfc_script.specs.Lines.{is_blank, lines_of}

abbrev pub begins_with_blank : List ℕ → Bool
begins_with_blank [] = false
begins_with_blank (b ∷ bytes) = is_blank b

-- the bytes are this line with its end, whatever follows
abbrev pub IsLine : List ℕ → List ℕ → Type 0
IsLine bytes line = (rest : List ℕ) → lines_of (bytes ++ rest) ≡ line ∷ lines_of rest
