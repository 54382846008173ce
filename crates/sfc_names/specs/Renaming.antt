-- What gets another name.
use Rattle.std.specs.Prelude.{ℕ, List, ⊤}
use Rattle.sfc_names.specs.Pieces.{renamed}
use Rattle.sfc_names.specs.Sameness.{HaveSameTokensButNames}
use Rattle.sfc_names.specs.declared.renaming.Renaming.{Renaming}
use Rattle.sfc_names.specs.declared.renaming.Renaming.TheVariants.{Names, Refused}

-- with the name at these places the text has the same tokens, but for names
abbrev pub IsRenaming : List ℕ → List ℕ → Renaming → Type 0
IsRenaming text name (Names spans) = HaveSameTokensButNames text (renamed text 0 spans.items name)
IsRenaming text name (Refused fault) = ⊤
