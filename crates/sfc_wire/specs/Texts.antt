-- Texts of messages.
use Rattle.std.specs.Prelude.{◌≡◌, ℕ, false, List, [], ◌∷◌, Some, IsUtf8}
use Rattle.sfc_frames.specs.Serving.{Puts}
use Rattle.serde_json.specs.Data.{Data}
use Rattle.serde_json.specs.Read.{read}
use Rattle.serde_json.specs.Written.{compact_text, has_float}

-- the text is JSON, and says this
abbrev pub Reads : List ℕ → Data → Type 0
Reads text message = IsUtf8 text × (read text ≡ Some message)

-- the text was written for this; it is exact where no number is a float
pub record IsWritten (message : Data) (text : List ℕ) : Type 0 where
  pub utf8 : IsUtf8 text
  pub reads : read text ≡ Some message
  pub exact : has_float message ≡ false → text ≡ compact_text message

-- such a text, and no other
abbrev pub IsOne : (List ℕ → Type 0) → List (List ℕ) → Type 0
IsOne IsSuch [] = ⊥
IsOne IsSuch (text ∷ []) = IsSuch text
IsOne IsSuch (text ∷ next ∷ others) = ⊥

-- the text of this message was put behind other texts
abbrev pub PutsMessage : List (List ℕ) → List (List ℕ) → Data → Type 0
PutsMessage before behind message = Puts before behind (IsOne (IsWritten message))
