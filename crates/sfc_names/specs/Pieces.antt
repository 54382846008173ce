-- Pieces of texts, and names that stand there.
use Rattle.std.specs.Prelude.{◌≡◌, ℕ, ◌-◌, List, [], ◌∷◌, ◌++◌, length, take, drop, true, ⊤}
use Rattle.sfc_base.specs.Case.{same_word}
use Rattle.sfc_tokens.specs.declared.span.Span.{Span}
use Rattle.sfc_outline.specs.Places.{bytes}
use Rattle.sfc_names.specs.declared.meaning.Meaning.{Meaning}
use Rattle.sfc_names.specs.declared.meaning.Sense.{Sense}
use Rattle.sfc_names.specs.declared.meaning.Sense.TheVariants.{Named}

-- the bytes from one place up to another one
abbrev pub piece : List ℕ → ℕ → ℕ → List ℕ
piece text from to = take (to - from) (drop from text)

-- the same word stands at both places, but for case
abbrev pub IsSameWordAt : List ℕ → Span → Span → Type 0
IsSameWordAt text left right = same_word (bytes text left) (bytes text right) ≡ true

-- where a name is declared, the same word stands
abbrev pub IsSenseOf : List ℕ → Span → Sense → Type 0
IsSenseOf text span (Named declared) = IsSameWordAt text declared.name span
IsSenseOf text span _ = ⊤

abbrev pub IsMeaningIn : List ℕ → Meaning → Type 0
IsMeaningIn text meaning = IsSenseOf text meaning.span meaning.sense

-- a text from a place on, with another name at these places
unfoldable pub renamed : List ℕ → ℕ → List Span → List ℕ → List ℕ
renamed text from [] name = piece text from (length text)
renamed text from (span ∷ spans) name = piece text from span.from ++ (name ++ renamed text span.to spans name)
