-- What is said of the places of an outline. Each lies in its text; where a name is told, a name stands; and what is used is declared by
-- the same word.
use Rattle.std.specs.Prelude.{◌≡◌, ℕ, ◌-◌, ◌<◌, ◌≤◌, nat_le, nat_lt, Bool, ◌&&◌, List, Option, Some, None, true, length, take, drop, ⊤}
use Rattle.sfc_base.specs.Case.{same_word}
use Rattle.sfc_base.specs.Names.{IsName}
use Rattle.sfc_tokens.specs.declared.span.Span.{Span}
use Rattle.sfc_outline.specs.declared.entry.Entry.{Entry}
use Rattle.sfc_outline.specs.declared.mention.Declared.{Declared}
use Rattle.sfc_outline.specs.declared.mention.Mention.{Mention}

-- the bytes of a text from one place up to another one
abbrev pub bytes : List ℕ → Span → List ℕ
bytes text span = take (span.to - span.from) (drop span.from text)

-- a byte is one of these
abbrev pub holds : ℕ → Span → Bool
holds place span = nat_le span.from place && nat_lt place span.to

-- the text has these bytes, and there is one at least
abbrev pub LiesIn : List ℕ → Span → Type 0
LiesIn text span = (span.from < span.to) × (span.to ≤ length text)

-- a name stands there that isn't reserved (2.1.2)
abbrev pub IsNameAt : List ℕ → Span → Type 0
IsNameAt text span = LiesIn text span × IsName (bytes text span)

-- the name of something, if it has one, stands in it
abbrev pub IsNameIn : List ℕ → Span → Option Span → Type 0
IsNameIn text whole (Some name) = IsNameAt text name × (whole.from ≤ name.from) × (name.to ≤ whole.to)
IsNameIn text whole None = ⊤

-- what is said of an entry
pub record IsEntryOf (text : List ℕ) (entry : Entry) : Type 0 where
  pub lies : LiesIn text entry.span
  pub named : IsNameIn text entry.span entry.name

-- what a name means is declared by the same word, but for case
abbrev pub IsMeant : List ℕ → Span → Option Declared → Type 0
IsMeant text span (Some declared) = LiesIn text declared.name × (same_word (bytes text declared.name) (bytes text span) ≡ true)
IsMeant text span None = ⊤

-- what is said of a mention
pub record IsMentionOf (text : List ℕ) (mention : Mention) : Type 0 where
  pub named : IsNameAt text mention.span
  pub meant : IsMeant text mention.span mention.declared
