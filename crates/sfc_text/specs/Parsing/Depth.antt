-- Reading within limits.
use Rattle.std.specs.Prelude.{ℕ, zero, suc, Err}
use Rattle.sfc_tokens.specs.Tokens.{Kinds}
use Rattle.sfc_text.specs.Rules.{Rule}
use Rattle.sfc_text.specs.Grammar.{nested}
use Rattle.sfc_text.specs.Sorts.{Sort, Sorted}
use Rattle.sfc_text.specs.Parsing.Reading.{Read, TooDeep, read}

-- one of a sort, with so many levels left, and at most n counted in each expression
unfoldable pub inside : ℕ → ℕ → (s : Sort) → Kinds → Read (Sorted s × Kinds)
inside n zero s ts = Err TooDeep
inside n (suc left) s ts = read n (inside n left) (nested s) ts

-- reading with so many levels left, and 256 operators in each expression
abbrev pub at : {X : Type 0} → ℕ → Rule X → Kinds → Read (X × Kinds)
at left rule ts = read 256 (inside 256 left) rule ts

abbrev pub reads : {X : Type 0} → Rule X → Kinds → Read (X × Kinds)
reads rule ts = at 64 rule ts
