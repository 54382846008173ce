-- Deriving within limits.
use Rattle.std.specs.Prelude.{ℕ, zero, suc}
use Rattle.sfc_tokens.specs.Tokens.{Kinds}
use Rattle.sfc_text.specs.Rules.{Rule, Derives}
use Rattle.sfc_text.specs.Sorts.{Sort, Sorted}
use Rattle.sfc_text.specs.Grammar.{nested}

-- how deep parentheses, prefix operators and IF statements may nest, and how many operators an expression may have (our choice)
pub record Limits : Type 0 where
  pub depth : ℕ
  pub operators : ℕ

abbrev pub ours : Limits
ours = record { depth = 64; operators = 256 }

-- one of a sort, nested at most so deep
unfoldable pub Within : ℕ → ℕ → (s : Sort) → Kinds → Sorted s → Kinds → Type 0
Within n zero s ts x rest = ⊥
Within n (suc depth) s ts x rest = Derives n (Within n depth) (nested s) ts x rest

-- what stands in ts before rest is an x by the rule, within the limits
abbrev pub Derived : {X : Type 0} → Limits → Rule X → Kinds → X → Kinds → Type 0
Derived limits rule ts x rest = Derives limits.operators (Within limits.operators limits.depth) rule ts x rest
