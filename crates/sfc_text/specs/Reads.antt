-- What a text is read as: a whole one, and one that is an expression.
use Rattle.std.specs.Prelude.{◌≡◌, ◌⊎◌, List, [], ℕ, Bool, true, false, Ok, Err}
use Rattle.sfc_events.specs.declared.read_error.ReadErrorKind.{ReadErrorKind}
use Rattle.sfc_events.specs.declared.read_error.ReadErrorKind.TheVariants.{Syntax, TooDeep}
use Rattle.sfc_events.specs.ReadErrors.{Read}
use Rattle.sfc_tokens.specs.Tokens.{Kinds}
use Rattle.sfc_tokens.specs.Texts.{TextLexes}
use Rattle.sfc_text.specs.Trees.{Tree, SourceTree}
use Rattle.sfc_text.specs.Rules.{Rule}
use Rattle.sfc_text.specs.Grammar.{expression, source}
use Rattle.sfc_text.specs.Limits.{Limits, ours, Derived}

-- the tokens are one thing by the rule within the limits, and nothing follows it
abbrev pub IsWhole : {X : Type 0} → Rule X → Limits → Kinds → X → Type 0
IsWhole rule limits ts tree = Derived limits rule ts tree []

-- An outcome of a text by a rule: the tree that its tokens derive within our limits; that they derive none whatever the limits; that
-- they derive none within our limits; or the first fault of its tokens.
pub data Outcome {X : Type 0} (rule : Rule X) : List ℕ → Read X → Type 0 where
  tree : {text : List ℕ} {ts : Kinds} {t : X} → TextLexes text (Ok ts) → IsWhole rule ours ts t → Outcome rule text (Ok t)
  syntax_error : {text : List ℕ} {ts : Kinds} → TextLexes text (Ok ts)
      → ((limits : Limits) (t : X) → IsWhole rule limits ts t → ⊥) → Outcome rule text (Err Syntax)
  too_deep : {text : List ℕ} {ts : Kinds} → TextLexes text (Ok ts)
      → ((t : X) → IsWhole rule ours ts t → ⊥) → Outcome rule text (Err TooDeep)
  fault : {text : List ℕ} {kind : ReadErrorKind} → TextLexes text (Err kind) → Outcome rule text (Err kind)

-- the tokens are a source within the limits, and the outcomes of a text as a source
abbrev pub IsSource : Limits → Kinds → SourceTree → Type 0
IsSource limits ts s = IsWhole source limits ts s

abbrev pub TextReads : List ℕ → Read SourceTree → Type 0
TextReads text outcome = Outcome source text outcome

-- the tokens are one expression within the limits, and the outcomes of a text as an expression
abbrev pub IsExpression : Limits → Kinds → Tree → Type 0
IsExpression limits ts e = IsWhole expression limits ts e

abbrev pub ExpressionReads : List ℕ → Read Tree → Type 0
ExpressionReads text outcome = Outcome expression text outcome

-- tokens that derive no tree
abbrev pub is_refusal : ReadErrorKind → Bool
is_refusal Syntax = true
is_refusal TooDeep = true
is_refusal _ = false

-- one outcome, or two of those that a text without a tree may have
abbrev pub AreOne : {X : Type 0} → Read X → Read X → Type 0
AreOne (Ok s) (Ok t) = s ≡ t
AreOne (Err j) (Err k) = (j ≡ k) ⊎ ((is_refusal j ≡ true) × (is_refusal k ≡ true))
AreOne _ _ = ⊥
