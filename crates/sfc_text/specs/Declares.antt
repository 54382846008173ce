-- What a text declares with tokens of its own: names (2.1.2), priorities (2.6.3, 2.7.2) and locations (2.4.1.1). Each word here says
-- that a property P holds of the tokens of these.
use Rattle.std.specs.Prelude.{ℕ, List, Option, Some, None, All, ⊤}
use Rattle.sfc_tokens.specs.declared.token.TokenKind.{TokenKind}
use Rattle.sfc_tokens.specs.declared.token.TokenKind.TheVariants as token
use Rattle.sfc_text.specs.declared.tree.Configuration.{Configuration}
use Rattle.sfc_text.specs.declared.tree.Declaration.{Declaration}
use Rattle.sfc_text.specs.declared.tree.Instance.{Instance}
use Rattle.sfc_text.specs.declared.tree.Task.{Task}
use Rattle.sfc_text.specs.declared.tree.VariableBlock.{VariableBlock}
use Rattle.sfc_text.specs.declared.tree.VariableBlock.TheVariants as block
use Rattle.sfc_text.specs.Trees.{TransitionTree, ElementTree, AStep, ATransition, AnAction, ProgramTree, SourceTree}

abbrev pub OfName : (TokenKind → Type 0) → List ℕ → Type 0
OfName P name = P (token.Name name)

abbrev pub OfOptional : {X : Type 0} → (X → Type 0) → Option X → Type 0
OfOptional P None = ⊤
OfOptional P (Some x) = P x

pub record OfDeclaration (P : TokenKind → Type 0) (d : Declaration) : Type 0 where
  pub names : All (OfName P) d.names
  pub location : OfOptional (λ l. P (token.Location l)) d.location

-- externals name what is declared elsewhere
abbrev pub OfVariables : (TokenKind → Type 0) → VariableBlock → Type 0
OfVariables P (block.Local ds) = All (OfDeclaration P) ds
OfVariables P (block.External es) = ⊤

pub record OfTransition (P : TokenKind → Type 0) (t : TransitionTree) : Type 0 where
  pub name : OfOptional (OfName P) t.name
  pub priority : OfOptional (λ n. P (token.Integer n)) t.priority

abbrev pub OfElement : (TokenKind → Type 0) → ElementTree → Type 0
OfElement P (AStep s) = OfName P s.name
OfElement P (ATransition t) = OfTransition P t
OfElement P (AnAction a) = OfName P a.name

pub record OfProgram (P : TokenKind → Type 0) (p : ProgramTree) : Type 0 where
  pub name : OfName P p.name
  pub variables : All (OfVariables P) p.variables
  pub elements : All (OfElement P) p.elements

pub record OfTask (P : TokenKind → Type 0) (t : Task) : Type 0 where
  pub name : OfName P t.name
  pub priority : P (token.Integer t.priority)

pub record OfConfiguration (P : TokenKind → Type 0) (c : Configuration) : Type 0 where
  pub name : OfName P c.name
  pub resource : OfName P c.resource
  pub processor : OfName P c.processor
  pub globals : All (OfDeclaration P) c.globals
  pub tasks : All (OfTask P) c.tasks
  pub instances : All (λ (i : Instance). OfName P i.name) c.instances

pub record OfSource (P : TokenKind → Type 0) (s : SourceTree) : Type 0 where
  pub programs : All (OfProgram P) s.programs
  pub configuration : OfConfiguration P s.configuration
