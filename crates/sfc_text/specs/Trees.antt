-- What a tree says, apart from where its parts lie in memory, and where in the text.
use Rattle.std.specs.Prelude.{ℕ, ◌+◌, List, [], ◌∷◌, Option, map}
use Rattle.sfc_text.specs.declared.expression.Operator.{Operator}
use Rattle.sfc_text.specs.declared.expression.Variable.{Variable}
use Rattle.sfc_text.specs.declared.expression.Expression.{Expression}
use Rattle.sfc_text.specs.declared.expression.Expression.TheVariants as expression
use Rattle.sfc_text.specs.declared.statement.Statement.{Statement, Row_of-Branch, end_of-Branch, more_of-Branch}
use Rattle.sfc_text.specs.declared.statement.Statement.TheVariants as statement
use Rattle.sfc_text.specs.declared.statement.Branch.{Branch, Row_of-Statement, end_of-Statement, more_of-Statement}
use Rattle.sfc_text.specs.declared.statement.Branch.TheVariants as branch
use Rattle.sfc_text.specs.declared.tree.Action.{Action}
use Rattle.sfc_text.specs.declared.tree.Configuration.{Configuration}
use Rattle.sfc_text.specs.declared.tree.Element.{Element}
use Rattle.sfc_text.specs.declared.tree.Element.TheVariants as element
use Rattle.sfc_text.specs.declared.tree.Literal.{Literal}
use Rattle.sfc_text.specs.declared.tree.Program.{Program}
use Rattle.sfc_text.specs.declared.tree.Source.{Source}
use Rattle.sfc_text.specs.declared.tree.Step.{Step}
use Rattle.sfc_text.specs.declared.tree.Transition.{Transition}
use Rattle.sfc_text.specs.declared.tree.VariableBlock.{VariableBlock}

-- ---- expressions

-- an expression (3.3.1)
pub data Tree : Type 0 where
  Constant : Literal → Tree
  Named : Variable → Tree
  Not : Tree → Tree
  Minus : Tree → Tree
  Binary : Operator → Tree → Tree → Tree

abbrev pub tree_of : Expression → Tree
tree_of (expression.Literal l span) = Constant l
tree_of (expression.Variable v) = Named v
tree_of (expression.Not' span p e) = Not (tree_of e)
tree_of (expression.Minus' span p e) = Minus (tree_of e)
tree_of (expression.Binary' o span p a q b) = Binary o (tree_of a) (tree_of b)

-- how many operators there are
abbrev pub operators : Tree → ℕ
operators (Constant l) = 0
operators (Named v) = 0
operators (Not a) = 1 + operators a
operators (Minus a) = 1 + operators a
operators (Binary o a b) = 1 + (operators a + operators b)

-- ---- statements

-- statements one after the other (3.3.2), and the branches of IF statements
pub data Block : Type 0 where
  Nothing : Block
  Assign : Variable → Tree → Block → Block
  -- the branches, and the statements behind END_IF
  If : Block → Block → Block
  -- a branch with a condition, and the branches behind it
  When : Tree → Block → Block → Block
  -- an ELSE branch, and the branches behind it
  Otherwise : Block → Block → Block

-- a block and then another
abbrev pub append : Block → Block → Block
append Nothing c = c
append (Assign v e b) c = Assign v e (append b c)
append (If branches b) c = If branches (append b c)
append (When e body b) c = When e body (append b c)
append (Otherwise body b) c = Otherwise body (append b c)

abbrev mutual
  -- a statement before others
  pub before : Statement → Block → Block
  before (statement.Assign v e span) b = Assign v (tree_of e) b
  before (statement.If' shape branches span) b = If (row_branches branches) b

  pub row_branches : {n : _} → Row_of-Branch n → Block
  row_branches end_of-Branch = Nothing
  row_branches (more_of-Branch r rest) = beside r (row_branches rest)

  -- a branch before others
  pub beside : Branch → Block → Block
  beside (branch.When' e shape body) b = When (tree_of e) (row_statements body) b
  beside (branch.Otherwise' shape body) b = Otherwise (row_statements body) b

  pub row_statements : {n : _} → Row_of-Statement n → Block
  row_statements end_of-Statement = Nothing
  row_statements (more_of-Statement s rest) = before s (row_statements rest)

abbrev pub block_of : List Statement → Block
block_of [] = Nothing
block_of (s ∷ ss) = before s (block_of ss)

abbrev pub branches_of : List Branch → Block
branches_of [] = Nothing
branches_of (r ∷ rs) = beside r (branches_of rs)

-- ---- charts

-- a transition (2.6.3)
pub record TransitionTree : Type 0 where
  pub name : Option (List ℕ)
  pub priority : Option ℕ
  pub preceding : List (List ℕ)
  pub following : List (List ℕ)
  pub condition : Tree

abbrev pub transition_of : Transition → TransitionTree
transition_of t = record {
  name = t.name;
  priority = t.priority;
  preceding = t.preceding;
  following = t.following;
  condition = tree_of t.condition;
}

-- an action (2.6.4.1)
pub record ActionTree : Type 0 where
  pub name : List ℕ
  pub body : Block

abbrev pub action_of : Action → ActionTree
action_of a = record { name = a.name; body = block_of a.body.items }

pub data ElementTree : Type 0 where
  AStep : Step → ElementTree
  ATransition : TransitionTree → ElementTree
  AnAction : ActionTree → ElementTree

abbrev pub element_of : Element → ElementTree
element_of (element.Step s span) = AStep s
element_of (element.Transition t span) = ATransition (transition_of t)
element_of (element.Action a span) = AnAction (action_of a)

-- a program type (2.5.3)
pub record ProgramTree : Type 0 where
  pub name : List ℕ
  pub variables : List VariableBlock
  pub elements : List ElementTree

abbrev pub program_of : Program → ProgramTree
program_of p = record { name = p.name; variables = p.variables; elements = map element_of p.elements }

-- a whole text
pub record SourceTree : Type 0 where
  pub programs : List ProgramTree
  pub configuration : Configuration

abbrev pub source_of : Source → SourceTree
source_of s = record { programs = map program_of s.programs; configuration = s.configuration }
