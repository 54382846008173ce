-- The trees that a listing spells: literals (2.2), expressions (3.3.1) and statements (3.3.2).
use Rattle.std.specs.Prelude.{ℕ, List, Some, None, codes}
use Rattle.sfc_text.specs.declared.tree.Literal as text_literal
use Rattle.sfc_text.specs.declared.tree.Literal.TheVariants as literal
use Rattle.sfc_text.specs.declared.expression.Operator as text_operator
use Rattle.sfc_text.specs.declared.expression.Operator.TheVariants as written
use Rattle.sfc_text.specs.declared.expression.Variable as text_variable
use Rattle.sfc_text.specs.Trees as text
use Rattle.sfc_base.specs.declared.value.Value.{Value}
use Rattle.sfc_base.specs.declared.value.Value.TheVariants as value
use Rattle.sfc_expr.specs.declared.operator.Operator.{Operator}
use Rattle.sfc_expr.specs.declared.operator.Operator.TheVariants as operator
use Rattle.sfc_expr.specs.Trees.{Expression, Literal, Read, StepActive, StepTime, ActionQ, Not, Minus, Binary}
use Rattle.sfc_expr.specs.Trees.{Body, Nothing, Assign, If, Branches, NoBranch, When, Otherwise}
use Rattle.sfc_plant.specs.Spaces.{Space}
use Rattle.sfc_plant.specs.Names.{variable_name, step_name}

-- a value is written as a literal with its type
abbrev pub literal_tree : Value → text_literal.Literal
literal_tree (value.Bool b) = literal.Bool b
literal_tree (value.Int n) = literal.Int n
literal_tree (value.Dint n) = literal.Dint n
literal_tree (value.Time t) = literal.Time t

abbrev pub operator_tree : Operator → text_operator.Operator
operator_tree operator.Or = written.Or
operator_tree operator.Xor = written.Xor
operator_tree operator.And = written.And
operator_tree operator.Equal = written.Equal
operator_tree operator.NotEqual = written.NotEqual
operator_tree operator.Less = written.Less
operator_tree operator.Greater = written.Greater
operator_tree operator.LessOrEqual = written.LessOrEqual
operator_tree operator.GreaterOrEqual = written.GreaterOrEqual
operator_tree operator.Add = written.Add
operator_tree operator.Subtract = written.Subtract
operator_tree operator.Multiply = written.Multiply
operator_tree operator.Divide = written.Divide
operator_tree operator.Modulo = written.Modulo

-- a name by itself
abbrev pub plain_name : List ℕ → text_variable.Variable
plain_name name = record { name = name; part = None }

-- a name, a dot and a part
abbrev pub name_with : List ℕ → List ℕ → text_variable.Variable
name_with name part = record { name = name; part = Some part }

-- the expression in the body of the action of this name, or in a condition, which has no use for it
abbrev pub expression_tree : Space → List ℕ → Expression → text.Tree
expression_tree space own (Literal v) = text.Constant (literal_tree v)
expression_tree space own (Read v) = text.Named (plain_name (variable_name space v))
expression_tree space own (StepActive s) = text.Named (name_with (step_name space s) (codes "X"))
expression_tree space own (StepTime s) = text.Named (name_with (step_name space s) (codes "T"))
expression_tree space own ActionQ = text.Named (name_with own (codes "Q"))
expression_tree space own (Not e) = text.Not (expression_tree space own e)
expression_tree space own (Minus t e) = text.Minus (expression_tree space own e)
expression_tree space own (Binary o t a b) =
    text.Binary (operator_tree o) (expression_tree space own a) (expression_tree space own b)

abbrev mutual
  -- statements in the body of the action of this name
  pub body_tree : Space → List ℕ → Body → text.Block
  body_tree space own Nothing = text.Nothing
  body_tree space own (Assign v e rest) =
      text.Assign (plain_name (variable_name space v)) (expression_tree space own e) (body_tree space own rest)
  body_tree space own (If branches rest) = text.If (branches_tree space own branches) (body_tree space own rest)

  pub branches_tree : Space → List ℕ → Branches → text.Block
  branches_tree space own NoBranch = text.Nothing
  branches_tree space own (When e body rest) =
      text.When (expression_tree space own e) (body_tree space own body) (branches_tree space own rest)
  branches_tree space own (Otherwise body rest) = text.Otherwise (body_tree space own body) (branches_tree space own rest)
