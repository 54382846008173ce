-- What a typed tree is, wherever its parts lie in memory (3.3).
use Rattle.std.specs.Prelude.{List, [], ◌∷◌}
use Rattle.sfc_base.specs.declared.var_type.VarType.{VarType}
use Rattle.sfc_base.specs.declared.value.Value.{Value}
use Rattle.sfc_expr.specs.declared.operator.Operator.{Operator}
use Rattle.sfc_base.specs.declared.references.Variable.{Variable}
use Rattle.sfc_base.specs.declared.references.StepId.{StepId}
use Rattle.sfc_expr.specs.declared.expr.Expr.{Expr}
use Rattle.sfc_expr.specs.declared.expr.Expr.TheVariants as expr
use Rattle.sfc_expr.specs.declared.statement.Statement.{Statement, Row_of-Branch, end_of-Branch, more_of-Branch}
use Rattle.sfc_expr.specs.declared.statement.Statement.TheVariants as statement
use Rattle.sfc_expr.specs.declared.statement.Branch.{Branch, Row_of-Statement, end_of-Statement, more_of-Statement}
use Rattle.sfc_expr.specs.declared.statement.Branch.TheVariants as branch

-- an expression (3.3.1)
pub data Expression : Type 0 where
  Literal : Value → Expression
  Read : Variable → Expression
  StepActive : StepId → Expression
  StepTime : StepId → Expression
  ActionQ : Expression
  Not : Expression → Expression
  Minus : VarType → Expression → Expression
  Binary : Operator → VarType → Expression → Expression → Expression

mutual
  -- statements, one after the other (3.3.2)
  pub data Body : Type 0 where
    Nothing : Body
    Assign : Variable → Expression → Body → Body
    If : Branches → Body → Body

  -- branches of one IF, in the order of the text (3.3.2.3)
  pub data Branches : Type 0 where
    NoBranch : Branches
    When : Expression → Body → Branches → Branches
    Otherwise : Body → Branches → Branches

-- ---- the trees that the program's own are

abbrev pub expression_of : Expr → Expression
expression_of (expr.Literal v) = Literal v
expression_of (expr.Variable v) = Read v
expression_of (expr.StepActive s) = StepActive s
expression_of (expr.StepTime s) = StepTime s
expression_of expr.ActionQ = ActionQ
expression_of (expr.Not' p e) = Not (expression_of e)
expression_of (expr.Minus' t p e) = Minus t (expression_of e)
expression_of (expr.Binary' o t p a q b) = Binary o t (expression_of a) (expression_of b)

abbrev mutual
  pub row_body : {n : _} → Row_of-Statement n → Body
  row_body end_of-Statement = Nothing
  row_body (more_of-Statement s rest) = before s (row_body rest)

  -- a statement before others
  pub before : Statement → Body → Body
  before (statement.Assign v e) rest = Assign v (expression_of e) rest
  before (statement.If' shape bs) rest = If (row_branches bs) rest

  pub row_branches : {n : _} → Row_of-Branch n → Branches
  row_branches end_of-Branch = NoBranch
  row_branches (more_of-Branch b rest) = tried_before b (row_branches rest)

  -- a branch before others
  pub tried_before : Branch → Branches → Branches
  tried_before (branch.When' e shape body) rest = When (expression_of e) (row_body body) rest
  tried_before (branch.Otherwise' shape body) rest = Otherwise (row_body body) rest

abbrev pub body_of : List Statement → Body
body_of [] = Nothing
body_of (s ∷ rest) = before s (body_of rest)

abbrev pub branches_of : List Branch → Branches
branches_of [] = NoBranch
branches_of (b ∷ rest) = tried_before b (branches_of rest)
