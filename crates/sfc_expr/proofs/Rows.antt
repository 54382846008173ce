-- The rows of a tree's pattern are the lists of its Vecs.
use Rattle.std.proofs.Common.{◌≡◌, Vec, Global, refl, ap, ◌∙◌}
use mathlib.Core.Former.{Count}
use Rattle.sfc_expr.specs.declared.expr.Expr.{Expr}
use Rattle.sfc_expr.specs.declared.statement.Statement.{Statement, Row_of-Branch, end_of-Branch, more_of-Branch, items-the_row-Branch, items_hidden-the_row-Branch-1}
use Rattle.sfc_expr.specs.declared.statement.Statement.TheVariants as statement
use Rattle.sfc_expr.specs.declared.statement.Branch.{Branch, Row_of-Statement, end_of-Statement, more_of-Statement, items-the_row-Statement, items_hidden-the_row-Statement-0}
use Rattle.sfc_expr.specs.declared.statement.Branch.TheVariants as branch
use Rattle.sfc_expr.specs.Trees.{Body, If, Branches, When, Otherwise, expression_of, row_body, before, row_branches, tried_before, body_of, branches_of}

row_statements : (n : _) (row : Row_of-Statement n) → row_body row ≡ body_of (items-the_row-Statement n row)
row_statements n end_of-Statement = refl
row_statements n (more_of-Statement s rest) = ap (before s) (row_statements _ rest)

row_tried : (n : _) (row : Row_of-Branch n) → row_branches row ≡ branches_of (items-the_row-Branch n row)
row_tried n end_of-Branch = refl
row_tried n (more_of-Branch b rest) = ap (tried_before b) (row_tried _ rest)

abbrev row_of_if : Statement → (n : Count) × Row_of-Branch n
row_of_if (statement.If' shape row) = (_, row)
row_of_if _ = (_, end_of-Branch)

abbrev row_of_branch : Branch → (n : Count) × Row_of-Statement n
row_of_branch (branch.When' e shape row) = (_, row)
row_of_branch (branch.Otherwise' shape row) = (_, row)

pub before-if : (v : Vec Branch Global) (rest : Body) → before (statement.If v) rest ≡ If (branches_of v.items) rest
before-if v rest =
    ap (λ (x : Branches). If x rest)
    (let row = row_of_if (statement.If v) in row_tried row.0 row.1 ∙ ap branches_of (items_hidden-the_row-Branch-1 v))

pub tried_before-when : (e : Expr) (v : Vec Statement Global) (rest : Branches) → tried_before (branch.When e v) rest ≡ When (expression_of e) (body_of v.items) rest
tried_before-when e v rest =
    ap (λ (x : Body). When (expression_of e) x rest)
    (let row = row_of_branch (branch.When e v) in row_statements row.0 row.1 ∙ ap body_of (items_hidden-the_row-Statement-0 v))

pub tried_before-otherwise : (v : Vec Statement Global) (rest : Branches) → tried_before (branch.Otherwise v) rest ≡ Otherwise (body_of v.items) rest
tried_before-otherwise v rest =
    ap (λ (x : Body). Otherwise x rest)
    (let row = row_of_branch (branch.Otherwise v) in row_statements row.0 row.1 ∙ ap body_of (items_hidden-the_row-Statement-0 v))
