-- Blocks of statements, and branches.
use Rattle.std.proofs.Common.{◌≡◌, List, [], ◌∷◌, ◌++◌, Vec, Global, refl, sym, ap, ◌∙◌}
use mathlib.Core.Former.{Count}
use Rattle.sfc_tokens.specs.declared.span.Span.{Span}
use Rattle.sfc_text.specs.declared.expression.Expression.{Expression}
use Rattle.sfc_text.specs.declared.statement.Statement.{Statement, Row_of-Branch, end_of-Branch, more_of-Branch, items-the_row-Branch, items_hidden-the_row-Branch-1}
use Rattle.sfc_text.specs.declared.statement.Statement.TheVariants as statement
use Rattle.sfc_text.specs.declared.statement.Branch.{Branch, Row_of-Statement, end_of-Statement, more_of-Statement, items-the_row-Statement, items_hidden-the_row-Statement-0}
use Rattle.sfc_text.specs.declared.statement.Branch.TheVariants as branch
use Rattle.sfc_text.specs.Trees.{Block, Nothing, Assign, If, When, Otherwise, append, tree_of, before, beside, row_branches, row_statements, block_of, branches_of}

statements_items : (n : _) (row : Row_of-Statement n) → row_statements row ≡ block_of (items-the_row-Statement n row)
statements_items n end_of-Statement = refl
statements_items n (more_of-Statement s rest) = ap (before s) (statements_items _ rest)

branches_items : (n : _) (row : Row_of-Branch n) → row_branches row ≡ branches_of (items-the_row-Branch n row)
branches_items n end_of-Branch = refl
branches_items n (more_of-Branch r rest) = ap (beside r) (branches_items _ rest)

pub append_nothing : (a : Block) → append a Nothing ≡ a
append_nothing Nothing = refl
append_nothing (Assign v e a) = ap (Assign v e) (append_nothing a)
append_nothing (If rs a) = ap (If rs) (append_nothing a)
append_nothing (When e body a) = ap (When e body) (append_nothing a)
append_nothing (Otherwise body a) = ap (Otherwise body) (append_nothing a)

pub append_append : (a b c : Block) → append (append a b) c ≡ append a (append b c)
append_append Nothing b c = refl
append_append (Assign v e a) b c = ap (Assign v e) (append_append a b c)
append_append (If rs a) b c = ap (If rs) (append_append a b c)
append_append (When e body a) b c = ap (When e body) (append_append a b c)
append_append (Otherwise body a) b c = ap (Otherwise body) (append_append a b c)

append_before : (s : Statement) (b c : Block) → append (before s b) c ≡ before s (append b c)
append_before (statement.Assign v e span) b c = refl
append_before (statement.If' shape branches span) b c = refl

append_beside : (r : Branch) (b c : Block) → append (beside r b) c ≡ beside r (append b c)
append_beside (branch.When' e shape body) b c = refl
append_beside (branch.Otherwise' shape body) b c = refl

pub block_push : (ss : List Statement) (s : Statement) → block_of (ss ++ s ∷ []) ≡ append (block_of ss) (before s Nothing)
block_push [] s = refl
block_push (x ∷ ss) s = ap (before x) (block_push ss s) ∙ sym (append_before x (block_of ss) (before s Nothing))

pub branches_push : (rs : List Branch) (r : Branch) → branches_of (rs ++ r ∷ []) ≡ append (branches_of rs) (beside r Nothing)
branches_push [] r = refl
branches_push (x ∷ rs) r = ap (beside x) (branches_push rs r) ∙ sym (append_beside x (branches_of rs) (beside r Nothing))

-- the views of the vectors in a statement and in a branch
abbrev row_of_if : Statement → (n : Count) × Row_of-Branch n
row_of_if (statement.If' shape row span) = (_, row)
row_of_if _ = (_, end_of-Branch)

abbrev row_of_branch : Branch → (n : Count) × Row_of-Statement n
row_of_branch (branch.When' e shape row) = (_, row)
row_of_branch (branch.Otherwise' shape row) = (_, row)

pub before_if : (v : Vec Branch Global) (span : Span) (b : Block) → before (statement.If v span) b ≡ If (branches_of v.items) b
before_if v span b = ap (λ (x : Block). If x b) (let row = row_of_if (statement.If v span) in branches_items row.0 row.1 ∙ ap branches_of (items_hidden-the_row-Branch-1 v))

pub beside_when : (e : Expression) (v : Vec Statement Global) (b : Block) → beside (branch.When e v) b ≡ When (tree_of e) (block_of v.items) b
beside_when e v b = ap (λ (x : Block). When (tree_of e) x b) (let row = row_of_branch (branch.When e v) in statements_items row.0 row.1 ∙ ap block_of (items_hidden-the_row-Statement-0 v))

pub beside_otherwise : (v : Vec Statement Global) (b : Block) → beside (branch.Otherwise v) b ≡ Otherwise (block_of v.items) b
beside_otherwise v b = ap (λ (x : Block). Otherwise x b) (let row = row_of_branch (branch.Otherwise v) in statements_items row.0 row.1 ∙ ap block_of (items_hidden-the_row-Statement-0 v))
