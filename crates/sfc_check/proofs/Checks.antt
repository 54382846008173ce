-- Checked statements one after the other, and checked branches.
use Rattle.std.proofs.Common.{◌≡◌, ℕ, ◌+◌, ◌<◌, ◌≤◌, List, [], ◌∷◌, ◌++◌, Vec, Global, length, get_or, drop, refl, ap, sym, ◌∙◌, Ok, Err}
use Rattle.std.proofs.lemmas.List.{drop_all}
use Rattle.sfc_base.specs.declared.var_type.VarType.{VarType}
use Rattle.sfc_base.specs.declared.var_type.VarType.TheVariants as types
use Rattle.sfc_text.specs.declared.expression.Expression as written_expression
use Rattle.sfc_text.specs.declared.statement.Statement as written
use Rattle.sfc_text.specs.declared.statement.Statement.TheVariants as written_statement
use Rattle.sfc_text.specs.declared.statement.Branch as written_branch
use Rattle.sfc_text.specs.declared.statement.Branch.TheVariants as written_branches
use Rattle.sfc_text.specs.Trees as text
use Rattle.sfc_text.proofs.Blocks.{before_if, beside_when, beside_otherwise}
use Rattle.sfc_expr.specs.declared.statement.Statement.{Statement}
use Rattle.sfc_expr.specs.declared.statement.Statement.TheVariants as statement
use Rattle.sfc_expr.specs.declared.statement.Branch.{Branch}
use Rattle.sfc_expr.specs.declared.statement.Branch.TheVariants as branch
use Rattle.sfc_check.specs.declared.type_error.TypeError.{TypeError}
use Rattle.sfc_check.specs.declared.type_error.TypeError.TheVariants as error
use Rattle.sfc_base.specs.declared.references.Variable.{Variable}
use Rattle.sfc_expr.specs.Trees.{Expression, Body, Nothing, Assign, If, Branches, NoBranch, When, Otherwise, before, tried_before, body_of, branches_of}
use Rattle.sfc_check.specs.Scopes.{Names}
use Rattle.sfc_check.specs.TypeFaults.{Checked, TypeFault, Unknown, WrongType, LiteralRange, NotAssignable, ◌>>=◌, Fails}
use Rattle.sfc_check.specs.Checking.{checked, checked_target, checked_body, checked_branches}
use Rattle.sfc_expr.proofs.Effects.{split}

-- ---- statements, then others

abbrev pub append : Body → Body → Body
append Nothing c = c
append (Assign v e b) c = Assign v e (append b c)
append (If bs b) c = If bs (append b c)

pub append_nothing : (a : Body) → append a Nothing ≡ a
append_nothing Nothing = refl
append_nothing (Assign v e a) = ap (Assign v e) (append_nothing a)
append_nothing (If bs a) = ap (If bs) (append_nothing a)

append_append : (a b c : Body) → append (append a b) c ≡ append a (append b c)
append_append Nothing b c = refl
append_append (Assign v e a) b c = ap (Assign v e) (append_append a b c)
append_append (If bs a) b c = ap (If bs) (append_append a b c)

append_before : (s : Statement) (b c : Body) → append (before s b) c ≡ before s (append b c)
append_before (statement.Assign v e) b c = refl
append_before (statement.If' shape bs) b c = refl

body_push : (ss : List Statement) (s : Statement) → body_of (ss ++ s ∷ []) ≡ append (body_of ss) (before s Nothing)
body_push [] s = refl
body_push (x ∷ ss) s = ap (before x) (body_push ss s) ∙ sym (append_before x (body_of ss) (before s Nothing))

-- ---- branches, then others

abbrev pub join : Branches → Branches → Branches
join NoBranch c = c
join (When e body b) c = When e body (join b c)
join (Otherwise body b) c = Otherwise body (join b c)

pub join_nothing : (a : Branches) → join a NoBranch ≡ a
join_nothing NoBranch = refl
join_nothing (When e body a) = ap (When e body) (join_nothing a)
join_nothing (Otherwise body a) = ap (Otherwise body) (join_nothing a)

join_join : (a b c : Branches) → join (join a b) c ≡ join a (join b c)
join_join NoBranch b c = refl
join_join (When e body a) b c = ap (When e body) (join_join a b c)
join_join (Otherwise body a) b c = ap (Otherwise body) (join_join a b c)

join_before : (r : Branch) (b c : Branches) → join (tried_before r b) c ≡ tried_before r (join b c)
join_before (branch.When' e shape body) b c = refl
join_before (branch.Otherwise' shape body) b c = refl

branches_push : (rs : List Branch) (r : Branch) → branches_of (rs ++ r ∷ []) ≡ join (branches_of rs) (tried_before r NoBranch)
branches_push [] r = refl
branches_push (x ∷ rs) r = ap (tried_before x) (branches_push rs r) ∙ sym (join_before x (branches_of rs) (tried_before r NoBranch))

-- ---- what is checked behind what was

abbrev pub behind_body : Body → Checked Body → Checked Body
behind_body front r = r >>= λ body. Ok (append front body)

abbrev pub behind_branches : Branches → Checked Branches → Checked Branches
behind_branches front r = r >>= λ branches. Ok (join front branches)

behind_behind : (a b : Body) (r : Checked Body) → behind_body a (behind_body b r) ≡ behind_body (append a b) r
behind_behind a b (Ok c) = ap Ok (sym (append_append a b c))
behind_behind a b (Err fault) = refl

behind_joined : (a b : Branches) (r : Checked Branches) → behind_branches a (behind_branches b r) ≡ behind_branches (join a b) r
behind_joined a b (Ok c) = ap Ok (sym (join_join a b c))
behind_joined a b (Err fault) = refl

-- ---- one statement and those behind it

assigned : (value : Checked Expression) (v : Variable) (rest : Checked Body) → (value >>= λ x. rest >>= λ body. Ok (Assign v x body)) ≡ (value >>= λ x. Ok (Assign v x Nothing)) >>= λ b. behind_body b rest
assigned (Ok x) v rest = refl
assigned (Err fault) v rest = refl

assignment : (target : Checked (Variable × VarType)) (value : VarType → Checked Expression) (rest : Checked Body) → (target >>= λ w. value w.1 >>= λ x. rest >>= λ body. Ok (Assign w.0 x body)) ≡ (target >>= λ w. value w.1 >>= λ x. Ok (Assign w.0 x Nothing)) >>= λ b. behind_body b rest
assignment (Ok w) value rest = assigned (value w.1) w.0 rest
assignment (Err fault) value rest = refl

conditional : (branches : Checked Branches) (rest : Checked Body) → (branches >>= λ bs. rest >>= λ body. Ok (If bs body)) ≡ (branches >>= λ bs. Ok (If bs Nothing)) >>= λ b. behind_body b rest
conditional (Ok bs) rest = refl
conditional (Err fault) rest = refl

checked-before : (names : Names) (s : written.Statement) (rest : text.Block) → checked_body names (text.before s rest) ≡ checked_body names (text.before s text.Nothing) >>= λ b. behind_body b (checked_body names rest)
checked-before names (written_statement.Assign v e span) rest = assignment (checked_target names v) (checked names (text.tree_of e)) (checked_body names rest)
checked-before names (written_statement.If' shape bs span) rest = conditional (checked_branches names (text.row_branches bs)) (checked_body names rest)

-- ---- one branch and those behind it

when : (condition : Checked Expression) (body : Checked Body) (rest : Checked Branches) → (condition >>= λ x. body >>= λ b. rest >>= λ bs. Ok (When x b bs)) ≡ (condition >>= λ x. body >>= λ b. Ok (When x b NoBranch)) >>= λ r. behind_branches r rest
when (Ok x) (Ok b) rest = refl
when (Ok x) (Err fault) rest = refl
when (Err fault) body rest = refl

otherwise : (body : Checked Body) (rest : Checked Branches) → (body >>= λ b. rest >>= λ bs. Ok (Otherwise b bs)) ≡ (body >>= λ b. Ok (Otherwise b NoBranch)) >>= λ r. behind_branches r rest
otherwise (Ok b) rest = refl
otherwise (Err fault) rest = refl

checked-beside : (names : Names) (r : written_branch.Branch) (rest : text.Block) → checked_branches names (text.beside r rest) ≡ checked_branches names (text.beside r text.Nothing) >>= λ b. behind_branches b (checked_branches names rest)
checked-beside names (written_branches.When' e shape body) rest = when (checked names (text.tree_of e) types.Bool) (checked_body names (text.row_statements body)) (checked_branches names rest)
checked-beside names (written_branches.Otherwise' shape body) rest = otherwise (checked_body names (text.row_statements body)) (checked_branches names rest)

-- ---- an error along what is checked

pub fails_along : {A B : Type 0} (e : TypeError) (one : Checked A) (whole : Checked B) → ((fault : TypeFault) → one ≡ Err fault → whole ≡ Err fault) → Fails e one → Fails e whole
fails_along error.Unknown one whole k h = k Unknown h
fails_along error.WrongType one whole k h = k WrongType h
fails_along error.LiteralRange one whole k h = k LiteralRange h
fails_along error.NotAssignable one whole k h = k NotAssignable h
fails_along error.Memory one whole k h = tt

-- ---- one element of a list, and those behind it

module _ (names : Names) (xs : List written.Statement) (i : ℕ) (x : written.Statement) (lt : i < length xs) (is : x ≡ get_or xs i x) where
  body_at : checked_body names (text.block_of (drop i xs)) ≡ checked_body names (text.before x text.Nothing) >>= λ b. behind_body b (checked_body names (text.block_of (drop (i + 1) xs)))
  body_at = ap (λ (s : List written.Statement). checked_body names (text.block_of s)) (split xs i x lt is) ∙ checked-before names x _

  pub one_more : (done : List Statement) (s : Statement) → checked_body names (text.before x text.Nothing) ≡ Ok (before s Nothing) → behind_body (body_of (done ++ s ∷ [])) (checked_body names (text.block_of (drop (i + 1) xs))) ≡ behind_body (body_of done) (checked_body names (text.block_of (drop i xs)))
  one_more done s ok =
      let rest : Checked Body = checked_body names (text.block_of (drop (i + 1) xs)) in
      ap (λ (b : Body). behind_body b rest) (body_push done s) ∙ sym (behind_behind (body_of done) (before s Nothing) rest)
      ∙ sym (ap (behind_body (body_of done)) (body_at ∙ ap (λ (r : Checked Body). r >>= λ b. behind_body b rest) ok))

  pub one_fails : (done : List Statement) (whole : Checked Body) (e : TypeError) → behind_body (body_of done) (checked_body names (text.block_of (drop i xs))) ≡ whole → Fails e (checked_body names (text.before x text.Nothing)) → Fails e whole
  one_fails done whole e so_far =
      fails_along e _ whole
      (λ fault h. sym so_far ∙ ap (behind_body (body_of done)) (body_at ∙ ap (λ (r : Checked Body). r >>= λ b. behind_body b (checked_body names (text.block_of (drop (i + 1) xs)))) h))

module _ (names : Names) (xs : List written_branch.Branch) (i : ℕ) (x : written_branch.Branch) (lt : i < length xs) (is : x ≡ get_or xs i x) where
  branches_at : checked_branches names (text.branches_of (drop i xs)) ≡ checked_branches names (text.beside x text.Nothing) >>= λ b. behind_branches b (checked_branches names (text.branches_of (drop (i + 1) xs)))
  branches_at = ap (λ (s : List written_branch.Branch). checked_branches names (text.branches_of s)) (split xs i x lt is) ∙ checked-beside names x _

  pub branch_more : (done : List Branch) (r : Branch) → checked_branches names (text.beside x text.Nothing) ≡ Ok (tried_before r NoBranch) → behind_branches (branches_of (done ++ r ∷ [])) (checked_branches names (text.branches_of (drop (i + 1) xs))) ≡ behind_branches (branches_of done) (checked_branches names (text.branches_of (drop i xs)))
  branch_more done r ok =
      let rest : Checked Branches = checked_branches names (text.branches_of (drop (i + 1) xs)) in
      ap (λ (b : Branches). behind_branches b rest) (branches_push done r) ∙ sym (behind_joined (branches_of done) (tried_before r NoBranch) rest)
      ∙ sym (ap (behind_branches (branches_of done)) (branches_at ∙ ap (λ (q : Checked Branches). q >>= λ b. behind_branches b rest) ok))

  pub branch_fails : (done : List Branch) (whole : Checked Branches) (e : TypeError) → behind_branches (branches_of done) (checked_branches names (text.branches_of (drop i xs))) ≡ whole → Fails e (checked_branches names (text.beside x text.Nothing)) → Fails e whole
  branch_fails done whole e so_far =
      fails_along e _ whole
      (λ fault h. sym so_far ∙ ap (behind_branches (branches_of done)) (branches_at ∙ ap (λ (r : Checked Branches). r >>= λ b. behind_branches b (checked_branches names (text.branches_of (drop (i + 1) xs)))) h))

-- the list at its end
pub none_left : (names : Names) (xs : List written.Statement) (i : ℕ) → length xs ≤ i → checked_body names (text.block_of (drop i xs)) ≡ Ok Nothing
none_left names xs i end = ap (λ (l : List written.Statement). checked_body names (text.block_of l)) (drop_all i xs end)

pub no_branch_left : (names : Names) (xs : List written_branch.Branch) (i : ℕ) → length xs ≤ i → checked_branches names (text.branches_of (drop i xs)) ≡ Ok NoBranch
no_branch_left names xs i end = ap (λ (l : List written_branch.Branch). checked_branches names (text.branches_of l)) (drop_all i xs end)

pub all_checked : (names : Names) (xs : List written.Statement) (i : ℕ) (done : Body) (whole : Checked Body) → behind_body done (checked_body names (text.block_of (drop i xs))) ≡ whole → length xs ≤ i → whole ≡ Ok done
all_checked names xs i done whole so_far end = sym so_far ∙ ap (behind_body done) (none_left names xs i end) ∙ ap Ok (append_nothing done)

pub all_branches : (names : Names) (xs : List written_branch.Branch) (i : ℕ) (done : Branches) (whole : Checked Branches) → behind_branches done (checked_branches names (text.branches_of (drop i xs))) ≡ whole → length xs ≤ i → whole ≡ Ok done
all_branches names xs i done whole so_far end = sym so_far ∙ ap (behind_branches done) (no_branch_left names xs i end) ∙ ap Ok (join_nothing done)

pub ruleset statements = (one_more, one_fails, none_left, append_nothing)

pub ruleset branches = (branch_more, branch_fails, no_branch_left, join_nothing)

-- ---- the vectors in a statement and in a branch

pub as_if : (s : written.Statement) (v : Vec written_branch.Branch Global) (span : _) (rs : List written_branch.Branch) → s ≡ written_statement.If v span → rs ≡ v.items → text.before s text.Nothing ≡ text.If (text.branches_of rs) text.Nothing
as_if s v span rs is at =
    ap (λ (x : written.Statement). text.before x text.Nothing) is ∙ before_if v span text.Nothing
    ∙ ap (λ (l : List written_branch.Branch). text.If (text.branches_of l) text.Nothing) (sym at)

pub as_when : (r : written_branch.Branch) (e : written_expression.Expression) (v : Vec written.Statement Global) (ss : List written.Statement) → r ≡ written_branches.When e v → ss ≡ v.items → text.beside r text.Nothing ≡ text.When (text.tree_of e) (text.block_of ss) text.Nothing
as_when r e v ss is at =
    ap (λ (x : written_branch.Branch). text.beside x text.Nothing) is ∙ beside_when e v text.Nothing
    ∙ ap (λ (l : List written.Statement). text.When (text.tree_of e) (text.block_of l) text.Nothing) (sym at)

pub as_otherwise : (r : written_branch.Branch) (v : Vec written.Statement Global) (ss : List written.Statement) → r ≡ written_branches.Otherwise v → ss ≡ v.items → text.beside r text.Nothing ≡ text.Otherwise (text.block_of ss) text.Nothing
as_otherwise r v ss is at =
    ap (λ (x : written_branch.Branch). text.beside x text.Nothing) is ∙ beside_otherwise v text.Nothing
    ∙ ap (λ (l : List written.Statement). text.Otherwise (text.block_of l) text.Nothing) (sym at)

pub ruleset parts = (as_when, as_otherwise)
