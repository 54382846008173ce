-- A statement before others, and a branch before others.
use Rattle.std.proofs.Common.{◌≡◌, ℕ, ◌+◌, ◌<◌, ◌≤◌, true, false, List, ◌∷◌, Vec, Global, length, get_or, drop, refl, ap, sym, ◌∙◌, arith, Result, Ok, Err}
use Rattle.std.proofs.lemmas.List.{drop_more, drop_all}
use Rattle.sfc_base.specs.declared.value.Value.{Value}
use Rattle.sfc_expr.specs.declared.fault.Fault.{Fault}
use Rattle.sfc_expr.specs.declared.expr.Expr.{Expr}
use Rattle.sfc_expr.specs.declared.statement.Statement.{Statement}
use Rattle.sfc_expr.specs.declared.statement.Statement.TheVariants as statement
use Rattle.sfc_expr.specs.declared.statement.Branch.{Branch}
use Rattle.sfc_expr.specs.declared.statement.Branch.TheVariants as branch
use Rattle.sfc_base.specs.Values.{truth}
use Rattle.sfc_expr.specs.Trees.{Body, Nothing, Branches, When, Otherwise, expression_of, before, tried_before, body_of, branches_of}
use Rattle.sfc_expr.specs.Environment.{Environment, assigned}
use Rattle.sfc_expr.specs.Meaning.{value_of}
use Rattle.sfc_expr.specs.Effect.{BodyEffect, done, ended, on_value, on_end, and_then, effect, branch_effect}
use Rattle.sfc_expr.specs.Nodes.{nodes, body_nodes, branch_nodes}
use Rattle.sfc_expr.proofs.Rows.{before-if, tried_before-when, tried_before-otherwise}

on_value-value : (env : Environment) (r : Result Value Fault) (f : Value → Environment) (next : Environment → BodyEffect) → on_value env r (λ x. next (f x)) ≡ and_then (on_value env r (λ x. done (f x))) next
on_value-value env (Ok x) f next = refl
on_value-value env (Err fault) f next = refl

on_end-none : (r : Result (Unit {0}) Fault) (env : Environment) (next : Environment → BodyEffect) → on_end r env next ≡ and_then (on_end r env done) next
on_end-none (Ok x) env next = refl
on_end-none (Err fault) env next = refl

pub effect-before : (s : Statement) (rest : Body) (env : Environment) → effect (before s rest) env ≡ and_then (effect (before s Nothing) env) (λ env'. effect rest env')
effect-before (statement.Assign v e) rest env = on_value-value env _ (λ x. assigned env v x) (λ env'. effect rest env')
effect-before (statement.If' shape bs) rest env = on_end-none _ _ (λ env'. effect rest env')

pub body_nodes-before : (s : Statement) (rest : Body) → body_nodes (before s rest) ≡ body_nodes (before s Nothing) + body_nodes rest
body_nodes-before (statement.Assign v e) rest = omega arith
body_nodes-before (statement.If' shape bs) rest = omega arith

-- ---- one IF

alone : (o : BodyEffect) → and_then o done ≡ o
alone o = at o.result o.environment
  where
    at : (r : Result (Unit {0}) Fault) (env : Environment) → on_end r env done ≡ record { result = r; environment = env }
    at (Ok x) env = refl
    at (Err fault) env = refl

pub effect-if : (s : Statement) (v : Vec Branch Global) (env : Environment) → s ≡ statement.If v → effect (before s Nothing) env ≡ branch_effect (branches_of v.items) env
effect-if s v env is = ap (λ (x : Statement). effect (before x Nothing) env) is ∙ ap (λ (b : Body). effect b env) (before-if v Nothing) ∙ alone (branch_effect (branches_of v.items) env)

pub nodes-if : (s : Statement) (v : Vec Branch Global) → s ≡ statement.If v → body_nodes (before s Nothing) ≡ branch_nodes (branches_of v.items) + 1
nodes-if s v is = let e : body_nodes (before s Nothing) ≡ branch_nodes (branches_of v.items) + 1 + 0 = ap (λ (x : Statement). body_nodes (before x Nothing)) is ∙ ap body_nodes (before-if v Nothing) in omega arith

pub as_branches : (s : Statement) (v : Vec Branch Global) → s ≡ statement.If v → (bs : List Branch) → bs ≡ v.items → (env : Environment) → effect (before s Nothing) env ≡ branch_effect (branches_of bs) env
as_branches s v is bs at env = effect-if s v env is ∙ ap (λ (l : List Branch). branch_effect (branches_of l) env) (sym at)

-- ---- a list at its end

pub finished : (xs : List Statement) (i : ℕ) (env : Environment) (whole : BodyEffect) → effect (body_of (drop i xs)) env ≡ whole → length xs ≤ i → whole ≡ done env
finished xs i env whole so_far end = sym so_far ∙ ap (λ (s : List Statement). effect (body_of s) env) (drop_all i xs end)

pub tried_all : (xs : List Branch) (i : ℕ) (env : Environment) (whole : BodyEffect) → branch_effect (branches_of (drop i xs)) env ≡ whole → length xs ≤ i → whole ≡ done env
tried_all xs i env whole so_far end = sym so_far ∙ ap (λ (b : List Branch). branch_effect (branches_of b) env) (drop_all i xs end)

-- ---- one element of a list, and those behind it

pub split : {A : Type 0} (xs : List A) (i : ℕ) (x : A) → i < length xs → x ≡ get_or xs i x → drop i xs ≡ x ∷ drop (i + 1) xs
split {A} xs i x lt is = drop_more xs i x lt ∙ ap (λ (y : A). y ∷ drop (i + 1) xs) (sym is)

and_then-ok : (o : BodyEffect) (u : Unit {0}) (next : Environment → BodyEffect) → Ok u ≡ o.result → and_then o next ≡ next o.environment
and_then-ok o u next r = ap (λ (x : Result (Unit {0}) Fault). on_end x o.environment next) (sym r)

and_then-err : (o : BodyEffect) (fault : Fault) (next : Environment → BodyEffect) → Err fault ≡ o.result → and_then o next ≡ ended o.environment fault
and_then-err o fault next r = ap (λ (x : Result (Unit {0}) Fault). on_end x o.environment next) (sym r)

module _ (xs : List Statement) (i : ℕ) (x : Statement) (lt : i < length xs) (is : x ≡ get_or xs i x) where
  abbrev first : Environment → BodyEffect
  first env = effect (before x Nothing) env

  effect_at : (env : Environment) → effect (body_of (drop i xs)) env ≡ and_then (first env) (λ env'. effect (body_of (drop (i + 1) xs)) env')
  effect_at env = ap (λ (s : List Statement). effect (body_of s) env) (split xs i x lt is) ∙ effect-before x _ env

  pub goes_on : (env env' : Environment) (u : Unit {0}) → Ok u ≡ (first env).result → env' ≡ (first env).environment → effect (body_of (drop (i + 1) xs)) env' ≡ effect (body_of (drop i xs)) env
  goes_on env env' u r e = ap (λ (z : Environment). effect (body_of (drop (i + 1) xs)) z) e ∙ sym (effect_at env ∙ and_then-ok (first env) u _ r)

  stops : (env : Environment) (fault : Fault) → Err fault ≡ (first env).result → effect (body_of (drop i xs)) env ≡ ended (first env).environment fault
  stops env fault r = effect_at env ∙ and_then-err (first env) fault _ r

  pub stops-result : (env : Environment) (fault : Fault) → Err fault ≡ (first env).result → (effect (body_of (drop i xs)) env).result ≡ Err fault
  stops-result env fault r = ap (λ (o : BodyEffect). o.result) (stops env fault r)

  pub stops-environment : (env : Environment) (fault : Fault) → Err fault ≡ (first env).result → (effect (body_of (drop i xs)) env).environment ≡ (effect (before x Nothing) env).environment
  stops-environment env fault r = ap (λ (o : BodyEffect). o.environment) (stops env fault r)

  pub nodes_at : body_nodes (body_of (drop i xs)) ≡ body_nodes (before x Nothing) + body_nodes (body_of (drop (i + 1) xs))
  nodes_at = ap (λ (s : List Statement). body_nodes (body_of s)) (split xs i x lt is) ∙ body_nodes-before x _

module _ (xs : List Branch) (i : ℕ) (x : Branch) (lt : i < length xs) (is : x ≡ get_or xs i x) where
  branches_at : branches_of (drop i xs) ≡ tried_before x (branches_of (drop (i + 1) xs))
  branches_at = ap branches_of (split xs i x lt is)

  module _ (e : Expr) (v : Vec Statement Global) (when : x ≡ branch.When e v) where
    when_at : branches_of (drop i xs) ≡ When (expression_of e) (body_of v.items) (branches_of (drop (i + 1) xs))
    when_at = branches_at ∙ ap (λ (b : Branch). tried_before b (branches_of (drop (i + 1) xs))) when ∙ tried_before-when e v _

    pub applies : (env : Environment) (y : Value) → Ok y ≡ value_of env (expression_of e) → truth y ≡ true → effect (body_of v.items) env ≡ branch_effect (branches_of (drop i xs)) env
    applies env y is_value is_true = rw (when_at, ← is_value, is_true) refl

    pub takes : (env : Environment) (y : Value) → Ok y ≡ value_of env (expression_of e) → truth y ≡ true → (ss : List Statement) → ss ≡ v.items → (whole : BodyEffect) → branch_effect (branches_of (drop i xs)) env ≡ whole → effect (body_of ss) env ≡ whole
    takes env y is_value is_true ss at whole so_far = ap (λ (l : List Statement). effect (body_of l) env) at ∙ applies env y is_value is_true ∙ so_far

    passes : (env : Environment) (y : Value) → Ok y ≡ value_of env (expression_of e) → truth y ≡ false → branch_effect (branches_of (drop (i + 1) xs)) env ≡ branch_effect (branches_of (drop i xs)) env
    passes env y is_value is_false = rw (when_at, ← is_value, is_false) refl

    faults : (env : Environment) (fault : Fault) → Err fault ≡ value_of env (expression_of e) → branch_effect (branches_of (drop i xs)) env ≡ ended env fault
    faults env fault is_fault = rw (when_at, ← is_fault) refl

    pub passed : (env : Environment) (y : Value) → Ok y ≡ value_of env (expression_of e) → truth y ≡ false → (whole : BodyEffect) → branch_effect (branches_of (drop i xs)) env ≡ whole → branch_effect (branches_of (drop (i + 1) xs)) env ≡ whole
    passed env y is_value is_false whole so_far = passes env y is_value is_false ∙ so_far

    pub faulted : (env : Environment) (fault : Fault) → Err fault ≡ value_of env (expression_of e) → (whole : BodyEffect) → branch_effect (branches_of (drop i xs)) env ≡ whole → whole ≡ ended env fault
    faulted env fault is_fault whole so_far = sym so_far ∙ faults env fault is_fault

    pub nodes-when : branch_nodes (branches_of (drop i xs)) ≡ nodes (expression_of e) + body_nodes (body_of v.items) + branch_nodes (branches_of (drop (i + 1) xs))
    nodes-when = ap branch_nodes when_at

  module _ (v : Vec Statement Global) (otherwise : x ≡ branch.Otherwise v) where
    otherwise_at : branches_of (drop i xs) ≡ Otherwise (body_of v.items) (branches_of (drop (i + 1) xs))
    otherwise_at = branches_at ∙ ap (λ (b : Branch). tried_before b (branches_of (drop (i + 1) xs))) otherwise ∙ tried_before-otherwise v _

    pub applies_otherwise : (env : Environment) → effect (body_of v.items) env ≡ branch_effect (branches_of (drop i xs)) env
    applies_otherwise env = ap (λ (b : Branches). branch_effect b env) (sym otherwise_at)

    pub nodes-otherwise : branch_nodes (branches_of (drop i xs)) ≡ body_nodes (body_of v.items) + branch_nodes (branches_of (drop (i + 1) xs))
    nodes-otherwise = ap branch_nodes otherwise_at

pub ruleset ifs = (effect-if, nodes-if)

pub ruleset sequence = (goes_on, stops-result, stops-environment, nodes_at)

pub ruleset first_branch = (applies, nodes-when, applies_otherwise, nodes-otherwise)
