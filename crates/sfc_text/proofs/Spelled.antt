-- The tokens of an expression derive it.
use Rattle.std.proofs.Common.{◌≡◌, ◌⊎◌, inl, inr, ℕ, zero, suc, ◌≤◌, pos, negsuc, Bool, true, false, List, [], ◌∷◌, ◌++◌, Option, Some, None, nat_lt, refl, sym, ap, subst, ◌∙◌, arith, append_assoc}
use Rattle.std.proofs.Math.Nat.{le-max_left, le-max_right}
use Rattle.std.proofs.lemmas.Bool.{ltb-true, ltb-false, lt-ltb}
use Rattle.sfc_base.specs.declared.delimiter.Delimiter.TheVariants as sign
use Rattle.sfc_base.specs.declared.keyword.Keyword.TheVariants as keyword
use Rattle.sfc_tokens.specs.declared.token.TokenKind.TheVariants as token
use Rattle.sfc_tokens.specs.Tokens.{Kinds}
use Rattle.sfc_text.specs.declared.expression.Operator.{Operator}
use Rattle.sfc_text.specs.declared.expression.Operator.TheVariants as operator
use Rattle.sfc_text.specs.declared.expression.Variable.{Variable}
use Rattle.sfc_text.specs.declared.tree.Literal.{Literal}
use Rattle.sfc_text.specs.declared.tree.Literal.TheVariants as literal
use Rattle.sfc_text.specs.Building as make
use Rattle.sfc_text.specs.Grammar as grammar
use Rattle.sfc_text.specs.Grammar.{joined, unary, primary, parenthesized, opposite, negation, signed, variable, expression}
use Rattle.sfc_text.specs.Limits.{Within}
use Rattle.sfc_text.specs.Rules.{Many, none, next, Both, Inner, Derives}
use Rattle.sfc_text.specs.Terms.{sign, ◌▸◌, maybe}
use Rattle.sfc_text.specs.Trees.{Tree, Constant, Named, Not, Minus, Binary, operators}
use Rattle.sfc_text.specs.Spelled.{literal_tokens, part_tokens, variable_tokens, operator_token, tighter, level, is_looser, enclosed, behind_minus, tree_tokens, deeper, nesting}

-- ---- a chain of operators of one level

many_then : {X : Type 0} (Item : Kinds → X → Kinds → Type 0) {ts mid rest : Kinds} {xs : List X} {x : X} → Many Item ts xs mid → Item mid x rest → Many Item ts (xs ++ x ∷ []) rest
many_then Item none i = next i none
many_then Item (next j m) i = next j (many_then Item m i)

grouped_then : (a : Tree) (xs : List (Operator × Tree)) (o : Operator) (b : Tree) → make.grouped a (xs ++ (o, b) ∷ []) ≡ Binary o (make.grouped a xs) b
grouped_then a [] o b = refl
grouped_then a (x ∷ xs) o b = grouped_then (make.join a x) xs o b

-- what derives at a level derives at the next one
next_level : (n : ℕ) (In : Inner) (l : ℕ) (ts : Kinds) (t : Tree) (rest : Kinds) → Derives n In (joined l) ts t rest → Derives n In (joined (suc l)) ts t rest
unfolding joined
next_level n In l ts t rest d = ((t, []), (rest, d, none), refl)

-- an operator of the level and its right operand behind what derives
further : (n : ℕ) (In : Inner) (l : ℕ) (ts mid behind rest : Kinds) (o : Operator) (a b : Tree) → Derives n In (joined (suc l)) ts a mid → Derives n In (grammar.operator (suc l)) mid o behind → Derives n In (joined l) behind b rest → Derives n In (joined (suc l)) ts (Binary o a b) rest
unfolding joined
further n In l ts mid behind rest o a b d i e =
    ((d.0.0, d.0.1 ++ (o, b) ∷ []), (d.1.0, d.1.1, many_then (Both (Derives n In (grammar.operator (suc l))) (Derives n In (joined l))) d.1.2 (behind, i, e)), ap (λ (t : Tree). Binary o t b) d.2 ∙ sym (grouped_then d.0.0 d.0.1 o b))

up_to : (n : ℕ) (In : Inner) (l m : ℕ) (ts : Kinds) (t : Tree) (rest : Kinds) → l ≤ m → Derives n In (joined l) ts t rest → Derives n In (joined m) ts t rest
up_to n In l zero ts t rest le d = let e : l ≡ 0 = omega (arith, le) in subst (λ k. Derives n In (joined k) ts t rest) e d
up_to n In l (suc m) ts t rest le d = by_test (nat_lt m l) refl (λ lower. up_to n In l m ts t rest lower d)
  where
    by_test : (b : Bool) → nat_lt m l ≡ b → (l ≤ m → Derives n In (joined m) ts t rest) → Derives n In (joined (suc m)) ts t rest
    by_test true p h = let lt = ltb-true m l p in let e : l ≡ suc m = omega (arith, lt, le) in subst (λ k. Derives n In (joined k) ts t rest) e d
    by_test false p h = next_level n In m ts t rest (h (ltb-false m l p))

-- ---- operators

operator_derives : (n : ℕ) (In : Inner) (o : Operator) (rest : Kinds) → Derives n In (grammar.operator (suc (tighter o))) (operator_token o ∷ rest) o rest
operator_derives n In operator.Or rest = (token.Keyword keyword.Or, refl, refl, refl)
operator_derives n In operator.Xor rest = (token.Keyword keyword.Xor, refl, refl, refl)
operator_derives n In operator.And rest = (token.Keyword keyword.And, refl, refl, refl)
operator_derives n In operator.Equal rest = (token.Delimiter sign.Equal, refl, refl, refl)
operator_derives n In operator.NotEqual rest = (token.Delimiter sign.NotEqual, refl, refl, refl)
operator_derives n In operator.Less rest = (token.Delimiter sign.Less, refl, refl, refl)
operator_derives n In operator.Greater rest = (token.Delimiter sign.Greater, refl, refl, refl)
operator_derives n In operator.LessOrEqual rest = (token.Delimiter sign.LessOrEqual, refl, refl, refl)
operator_derives n In operator.GreaterOrEqual rest = (token.Delimiter sign.GreaterOrEqual, refl, refl, refl)
operator_derives n In operator.Add rest = (token.Delimiter sign.Plus, refl, refl, refl)
operator_derives n In operator.Subtract rest = (token.Delimiter sign.Minus, refl, refl, refl)
operator_derives n In operator.Multiply rest = (token.Delimiter sign.Star, refl, refl, refl)
operator_derives n In operator.Divide rest = (token.Delimiter sign.Slash, refl, refl, refl)
operator_derives n In operator.Modulo rest = (token.Keyword keyword.Mod, refl, refl, refl)

-- ---- literals and variables

literal_derives : (n : ℕ) (In : Inner) (l : Literal) (rest : Kinds) → Derives n In (joined 0) (literal_tokens l ++ rest) (Constant l) rest
unfolding joined unary signed primary grammar.literal
literal_derives n In (literal.Integer (pos k)) rest = inr (refl, inr (inr (inl (literal.Integer (pos k), (token.Integer k, refl, refl, refl), refl))))
literal_derives n In (literal.Integer (negsuc k)) rest = inl (refl, (literal.Integer (negsuc k), (suc k, ((tt, suc k), (token.Integer (suc k) ∷ rest, (token.Delimiter sign.Minus, refl, refl, refl), (token.Integer (suc k), refl, refl, refl)), refl), refl), refl))
literal_derives n In (literal.Int k) rest = inr (refl, inr (inr (inl (literal.Int k, (token.Int k, refl, refl, refl), refl))))
literal_derives n In (literal.Dint k) rest = inr (refl, inr (inr (inl (literal.Dint k, (token.Dint k, refl, refl, refl), refl))))
literal_derives n In (literal.Bool true) rest = inr (refl, inr (inr (inl (literal.Bool true, (token.Keyword keyword.True, refl, refl, refl), refl))))
literal_derives n In (literal.Bool false) rest = inr (refl, inr (inr (inl (literal.Bool false, (token.Keyword keyword.False, refl, refl, refl), refl))))
literal_derives n In (literal.Time d) rest = inr (refl, inr (inr (inl (literal.Time d, (token.Duration d, refl, refl, refl), refl))))

pub variable_derives : (n : ℕ) (In : Inner) (v : Variable) (rest : Kinds) → Derives n In variable (variable_tokens v ++ rest) v rest
unfolding variable
variable_derives n In v rest = ((v.name, v.part), ((v.name, v.part), (part_tokens v.part ++ rest, (token.Name v.name, refl, refl, refl), part v.part), refl), refl)
  where
    part : (p : Option (List ℕ)) → Derives n In (maybe (sign sign.Dot ▸ grammar.name)) (part_tokens p ++ rest) p rest
    part None = inr (refl, refl)
    part (Some q) = inl (q, ((tt, q), (token.Name q ∷ rest, (token.Delimiter sign.Dot, refl, refl, refl), (token.Name q, refl, refl, refl)), refl), refl)

named_derives : (n : ℕ) (In : Inner) (v : Variable) (rest : Kinds) → Derives n In (joined 0) (variable_tokens v ++ rest) (Named v) rest
unfolding joined unary primary
named_derives n In v rest = inr (refl, inr (inr (inr (inl (v, variable_derives n In v rest, refl)))))

-- ---- prefix operators

not_derives : (n depth : ℕ) (ts : Kinds) (a : Tree) (rest : Kinds) → Derives n (Within n depth) (joined 0) ts a rest → Derives n (Within n (suc depth)) (joined 0) (token.Keyword keyword.Not ∷ ts) (Not a) rest
unfolding joined unary negation Within
not_derives n depth ts a rest d = inr (refl, inr (inl ((tt, Not a), (ts, (token.Keyword keyword.Not, refl, refl, refl), (a, d, refl)), refl)))

minus_derives : (n depth : ℕ) (ts : Kinds) (a : Tree) (rest : Kinds) → make.is_signed (token.Delimiter sign.Minus ∷ ts) ≡ false → Derives n (Within n depth) (joined 0) ts a rest → Derives n (Within n (suc depth)) (joined 0) (token.Delimiter sign.Minus ∷ ts) (Minus a) rest
unfolding joined unary opposite Within
minus_derives n depth ts a rest p d = inr (p, inl ((tt, Minus a), (ts, (token.Delimiter sign.Minus, refl, refl, refl), (a, d, refl)), refl))

-- a decimal integer, which behind a minus has a base
abbrev unsigned_integer : ℕ → Tree
unsigned_integer k = Constant (literal.Integer (pos k))

based_derives : (n : ℕ) (In : Inner) (k : ℕ) (rest : Kinds) → Derives n In (joined 0) (token.Based k ∷ rest) (unsigned_integer k) rest
unfolding joined unary primary grammar.literal
based_derives n In k rest = inr (refl, inr (inr (inl (literal.Integer (pos k), (token.Based k, refl, refl, refl), refl))))

-- which operands have a base behind a minus
abbrev AsElsewhere : Tree → Type 0
AsElsewhere a = (ts : Kinds) → behind_minus a ts ≡ enclosed (is_looser 0 a) ts

based_or_not : (a : Tree) → ((k : ℕ) × (a ≡ unsigned_integer k)) ⊎ AsElsewhere a
based_or_not (Constant (literal.Integer (pos k))) = inl (k, refl)
based_or_not (Constant (literal.Integer (negsuc k))) = inr (λ ts. refl)
based_or_not (Constant (literal.Int k)) = inr (λ ts. refl)
based_or_not (Constant (literal.Dint k)) = inr (λ ts. refl)
based_or_not (Constant (literal.Bool b)) = inr (λ ts. refl)
based_or_not (Constant (literal.Time d)) = inr (λ ts. refl)
based_or_not (Named v) = inr (λ ts. refl)
based_or_not (Not a) = inr (λ ts. refl)
based_or_not (Minus a) = inr (λ ts. refl)
based_or_not (Binary o a b) = inr (λ ts. refl)

-- the minus is not the sign of an integer
not_signed : (a : Tree) (rest : Kinds) → make.is_signed (token.Delimiter sign.Minus ∷ behind_minus a (tree_tokens a) ++ rest) ≡ false
not_signed (Constant (literal.Integer (pos k))) rest = refl
not_signed (Constant (literal.Integer (negsuc k))) rest = refl
not_signed (Constant (literal.Int k)) rest = refl
not_signed (Constant (literal.Dint k)) rest = refl
not_signed (Constant (literal.Bool true)) rest = refl
not_signed (Constant (literal.Bool false)) rest = refl
not_signed (Constant (literal.Time d)) rest = refl
not_signed (Named v) rest = refl
not_signed (Not a) rest = refl
not_signed (Minus a) rest = refl
not_signed (Binary o a b) rest =
    let looser = lt-ltb 0 (suc (tighter o)) (omega arith) in
    subst (λ in_parentheses. make.is_signed (token.Delimiter sign.Minus ∷ (enclosed in_parentheses (tree_tokens (Binary o a b)) ++ rest)) ≡ false) (sym looser) refl

behind_minus_derives : (n : ℕ) (In : Inner) (a : Tree) (rest : Kinds) → Derives n In (joined 0) (enclosed (is_looser 0 a) (tree_tokens a) ++ rest) a rest → Derives n In (joined 0) (behind_minus a (tree_tokens a) ++ rest) a rest
behind_minus_derives n In a rest d = by_kind (based_or_not a)
  where
    by_kind : ((k : ℕ) × (a ≡ unsigned_integer k)) ⊎ AsElsewhere a → Derives n In (joined 0) (behind_minus a (tree_tokens a) ++ rest) a rest
    by_kind (inl p) = subst (λ t. Derives n In (joined 0) (behind_minus t (tree_tokens t) ++ rest) t rest) (sym p.1) (based_derives n In p.0 rest)
    by_kind (inr same) = subst (λ us. Derives n In (joined 0) (us ++ rest) a rest) (sym (same (tree_tokens a))) d

-- ---- operands

level_at_most : (t : Tree) → level t ≤ 7
level_at_most (Constant l) = omega arith
level_at_most (Named v) = omega arith
level_at_most (Not a) = omega arith
level_at_most (Minus a) = omega arith
level_at_most (Binary o a b) = by_operator o
  where
    by_operator : (o : Operator) → suc (tighter o) ≤ 7
    by_operator operator.Or = omega arith
    by_operator operator.Xor = omega arith
    by_operator operator.And = omega arith
    by_operator operator.Equal = omega arith
    by_operator operator.NotEqual = omega arith
    by_operator operator.Less = omega arith
    by_operator operator.Greater = omega arith
    by_operator operator.LessOrEqual = omega arith
    by_operator operator.GreaterOrEqual = omega arith
    by_operator operator.Add = omega arith
    by_operator operator.Subtract = omega arith
    by_operator operator.Multiply = omega arith
    by_operator operator.Divide = omega arith
    by_operator operator.Modulo = omega arith

not_looser : (wanted : ℕ) (a : Tree) → is_looser wanted a ≡ false → level a ≤ wanted
not_looser wanted a p = ltb-false wanted (level a) p

parentheses_derive : (n depth : ℕ) (ts : Kinds) (a : Tree) (rest : Kinds) → Derives n (Within n depth) (joined 7) (ts ++ token.Delimiter sign.Close ∷ rest) a (token.Delimiter sign.Close ∷ rest) → Derives n (Within n (suc depth)) (joined 0) (enclosed true ts ++ rest) a rest
unfolding joined unary primary parenthesized Within
parentheses_derive n depth ts a rest d =
    let close = token.Delimiter sign.Close in
    let open_ = token.Delimiter sign.Open in
    inr (refl, inr (inr (inr (inr ((a, tt), (close ∷ rest, ((tt, a), (ts ++ close ∷ rest, (open_, ap (λ (us : Kinds). open_ ∷ us) (append_assoc ts (close ∷ []) rest), refl, refl), (a, d, refl)), refl), (close, refl, refl, refl)), refl)))))

-- what a tree's tokens derive at its own level
Spelled : ℕ → Tree → Type 0
Spelled n t = (depth : ℕ) → nesting t ≤ depth → (rest : Kinds) → Derives n (Within n depth) (joined (level t)) (tree_tokens t ++ rest) t rest

operand : (n depth wanted : ℕ) (b : Bool) (t : Tree) → Spelled n t → deeper b (nesting t) ≤ depth → (b ≡ false → level t ≤ wanted) → (rest : Kinds) → Derives n (Within n depth) (joined wanted) (enclosed b (tree_tokens t) ++ rest) t rest
unfolding Spelled
operand n depth wanted false t h le low rest = up_to n (Within n depth) (level t) wanted (tree_tokens t ++ rest) t rest (low refl) (h depth le rest)
operand n zero wanted true t h le low rest = absurd (omega (arith, le))
operand n (suc depth) wanted true t h le low rest =
    let behind = token.Delimiter sign.Close ∷ rest in
    let d = up_to n (Within n depth) (level t) 7 (tree_tokens t ++ behind) t behind (level_at_most t) (h depth (omega (arith, le)) behind) in
    up_to n (Within n (suc depth)) 0 wanted (enclosed true (tree_tokens t) ++ rest) t rest (omega arith) (parentheses_derive n depth (tree_tokens t) t rest d)

-- ---- trees

tree_derives : (n : ℕ) (t : Tree) → Spelled n t
unfolding Spelled
tree_derives n (Constant l) depth le rest = literal_derives n (Within n depth) l rest
tree_derives n (Named v) depth le rest = named_derives n (Within n depth) v rest
tree_derives n (Not a) zero le rest = absurd (omega (arith, le))
tree_derives n (Not a) (suc depth) le rest =
    let d = operand n depth 0 (is_looser 0 a) a (tree_derives n a) (omega (arith, le)) (not_looser 0 a) rest in
    not_derives n depth (enclosed (is_looser 0 a) (tree_tokens a) ++ rest) a rest d
tree_derives n (Minus a) zero le rest = absurd (omega (arith, le))
tree_derives n (Minus a) (suc depth) le rest =
    let d = operand n depth 0 (is_looser 0 a) a (tree_derives n a) (omega (arith, le)) (not_looser 0 a) rest in
    minus_derives n depth (behind_minus a (tree_tokens a) ++ rest) a rest (not_signed a rest) (behind_minus_derives n (Within n depth) a rest d)
tree_derives n (Binary o a b) depth le rest =
    let l = tighter o in
    let left = enclosed (is_looser (suc l) a) (tree_tokens a) in
    let right = enclosed (is_looser l b) (tree_tokens b) in
    let m = deeper (is_looser (suc l) a) (nesting a) in
    let k = deeper (is_looser l b) (nesting b) in
    let first = le-max_left m k in
    let second = le-max_right m k in
    let d = operand n depth (suc l) (is_looser (suc l) a) a (tree_derives n a) (omega (arith, le, first)) (not_looser (suc l) a) (operator_token o ∷ (right ++ rest)) in
    let e = operand n depth l (is_looser l b) b (tree_derives n b) (omega (arith, le, second)) (not_looser l b) rest in
    let both = further n (Within n depth) l (left ++ (operator_token o ∷ (right ++ rest))) (operator_token o ∷ (right ++ rest)) (right ++ rest) rest o a b d (operator_derives n (Within n depth) o (right ++ rest)) e in
    subst (λ us. Derives n (Within n depth) (joined (suc l)) us (Binary o a b) rest) (sym (append_assoc left (operator_token o ∷ right) rest)) both

pub expression_derives : (n depth : ℕ) (t : Tree) (rest : Kinds) → nesting t ≤ depth → operators t ≤ n → Derives n (Within n depth) expression (tree_tokens t ++ rest) t rest
unfolding expression Spelled
expression_derives n depth t rest deep many = (up_to n (Within n depth) (level t) 7 (tree_tokens t ++ rest) t rest (level_at_most t) (tree_derives n t depth deep rest), many)
