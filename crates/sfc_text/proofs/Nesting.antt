-- What derives is nested no deeper than it may be.
use Rattle.std.proofs.Common.{◌≡◌, inl, inr, ℕ, zero, suc, ◌≤◌, Bool, true, false, List, Option, Some, None, nat_lt, refl, sym, ap, subst, ◌∙◌, arith}
use Rattle.std.proofs.Math.Nat.{max-le}
use Rattle.std.proofs.lemmas.Bool.{ltb-true, lt-ltb}
use Rattle.sfc_base.specs.declared.delimiter.Delimiter.TheVariants as sign
use Rattle.sfc_base.specs.declared.keyword.Keyword.TheVariants as keyword
use Rattle.sfc_tokens.specs.declared.token.TokenKind.{TokenKind}
use Rattle.sfc_tokens.specs.declared.token.TokenKind.TheVariants as token
use Rattle.sfc_tokens.specs.Tokens.{Kinds}
use Rattle.sfc_text.specs.declared.expression.Operator.{Operator}
use Rattle.sfc_text.specs.Building as make
use Rattle.sfc_text.specs.Grammar as grammar
use Rattle.sfc_text.specs.Grammar.{joined, unary, primary, parenthesized, opposite, negation, expression, operators_at}
use Rattle.sfc_text.specs.Limits.{Within}
use Rattle.sfc_text.specs.Marks.{is_any}
use Rattle.sfc_text.specs.Rules.{Many, none, next, Both, Inner, Derives}
use Rattle.sfc_text.specs.Sorts.{AnExpression, AnOperand}
use Rattle.sfc_text.specs.Trees.{Tree, Binary, operators}
use Rattle.sfc_text.specs.Spelled.{tighter, level, is_looser, deeper, nesting}

-- ---- the level of an operator

abbrev level_of_found : Option Operator → ℕ
level_of_found (Some o) = tighter o
level_of_found None = 0

abbrev AtLevel : ℕ → TokenKind → Type 0
AtLevel l t = is_any (operators_at (suc l)) t ≡ true → level_of_found (make.operator_of t) ≡ l

-- a test that fails doesn't hold
failed : false ≡ true → ⊥
failed p = absurd cc

first_level : (t : TokenKind) → AtLevel 0 t
first_level (token.Delimiter sign.Star) p = refl
first_level (token.Delimiter sign.Slash) p = refl
first_level (token.Keyword keyword.Mod) p = refl
first_level _ p = absurd (failed p)

second_level : (t : TokenKind) → AtLevel 1 t
second_level (token.Delimiter sign.Plus) p = refl
second_level (token.Delimiter sign.Minus) p = refl
second_level _ p = absurd (failed p)

third_level : (t : TokenKind) → AtLevel 2 t
third_level (token.Delimiter sign.Less) p = refl
third_level (token.Delimiter sign.Greater) p = refl
third_level (token.Delimiter sign.LessOrEqual) p = refl
third_level (token.Delimiter sign.GreaterOrEqual) p = refl
third_level _ p = absurd (failed p)

fourth_level : (t : TokenKind) → AtLevel 3 t
fourth_level (token.Delimiter sign.Equal) p = refl
fourth_level (token.Delimiter sign.NotEqual) p = refl
fourth_level _ p = absurd (failed p)

fifth_level : (t : TokenKind) → AtLevel 4 t
fifth_level (token.Keyword keyword.And) p = refl
fifth_level (token.Delimiter sign.Ampersand) p = refl
fifth_level _ p = absurd (failed p)

sixth_level : (t : TokenKind) → AtLevel 5 t
sixth_level (token.Keyword keyword.Xor) p = refl
sixth_level _ p = absurd (failed p)

seventh_level : (t : TokenKind) → AtLevel 6 t
seventh_level (token.Keyword keyword.Or) p = refl
seventh_level _ p = absurd (failed p)

each_level : (l : ℕ) → l ≤ 6 → (t : TokenKind) → AtLevel l t
each_level zero le t = first_level t
each_level (suc zero) le t = second_level t
each_level (suc (suc zero)) le t = third_level t
each_level (suc (suc (suc zero))) le t = fourth_level t
each_level (suc (suc (suc (suc zero)))) le t = fifth_level t
each_level (suc (suc (suc (suc (suc zero))))) le t = sixth_level t
each_level (suc (suc (suc (suc (suc (suc zero)))))) le t = seventh_level t
each_level (suc (suc (suc (suc (suc (suc (suc l))))))) le t = absurd (omega (arith, le))

operator_level : (n : ℕ) (In : Inner) (l : ℕ) → l ≤ 6 → (ts : Kinds) (o : Operator) (rest : Kinds) → Derives n In (grammar.operator (suc l)) ts o rest → tighter o ≡ l
operator_level n In l le ts o rest d = ap level_of_found (sym d.3) ∙ each_level l le d.0 d.2

-- ---- what a tree needs

-- where no looser level than this one may stand
abbrev needs : ℕ → Tree → ℕ
needs l t = deeper (is_looser l t) (nesting t)

at_least : (b : Bool) (k m : ℕ) → deeper b k ≤ m → k ≤ m
at_least false k m le = le
at_least true k m le = omega (arith, le)

at_most : (b : Bool) (k m : ℕ) → suc k ≤ m → deeper b k ≤ m
at_most false k m le = omega (arith, le)
at_most true k m le = le

next_needs : (l : ℕ) (t : Tree) (m : ℕ) → needs l t ≤ m → needs (suc l) t ≤ m
next_needs l t m le = by_test (nat_lt (suc l) (level t)) refl
  where
    by_test : (b : Bool) → nat_lt (suc l) (level t) ≡ b → deeper b (nesting t) ≤ m
    by_test false p = at_least (is_looser l t) (nesting t) m le
    by_test true p = let lt = ltb-true (suc l) (level t) p in let looser = lt-ltb l (level t) (omega (arith, lt)) in subst (λ b. deeper b (nesting t) ≤ m) looser le

not_below_itself : (k : ℕ) → nat_lt k k ≡ false
not_below_itself k = by_test (nat_lt k k) refl
  where
    by_test : (b : Bool) → nat_lt k k ≡ b → b ≡ false
    by_test false p = refl
    by_test true p = let lt = ltb-true k k p in absurd (omega (arith, lt))

binary_needs : (o : Operator) (a b : Tree) (l m : ℕ) → tighter o ≡ l → needs (suc l) a ≤ m → needs l b ≤ m → needs (suc l) (Binary o a b) ≤ m
binary_needs o a b l m same left right = subst (λ k. needs (suc k) (Binary o a b) ≤ m) same here
  where
    here : needs (suc (tighter o)) (Binary o a b) ≤ m
    here =
        let both = max-le (subst (λ k. needs (suc k) a ≤ m) (sym same) left) (subst (λ k. needs k b ≤ m) (sym same) right) in
        subst (λ c. deeper c (nesting (Binary o a b)) ≤ m) (sym (not_below_itself (suc (tighter o)))) both

-- ---- what derives

-- by a rule, what derives needs no more than this
abbrev NeedsAtMost : ℕ → Inner → ℕ → ℕ → Type 0
NeedsAtMost n In l m = (ts : Kinds) (t : Tree) (rest : Kinds) → Derives n In (joined l) ts t rest → needs l t ≤ m

grouped_needs : (n : ℕ) (In : Inner) (l : ℕ) → l ≤ 6 → (m : ℕ) → NeedsAtMost n In l m → (a : Tree) → needs (suc l) a ≤ m → {ts rest : Kinds} {xs : List (Operator × Tree)} → Many (Both (Derives n In (grammar.operator (suc l))) (Derives n In (joined l))) ts xs rest → needs (suc l) (make.grouped a xs) ≤ m
grouped_needs n In l le m h a so_far none = so_far
grouped_needs n In l le m h a so_far (next {ts = ts} {mid = mid} {x = x} i rest) =
    grouped_needs n In l le m h (make.join a x) (binary_needs x.0 a x.1 l m (operator_level n In l le ts x.0 i.0 i.1) so_far (h i.0 x.1 mid i.2)) rest

abbrev Parenthesized : Inner → ℕ → Type 0
Parenthesized In m = (ts : Kinds) (t : Tree) (rest : Kinds) → In AnExpression ts t rest → suc (nesting t) ≤ m

abbrev Prefixed : Inner → ℕ → Type 0
Prefixed In m = (ts : Kinds) (t : Tree) (rest : Kinds) → In AnOperand ts t rest → suc (needs 0 t) ≤ m

primary_needs : (n : ℕ) (In : Inner) (m : ℕ) → Parenthesized In m → (ts : Kinds) (t : Tree) (rest : Kinds) → Derives n In primary ts t rest → needs 0 t ≤ m
unfolding primary parenthesized
primary_needs n In m h ts t rest (inl d) = subst (λ u. needs 0 u ≤ m) (sym d.2) (omega arith)
primary_needs n In m h ts t rest (inr (inl d)) = subst (λ u. needs 0 u ≤ m) (sym d.2) (omega arith)
primary_needs n In m h ts t rest (inr (inr d)) =
    let e = d.1.1 in
    let same = d.2 ∙ e.2 ∙ e.1.2.2 in
    subst (λ u. needs 0 u ≤ m) (sym same) (at_most (is_looser 0 e.1.2.0) (nesting e.1.2.0) m (h e.1.0 e.1.2.0 d.1.0 e.1.2.1))

unary_needs : (n : ℕ) (In : Inner) (m : ℕ) → Parenthesized In m → Prefixed In m → NeedsAtMost n In 0 m
unfolding joined unary opposite negation
unary_needs n In m h g ts t rest (inl d) = subst (λ u. needs 0 u ≤ m) (sym d.1.2) (omega arith)
unary_needs n In m h g ts t rest (inr (p, inl d)) = subst (λ u. needs 0 u ≤ m) (sym (d.2 ∙ d.1.2.2)) (g d.1.0 d.1.2.0 rest d.1.2.1)
unary_needs n In m h g ts t rest (inr (p, inr (inl d))) = subst (λ u. needs 0 u ≤ m) (sym (d.2 ∙ d.1.2.2)) (g d.1.0 d.1.2.0 rest d.1.2.1)
unary_needs n In m h g ts t rest (inr (p, inr (inr d))) = primary_needs n In m h ts t rest d

level_needs : (n : ℕ) (In : Inner) (m : ℕ) → Parenthesized In m → Prefixed In m → (l : ℕ) → l ≤ 7 → NeedsAtMost n In l m
unfolding joined
level_needs n In m h g zero le ts t rest d = unary_needs n In m h g ts t rest d
level_needs n In m h g (suc l) le ts t rest d =
    let tighter_needs = level_needs n In m h g l (omega (arith, le)) in
    let first = next_needs l d.0.0 m (tighter_needs ts d.0.0 d.1.0 d.1.1) in
    subst (λ u. needs (suc l) u ≤ m) (sym d.2) (grouped_needs n In l (omega (arith, le)) m tighter_needs d.0.0 first d.1.2)

inside_needs : (n depth : ℕ) → Parenthesized (Within n depth) depth × Prefixed (Within n depth) depth
unfolding Within joined
inside_needs n zero = (λ ts t rest d. absurd d, λ ts t rest d. absurd d)
inside_needs n (suc depth) =
    let i = inside_needs n depth in
    (λ ts t rest d. let le = at_least (is_looser 7 t) (nesting t) depth (level_needs n (Within n depth) depth i.0 i.1 7 (omega arith) ts t rest d) in omega (arith, le), λ ts t rest d. let le = level_needs n (Within n depth) depth i.0 i.1 0 (omega arith) ts t rest d in omega (arith, le))

pub expression_needs : (n depth : ℕ) (ts : Kinds) (t : Tree) (rest : Kinds) → Derives n (Within n depth) expression ts t rest → nesting t ≤ depth × operators t ≤ n
unfolding expression
expression_needs n depth ts t rest d =
    let i = inside_needs n depth in
    (at_least (is_looser 7 t) (nesting t) depth (level_needs n (Within n depth) depth i.0 i.1 7 (omega arith) ts t rest d.0), d.1)
