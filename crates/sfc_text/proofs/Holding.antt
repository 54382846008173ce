-- What holds of all that a rule derives from tokens that have a property each.
use Rattle.std.proofs.Common.{◌≡◌, inl, inr, ℕ, zero, suc, List, [], ◌∷◌, ◌++◌, Option, Some, All, sym, subst, arith}
use Rattle.std.proofs.lemmas.List.Elements.{All-nil, All-cons, All-head, All-tail, All-append}
use Rattle.sfc_tokens.specs.declared.token.TokenKind.{TokenKind}
use Rattle.sfc_tokens.specs.Tokens.{Kinds}
use Rattle.sfc_text.specs.Declares.{OfOptional}
use Rattle.sfc_text.specs.Grammar.{nested}
use Rattle.sfc_text.specs.Limits.{Limits, Within, Derived}
use Rattle.sfc_text.specs.Marks.{Marks}
use Rattle.sfc_text.specs.Rules as rules
use Rattle.sfc_text.specs.Rules.{Rule, map, both, either, Many, none, next, Inner, Derives}
use Rattle.sfc_text.specs.Sorts.{Sort}
use Rattle.sfc_text.specs.Terms.{◌▸◌, ◌◂◌, folded, maybe, else_given, repeated, gathered}

-- ---- the tokens behind

-- the tokens behind have the property too
abbrev Leaves : {X : Type 0} → (TokenKind → Type 0) → (Kinds → X → Kinds → Type 0) → Type 0
Leaves {X = X} P Item = (ts : Kinds) (x : X) (rest : Kinds) → Item ts x rest → All P ts → All P rest

many_leave : {X : Type 0} (P : TokenKind → Type 0) (Item : Kinds → X → Kinds → Type 0) → Leaves P Item → {ts rest : Kinds} {xs : List X} → Many Item ts xs rest → All P ts → All P rest
many_leave P Item h none all = all
many_leave P Item h (next {ts = ts} {mid = mid} {x = x} i m) all = many_leave P Item h m (h ts x mid i all)

leaves : {X : Type 0} (P : TokenKind → Type 0) (n : ℕ) (In : Inner) → ((s : Sort) → Leaves P (In s)) → (rule : Rule X) → Leaves P (Derives n In rule)
leaves P n In h (rules.token marks value) ts x rest d all = All-tail P d.0 rest (subst (All P) d.1 all)
leaves P n In h (rules.nothing y) ts x rest d all = subst (All P) d.0 all
leaves P n In h (rules.map f a) ts x rest d all = leaves P n In h a ts d.0 rest d.1 all
leaves P n In h (rules.both f a b) ts x rest d all = leaves P n In h b d.1.0 d.0.1 rest d.1.2 (leaves P n In h a ts d.0.0 d.1.0 d.1.1 all)
leaves P n In h (rules.either a b) ts x rest (inl d) all = leaves P n In h a ts x rest d all
leaves P n In h (rules.either a b) ts x rest (inr d) all = leaves P n In h b ts x rest d all
leaves P n In h (rules.many f a) ts x rest d all = many_leave P (Derives n In a) (leaves P n In h a) d.1 all
leaves P n In h (rules.chain f a s) ts x rest d all =
    let each : Leaves P (rules.Both (Derives n In s) (Derives n In a)) = λ us y left e so_far. leaves P n In h a e.0 y.1 left e.2 (leaves P n In h s us y.0 e.0 e.1 so_far) in
    many_leave P (rules.Both (Derives n In s) (Derives n In a)) each d.1.2 (leaves P n In h a ts d.0.0 d.1.0 d.1.1 all)
leaves P n In h (rules.ahead p a b) ts x rest (inl d) all = leaves P n In h a ts x rest d.1 all
leaves P n In h (rules.ahead p a b) ts x rest (inr d) all = leaves P n In h b ts x rest d.1 all
leaves P n In h (rules.inner s f) ts x rest d all = h s ts d.0 rest d.1 all
leaves P n In h (rules.counted count a) ts x rest d all = leaves P n In h a ts x rest d.0 all

within_leaves : (P : TokenKind → Type 0) (n depth : ℕ) (s : Sort) → Leaves P (Within n depth s)
unfolding Within
within_leaves P n zero s ts x rest d all = absurd d
within_leaves P n (suc depth) s ts x rest d all = leaves P n (Within n depth) (within_leaves P n depth) (nested s) ts x rest d all

behind : {X : Type 0} (P : TokenKind → Type 0) (limits : Limits) (rule : Rule X) → Leaves P (Derived limits rule)
behind P limits rule = leaves P limits.operators (Within limits.operators limits.depth) (within_leaves P limits.operators limits.depth) rule

-- ---- what is derived

-- Q holds of each that the rule derives from tokens of which P holds
pub record Gives {X : Type 0} (P : TokenKind → Type 0) (limits : Limits) (rule : Rule X) (Q : X → Type 0) : Type 0 where
  pub holds : (ts : Kinds) (x : X) (rest : Kinds) → Derived limits rule ts x rest → All P ts → Q x

-- what says nothing
abbrev pub Anything : {X : Type 0} → X → Type 0
Anything x = Unit {0}

-- what holds of everything
pub always : {X : Type 0} {P : TokenKind → Type 0} {limits : Limits} {rule : Rule X} {Q : X → Type 0} → ((x : X) → Q x) → Gives P limits rule Q
always h = record { holds = λ ts x rest d all. h x }

-- what follows
pub so : {X : Type 0} {P : TokenKind → Type 0} {limits : Limits} {rule : Rule X} {Q R : X → Type 0} → Gives P limits rule Q → ((x : X) → Q x → R x) → Gives P limits rule R
so g h = record { holds = λ ts x rest d all. h x (g.holds ts x rest d all) }

-- a value of one token
pub of_token : {X : Type 0} {P : TokenKind → Type 0} {limits : Limits} {marks : Marks} {value : TokenKind → Option X} {Q : X → Type 0} → ((t : TokenKind) (x : X) → P t → value t ≡ Some x → Q x) → Gives P limits (rules.token marks value) Q
of_token {P = P} h = record { holds = λ ts x rest d all. h d.0 x (All-head P d.0 rest (subst (All P) d.1 all)) d.3 }

pub of_map : {A X : Type 0} {P : TokenKind → Type 0} {limits : Limits} {f : A → X} {a : Rule A} {Q : X → Type 0} → Gives P limits a (λ y. Q (f y)) → Gives P limits (map f a) Q
of_map {Q = Q} g = record { holds = λ ts x rest d all. subst Q (sym d.2) (g.holds ts d.0 rest d.1 all) }

pub of_both : {A B X : Type 0} {P : TokenKind → Type 0} {limits : Limits} {f : A → B → X} {a : Rule A} {b : Rule B} {R : X → Type 0} (Q : A → Type 0) → Gives P limits a Q → Gives P limits b (λ y. (x : A) → Q x → R (f x y)) → Gives P limits (both f a b) R
of_both {P = P} {limits = limits} {a = a} {R = R} Q g h = record { holds = λ ts x rest d all. subst R (sym d.2) (h.holds d.1.0 d.0.1 rest d.1.2 (behind P limits a ts d.0.0 d.1.0 d.1.1 all) d.0.0 (g.holds ts d.0.0 d.1.0 d.1.1 all)) }

pub of_left : {A B : Type 0} {P : TokenKind → Type 0} {limits : Limits} {a : Rule A} {b : Rule B} {Q : A → Type 0} → Gives P limits a Q → Gives P limits (a ◂ b) Q
of_left {Q = Q} g = of_both Q g (always (λ y x q. q))

pub of_right : {A B : Type 0} {P : TokenKind → Type 0} {limits : Limits} {a : Rule A} {b : Rule B} {Q : B → Type 0} → Gives P limits b Q → Gives P limits (a ▸ b) Q
of_right g = of_both Anything (always (λ x. tt)) (so g (λ y q x t. q))

pub of_either : {X : Type 0} {P : TokenKind → Type 0} {limits : Limits} {a b : Rule X} {Q : X → Type 0} → Gives P limits a Q → Gives P limits b Q → Gives P limits (either a b) Q
of_either {P = P} {limits = limits} {a = a} {b = b} {Q = Q} g h = record { holds = by_side }
  where
    by_side : (ts : Kinds) (x : _) (rest : Kinds) → Derived limits (either a b) ts x rest → All P ts → Q x
    by_side ts x rest (inl d) all = g.holds ts x rest d all
    by_side ts x rest (inr d) all = h.holds ts x rest d all

-- what may be left out
pub of_else_given : {X : Type 0} {P : TokenKind → Type 0} {limits : Limits} {y : X} {a : Rule X} {Q : X → Type 0} → Q y → Gives P limits a Q → Gives P limits (else_given y a) Q
of_else_given {Q = Q} q g = of_either g (record { holds = λ ts x rest d all. subst Q (sym d.1) q })

pub of_maybe : {X : Type 0} {P : TokenKind → Type 0} {limits : Limits} {a : Rule X} (Q : X → Type 0) → Gives P limits a Q → Gives P limits (maybe a) (OfOptional Q)
of_maybe Q g = of_else_given tt (of_map g)

-- items in a row
many_give : {X : Type 0} (P : TokenKind → Type 0) (limits : Limits) (rule : Rule X) (Q : X → Type 0) → Gives P limits rule Q → {ts rest : Kinds} {xs : List X} → Many (Derived limits rule) ts xs rest → All P ts → All Q xs
many_give P limits rule Q g none all = All-nil Q
many_give P limits rule Q g (next {ts = ts} {mid = mid} {x = x} {xs = xs} i m) all =
    All-cons Q x xs (g.holds ts x mid i all) (many_give P limits rule Q g m (behind P limits rule ts x mid i all))

pub of_repeated : {X : Type 0} {P : TokenKind → Type 0} {limits : Limits} {rule : Rule X} {Q : X → Type 0} → Gives P limits rule Q → Gives P limits (repeated rule) (All Q)
of_repeated {P = P} {limits = limits} {rule = rule} {Q = Q} g = record { holds = λ ts xs rest d all. subst (All Q) (sym d.2) (many_give P limits rule Q g d.1 all) }

all_folded : {X : Type 0} (Q : X → Type 0) (front : List X) (blocks : List (List X)) → All Q front → All (All Q) blocks → All Q (folded (λ xs ys. xs ++ ys) front blocks)
all_folded Q front [] h g = h
all_folded Q front (xs ∷ blocks) h g = all_folded Q (front ++ xs) blocks (All-append Q front xs h (g 0 xs (omega arith))) (All-tail (All Q) xs blocks g)

pub of_gathered : {X : Type 0} {P : TokenKind → Type 0} {limits : Limits} {rule : Rule (List X)} (Q : X → Type 0) → Gives P limits rule (All Q) → Gives P limits (gathered rule) (All Q)
of_gathered {P = P} {limits = limits} {rule = rule} Q g = record { holds = λ ts xs rest d all. subst (All Q) (sym d.2) (all_folded Q [] d.0 (All-nil Q) (many_give P limits rule (All Q) g d.1 all)) }
