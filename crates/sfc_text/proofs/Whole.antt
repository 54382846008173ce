-- The laws of reading, within any limits and by any rule.
use Rattle.std.proofs.Common.{◌≡◌, inl, inr, ℕ, zero, suc, ◌+◌, ◌≤◌, true, false, [], Ok, Err, refl, sym, ap, subst, ◌∙◌, arith}
use Rattle.sfc_tokens.specs.Tokens.{Kinds}
use Rattle.sfc_text.specs.Sorts.{Sort, AnExpression, AnOperand, Branches}
use Rattle.sfc_text.specs.Rules.{Rule, Derives}
use Rattle.sfc_text.specs.Grammar.{literal, signed, variable, parenthesized, primary, opposite, negation, unary, joined, expression, assignment, conditional, statement, entry, body, branch, other_branch, other_branches, else_branch, branches, nested}
use Rattle.sfc_text.specs.Limits.{Limits, Within, Derived}
use Rattle.sfc_text.specs.Parsing.Depth.{inside}
use Rattle.sfc_text.specs.Parsing.Lookahead.{begins, fine, first, more, empty, first_of, more_of}
use Rattle.sfc_text.specs.Parsing.Reading.{Syntax, Read, read}
use Rattle.sfc_text.proofs.Sound.{Says, sound}
use Rattle.sfc_text.proofs.Complete.{taken_front, InFronts, front, InAgain, complete}
use Rattle.sfc_text.proofs.Deeper.{Implies, derives_deeper, Agrees, read_agrees}
use Rattle.sfc_text.proofs.Marks.{covered, covered_begins, covered_ends}

-- ---- what the table of nested rules keeps, by computing

pub nested_takes : (s : Sort) → empty (nested s) ≡ false
unfolding joined unary opposite negation signed primary parenthesized literal variable branches branch expression
nested_takes AnExpression = refl
nested_takes AnOperand = refl
nested_takes Branches = refl

nested_fine : (s : Sort) → fine (nested s) ≡ true
unfolding joined unary opposite negation signed primary parenthesized literal variable branches branch expression body entry statement conditional assignment other_branches other_branch else_branch
nested_fine AnExpression = refl
nested_fine AnOperand = refl
nested_fine Branches = refl

nested_first : (s : Sort) → covered (first (nested s)) (first_of s) ≡ true
unfolding joined unary opposite negation signed primary parenthesized literal variable branches branch expression
nested_first AnExpression = refl
nested_first AnOperand = refl
nested_first Branches = refl

nested_more : (s : Sort) → covered (more (nested s)) (more_of s) ≡ true
unfolding joined unary opposite negation signed primary parenthesized literal variable branches branch expression body entry statement conditional assignment other_branches other_branch else_branch
nested_more AnExpression = refl
nested_more AnOperand = refl
nested_more Branches = refl

-- ---- at any depth

inside_says : (n d : ℕ) (s : Sort) → Says (Within n d s) (inside n d s)
unfolding inside Within
inside_says n zero s ts x e = absurd cc
inside_says n (suc d) s ts x e = sound n (Within n d) (inside n d) (inside_says n d) (nested s) ts x e

within_front : (n d : ℕ) → InFronts (Within n d)
unfolding Within
within_front n zero s ts x rest h = absurd h
within_front n (suc d) s ts x rest h =
    let p = taken_front (empty (nested s)) (first (nested s)) ts rest (nested_takes s) (front n (Within n d) (within_front n d) (nested s) ts x rest h) in
    inl (covered_begins (first (nested s)) (first_of s) ts (nested_first s) p.0, p.1)

within_again : (n d : ℕ) → InAgain (Within n d) (inside n d)
unfolding inside Within
within_again n zero s ts x rest h ends = absurd h
within_again n (suc d) s ts x rest h ends = complete n (Within n d) (inside n d) (within_front n d) (within_again n d) (nested s) (nested_fine s) ts x rest h (covered_ends (more (nested s)) (more_of s) rest (nested_more s) ends)

-- ---- wider limits

abbrev plus : ℕ → ℕ → ℕ
plus d zero = d
plus d (suc k) = suc (plus d k)

plus_is : (d k : ℕ) → plus d k ≡ d + k
plus_is d zero = omega arith
plus_is d (suc k) = let i = plus_is d k in omega (arith, i)

plus_other : (d e : ℕ) → plus e d ≡ plus d e
plus_other d e = let i = plus_is d e in let j = plus_is e d in omega (arith, i, j)

plus_more : (d k : ℕ) → d ≤ plus d k
plus_more d k = let i = plus_is d k in omega (arith, i)

same_within : (n n' : ℕ) → n ≤ n' → (d : ℕ) (s : Sort) → Implies (Within n d s) (Within n' d s)
unfolding Within
same_within n n' le zero s ts x rest h = absurd h
same_within n n' le (suc d) s ts x rest h = derives_deeper n n' le (Within n d) (Within n' d) (same_within n n' le d) (nested s) ts x rest h

deeper : (n d : ℕ) (s : Sort) → Implies (Within n d s) (Within n (suc d) s)
unfolding Within
deeper n zero s ts x rest h = absurd h
deeper n (suc d) s ts x rest h = derives_deeper n n (omega arith) (Within n d) (Within n (suc d)) (deeper n d) (nested s) ts x rest h

sunk : {X : Type 0} (r : Rule X) (n d k : ℕ) → Implies (Derives n (Within n d) r) (Derives n (Within n (plus d k)) r)
sunk r n d zero ts x rest h = h
sunk r n d (suc k) ts x rest h = derives_deeper n n (omega arith) (Within n (plus d k)) (Within n (suc (plus d k))) (deeper n (plus d k)) r ts x rest (sunk r n d k ts x rest h)

abbrev wider : Limits → Limits → Limits
wider l m = record { depth = plus l.depth m.depth; operators = plus l.operators m.operators }

widened : {X : Type 0} (r : Rule X) (l m : Limits) → Implies (Derived l r) (Derived (wider l m) r)
widened r l m ts x rest h =
    let more = plus_more l.operators m.operators in
    sunk r (plus l.operators m.operators) l.depth m.depth ts x rest (derives_deeper l.operators (plus l.operators m.operators) more (Within l.operators l.depth) (Within (plus l.operators m.operators) l.depth) (same_within l.operators (plus l.operators m.operators) more l.depth) r ts x rest h)

other_way : (l m : Limits) → wider m l ≡ wider l m
other_way l m = let d = plus_other l.depth m.depth in let n = plus_other l.operators m.operators in rw (d, n) refl

-- reading within limits
abbrev pub within : {X : Type 0} → Limits → Rule X → Kinds → Read (X × Kinds)
within l r ts = read l.operators (inside l.operators l.depth) r ts

inside_same : (n n' : ℕ) → n ≤ n' → (d : ℕ) (s : Sort) (ts : Kinds) → Agrees (inside n d s ts) (inside n' d s ts)
unfolding inside
inside_same n n' le zero s ts = inl refl
inside_same n n' le (suc d) s ts = read_agrees n n' le (inside n d) (inside n' d) (inside_same n n' le d) (nested s) ts

inside_agrees : (n d : ℕ) (s : Sort) (ts : Kinds) → Agrees (inside n d s ts) (inside n (suc d) s ts)
unfolding inside
inside_agrees n zero s ts = inl refl
inside_agrees n (suc d) s ts = read_agrees n n (omega arith) (inside n d) (inside n (suc d)) (inside_agrees n d) (nested s) ts

agrees_then : {X : Type 0} (q r s : Read X) → Agrees q r → Agrees r s → Agrees q s
agrees_then q r s (inl e) h = inl e
agrees_then q r s (inr e) (inl h) = inl (e ∙ h)
agrees_then q r s (inr e) (inr h) = inr (e ∙ h)

agrees_sunk : {X : Type 0} (r : Rule X) (n d k : ℕ) (ts : Kinds) → Agrees (read n (inside n d) r ts) (read n (inside n (plus d k)) r ts)
agrees_sunk r n d zero ts = inr refl
agrees_sunk r n d (suc k) ts = agrees_then (read n (inside n d) r ts) (read n (inside n (plus d k)) r ts) (read n (inside n (suc (plus d k))) r ts) (agrees_sunk r n d k ts) (read_agrees n n (omega arith) (inside n (plus d k)) (inside n (suc (plus d k))) (inside_agrees n (plus d k)) r ts)

agrees_wider : {X : Type 0} (r : Rule X) (l m : Limits) (ts : Kinds) → Agrees (within l r ts) (within (wider l m) r ts)
agrees_wider r l m ts =
    let n = plus l.operators m.operators in
    let more = plus_more l.operators m.operators in
    agrees_then (within l r ts) (read n (inside n l.depth) r ts) (within (wider l m) r ts) (read_agrees l.operators n more (inside l.operators l.depth) (inside n l.depth) (inside_same l.operators n more l.depth) r ts) (agrees_sunk r n l.depth m.depth ts)

-- ---- the laws

pub read_derives : {X : Type 0} (r : Rule X) (l : Limits) (ts : Kinds) (x : X × Kinds) → within l r ts ≡ Ok x → Derived l r ts x.0 x.1
read_derives r l ts x e = sound l.operators (Within l.operators l.depth) (inside l.operators l.depth) (inside_says l.operators l.depth) r ts x e

pub derived_read : {X : Type 0} (r : Rule X) → fine r ≡ true → (l : Limits) (ts : Kinds) (x : X) (rest : Kinds) → Derived l r ts x rest → begins (more r) rest ≡ false → within l r ts ≡ Ok (x, rest)
derived_read r ok l ts x rest h ends = complete l.operators (Within l.operators l.depth) (inside l.operators l.depth) (within_front l.operators l.depth) (within_again l.operators l.depth) r ok ts x rest h ends

ok_is : {X : Type 0} (x y : X) (rest : Kinds) → ◌≡◌ {A = Read (X × Kinds)} (Ok (x, rest)) (Ok (y, rest)) → x ≡ y
ok_is x y rest e = let same : (x, rest) ≡ (y, rest) = cc in ap (λ (p : _ × Kinds). p.0) same

-- a text has one tree by a rule that is fine
pub one_tree : {X : Type 0} (r : Rule X) → fine r ≡ true → (l m : Limits) (ts : Kinds) (x y : X) → Derived l r ts x [] → Derived m r ts y [] → x ≡ y
one_tree r ok l m ts x y h g =
    let p = derived_read r ok (wider l m) ts x [] (widened r l m ts x [] h) refl in
    let q = derived_read r ok (wider l m) ts y [] (subst (λ w. Derived w r ts y []) (other_way l m) (widened r m l ts y [] g)) refl in
    ok_is x y [] (sym p ∙ q)

-- what is refused as Syntax has no tree within any limits
pub no_tree : {X : Type 0} (r : Rule X) → fine r ≡ true → (l m : Limits) (ts : Kinds) (x : X) → within l r ts ≡ Err Syntax → Derived m r ts x [] → ⊥
no_tree r ok l m ts x h g =
    let q = derived_read r ok (wider l m) ts x [] (subst (λ w. Derived w r ts x []) (other_way l m) (widened r m l ts x [] g)) refl in
    by_first (agrees_wider r l m ts) q
  where
    by_first : Agrees (within l r ts) (within (wider l m) r ts) → within (wider l m) r ts ≡ Ok (x, []) → ⊥
    by_first (inl p) q = absurd cc
    by_first (inr p) q = absurd cc

-- what is refused has no tree within the limits
pub refused : {X : Type 0} (r : Rule X) → fine r ≡ true → (l : Limits) (ts : Kinds) (x : X) → ((y : X × Kinds) → within l r ts ≡ Ok y → ⊥) → Derived l r ts x [] → ⊥
refused r ok l ts x h g = h (x, []) (derived_read r ok l ts x [] g refl)

-- what is read up to some token has no tree that is all tokens
pub no_longer_tree : {X : Type 0} (r : Rule X) → fine r ≡ true → (l m : Limits) (ts : Kinds) (x : X × Kinds) (y : X) → within l r ts ≡ Ok x → Derived m r ts y [] → x.1 ≡ []
no_longer_tree r ok l m ts x y h g =
    let q = derived_read r ok (wider l m) ts y [] (subst (λ w. Derived w r ts y []) (other_way l m) (widened r m l ts y [] g)) refl in
    by_first (agrees_wider r l m ts) q
  where
    by_first : Agrees (within l r ts) (within (wider l m) r ts) → within (wider l m) r ts ≡ Ok (y, []) → x.1 ≡ []
    by_first (inl p) q = absurd cc
    by_first (inr p) q = let same : x ≡ (y, []) = cc in ap (λ (z : _ × Kinds). z.1) same
