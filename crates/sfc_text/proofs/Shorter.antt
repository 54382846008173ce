-- What is left is shorter than what was read, by any rule.
use Rattle.std.proofs.Common.{◌≡◌, ℕ, zero, suc, ◌<◌, ◌≤◌, Bool, true, false, cond, ◌&&◌, ◌||◌, nat_le, List, [], ◌∷◌, length, Option, Some, None, Ok, Err, refl, sym, ap, subst, ◌∙◌, arith}
use Rattle.sfc_tokens.specs.declared.token.TokenKind.{TokenKind}
use Rattle.sfc_tokens.specs.Tokens.{Kinds}
use Rattle.sfc_text.specs.Marks.{Marks, is_any}
use Rattle.sfc_text.specs.Parsing.Lookahead.{begins}
use Rattle.sfc_text.specs.Sorts.{Sort}
use Rattle.sfc_text.specs.Rules as rules
use Rattle.sfc_text.specs.Rules.{Rule}
use Rattle.sfc_text.specs.Parsing.Lookahead.{empty, first}
use Rattle.sfc_text.specs.Parsing.Reading.{TooDeep, Read, ◌>>=◌, taken, one, Found, some, found, and_more, items, all, pair, limited, Inside, read}

-- the value of a step that did not fail
pub bind_ok : {A B : Type 0} (r : Read A) (f : A → Read B) (y : B) → (r >>= f) ≡ Ok y → (x : A) × (r ≡ Ok x) × (f x ≡ Ok y)
bind_ok (Ok x) f y e = (x, refl, e)
bind_ok (Err d) f y e = absurd cc

-- ---- at least one token is taken, unless none may be

abbrev pub Taking : Bool → ℕ → ℕ → Type 0
Taking true n m = n ≤ m
Taking false n m = n < m

pub weaker : (e : Bool) (n m : ℕ) → Taking e n m → n ≤ m
weaker true n m h = h
weaker false n m h = omega (arith, h)

taking_both : (e f : Bool) (n m k : ℕ) → Taking e n m → Taking f k n → Taking (e && f) k m
taking_both true true n m k h g = omega (arith, h, g)
taking_both true false n m k h g = omega (arith, h, g)
taking_both false true n m k h g = omega (arith, h, g)
taking_both false false n m k h g = omega (arith, h, g)

taking_left : (e f : Bool) (n m : ℕ) → Taking e n m → Taking (e || f) n m
taking_left true f n m h = h
taking_left false true n m h = omega (arith, h)
taking_left false false n m h = h

taking_right : (e f : Bool) (n m : ℕ) → Taking f n m → Taking (e || f) n m
taking_right true true n m h = h
taking_right true false n m h = omega (arith, h)
taking_right false f n m h = h

taking_then : (e : Bool) (n m k : ℕ) → Taking e n m → k ≤ n → Taking e k m
taking_then true n m k h g = omega (arith, h, g)
taking_then false n m k h g = omega (arith, h, g)

abbrev pub Shorter : {X : Type 0} → Bool → (Kinds → Read (X × Kinds)) → Type 0
Shorter {X = X} e reader = (ts : Kinds) (x : X × Kinds) → reader ts ≡ Ok x → Taking e (length x.1) (length ts)

-- each item takes a token
abbrev pub Shrinks : {X : Type 0} → (Kinds → Found X) → Type 0
Shrinks {X = X} item = (ts : Kinds) (x : X × Kinds) → item ts ≡ Ok (Some x) → length x.1 < length ts

abbrev NoLonger : {X : Type 0} → (Kinds → Found X) → Type 0
NoLonger {X = X} item = (ts : Kinds) (x : X × Kinds) → item ts ≡ Ok (Some x) → length x.1 ≤ length ts

some_is : {X : Type 0} (r : Read (X × Kinds)) (x : X × Kinds) → some r ≡ Ok (Some x) → r ≡ Ok x
some_is (Ok y) x e = cc
some_is (Err f) x e = absurd cc

pub found_is : {X : Type 0} (b : Bool) (r : Read (X × Kinds)) (x : X × Kinds) → cond b (some r) (Ok None) ≡ Ok (Some x) → r ≡ Ok x
found_is true r x e = some_is r x e
found_is false r x e = absurd cc

pub found_shrinks : {X : Type 0} (marks : Marks) (reader : Kinds → Read (X × Kinds)) → Shorter false reader → Shrinks (found marks reader)
found_shrinks marks reader h ts x e = h ts x (found_is (begins marks ts) (reader ts) x e)

found_no_longer : {X : Type 0} (marks : Marks) (e : Bool) (reader : Kinds → Read (X × Kinds)) → Shorter e reader → NoLonger (found marks reader)
found_no_longer marks e reader h ts x is = weaker e (length x.1) (length ts) (h ts x (found_is (begins marks ts) (reader ts) x is))

one_shorter : {X : Type 0} (marks : Marks) (value : TokenKind → Option X) → Shorter false (one marks value)
one_shorter marks value [] x e = absurd cc
one_shorter marks value (t ∷ ts) x e = by_test (is_any marks t) (value t) e
  where
    by_test : (b : Bool) (v : Option _) → taken b v ts ≡ Ok x → length x.1 < suc (length ts)
    by_test false v e = absurd cc
    by_test true None e = absurd cc
    by_test true (Some y) e = let same : (y, ts) ≡ x = cc in subst (λ (z : _ × Kinds). length z.1 < suc (length ts)) same (omega arith)

more_short : {X : Type 0} (n : ℕ) (o : Option (X × Kinds)) (ts : Kinds) (further : Kinds → Read (List X × Kinds)) (y : List X × Kinds) → and_more o ts further ≡ Ok y → ((x : X × Kinds) → o ≡ Some x → length x.1 ≤ n) → length ts ≤ n → ((us : Kinds) (z : List X × Kinds) → further us ≡ Ok z → length z.1 ≤ length us) → length y.1 ≤ n
more_short n None ts further y e h le g = let same : ([], ts) ≡ y = cc in subst (λ (z : List _ × Kinds). length z.1 ≤ n) same le
more_short n (Some x) ts further y e h le g =
    let b = bind_ok (further x.1) (λ z. Ok (x.0 ∷ z.0, z.1)) y e in
    let same : (x.0 ∷ b.0.0, b.0.1) ≡ y = cc in
    let i = g x.1 b.0 b.1 in
    let j = h x refl in
    subst (λ (z : List _ × Kinds). length z.1 ≤ n) same (omega (arith, i, j))

items_short : {X : Type 0} (item : Kinds → Found X) → NoLonger item → (n : ℕ) (ts : Kinds) (y : List X × Kinds) → items item n ts ≡ Ok y → length y.1 ≤ length ts
unfolding items
items_short item h zero ts y e = let same : ([], ts) ≡ y = cc in subst (λ (z : List _ × Kinds). length z.1 ≤ length ts) same (omega arith)
items_short item h (suc n) ts y e =
    let b = bind_ok (item ts) (λ o. and_more o ts (items item n)) y e in
    more_short (length ts) b.0 ts (items item n) y b.2 (λ x is. h ts x (b.1 ∙ ap (λ (o : Option _). Ok o) is)) (omega arith) (λ us z g. items_short item h n us z g)

all_short : {X : Type 0} (item : Kinds → Found X) → NoLonger item → (ts : Kinds) (y : List X × Kinds) → all item ts ≡ Ok y → length y.1 ≤ length ts
all_short item h ts y e = items_short item h (suc (length ts)) ts y e

pub pair_shorter : {A B : Type 0} (e f : Bool) (a : Kinds → Read (A × Kinds)) (b : Kinds → Read (B × Kinds)) → Shorter e a → Shorter f b → Shorter (e && f) (pair a b)
pair_shorter e f a b h g ts x is =
    let p = bind_ok (a ts) (λ y. b y.1 >>= λ z. Ok ((y.0, z.0), z.1)) x is in
    let q = bind_ok (b p.0.1) (λ z. Ok ((p.0.0, z.0), z.1)) x p.2 in
    let same : ((p.0.0, q.0.0), q.0.1) ≡ x = cc in
    subst (λ (z : (_ × _) × Kinds). Taking (e && f) (length z.1) (length ts)) same (taking_both e f (length p.0.1) (length ts) (length q.0.1) (h ts p.0 p.1) (g p.0.1 q.0 q.1))

cond_shorter : {X : Type 0} (b : Bool) (e f : Bool) (r s : Read (X × Kinds)) (n : ℕ) (x : X × Kinds) → cond b r s ≡ Ok x → (r ≡ Ok x → Taking e (length x.1) n) → (s ≡ Ok x → Taking f (length x.1) n) → Taking (e || f) (length x.1) n
cond_shorter true e f r s n x is h g = taking_left e f (length x.1) n (h is)
cond_shorter false e f r s n x is h g = taking_right e f (length x.1) n (g is)

pub mapped : {A X : Type 0} (f : A → X) (r : Read (A × Kinds)) (x : X × Kinds) → (r >>= λ y. Ok (f y.0, y.1)) ≡ Ok x → (y : A × Kinds) × (r ≡ Ok y) × (x ≡ (f y.0, y.1))
mapped f (Ok y) x e = (y, refl, cc)
mapped f (Err d) x e = absurd cc

test_ok : {X : Type 0} (count : X → ℕ) (n : ℕ) (y x : X × Kinds) (b : Bool) → nat_le (count y.0) n ≡ b → ◌≡◌ {A = Read (X × Kinds)} (cond b (Ok y) (Err TooDeep)) (Ok x) → ◌≡◌ {A = Read (X × Kinds)} (Ok y) (Ok x) × (nat_le (count x.0) n ≡ true)
test_ok count n y x true p q = let same : y ≡ x = cc in (q, subst (λ (z : _ × Kinds). nat_le (count z.0) n ≡ true) same p)
test_ok count n y x false p q = absurd cc

-- what is read within a limit is read, and is within it
pub limited_ok : {X : Type 0} (count : X → ℕ) (n : ℕ) (r : Read (X × Kinds)) (x : X × Kinds) → limited count n r ≡ Ok x → (r ≡ Ok x) × (nat_le (count x.0) n ≡ true)
limited_ok count n (Ok y) x e = test_ok count n y x (nat_le (count y.0) n) refl e
limited_ok count n (Err d) x e = absurd cc

pub read_shorter : {X : Type 0} (n : ℕ) (inside : Inside) → ((s : Sort) → Shorter false (inside s)) → (r : Rule X) → Shorter (empty r) (read n inside r)
read_shorter n inside h (rules.token marks value) ts x e = one_shorter marks value ts x e
read_shorter n inside h (rules.nothing y) ts x e = let same : (y, ts) ≡ x = cc in subst (λ (z : _ × Kinds). length z.1 ≤ length ts) same (omega arith)
read_shorter n inside h (rules.map f a) ts x e =
    let m = mapped f (read n inside a ts) x e in
    subst (λ (z : _ × Kinds). Taking (empty a) (length z.1) (length ts)) (sym m.2) (read_shorter n inside h a ts m.0 m.1)
read_shorter n inside h (rules.both f a b) ts x e =
    let p = bind_ok (read n inside a ts) (λ y. read n inside b y.1 >>= λ z. Ok (f y.0 z.0, z.1)) x e in
    let m = mapped (f p.0.0) (read n inside b p.0.1) x p.2 in
    subst (λ (z : _ × Kinds). Taking (empty a && empty b) (length z.1) (length ts)) (sym m.2) (taking_both (empty a) (empty b) (length p.0.1) (length ts) (length m.0.1) (read_shorter n inside h a ts p.0 p.1) (read_shorter n inside h b p.0.1 m.0 m.1))
read_shorter n inside h (rules.either a b) ts x e = cond_shorter (begins (first a) ts) (empty a) (empty b) (read n inside a ts) (read n inside b ts) (length ts) x e (read_shorter n inside h a ts x) (read_shorter n inside h b ts x)
read_shorter n inside h (rules.many f a) ts x e =
    let m = mapped f (all (found (first a) (read n inside a)) ts) x e in
    subst (λ (z : _ × Kinds). length z.1 ≤ length ts) (sym m.2) (all_short (found (first a) (read n inside a)) (found_no_longer (first a) (empty a) (read n inside a) (read_shorter n inside h a)) ts m.0 m.1)
read_shorter n inside h (rules.chain f a s) ts x e =
    let item = found (first s) (pair (read n inside s) (read n inside a)) in
    let p = bind_ok (read n inside a ts) (λ y. all item y.1 >>= λ z. Ok (f y.0 z.0, z.1)) x e in
    let m = mapped (f p.0.0) (all item p.0.1) x p.2 in
    let each = found_no_longer (first s) (empty s && empty a) (pair (read n inside s) (read n inside a)) (pair_shorter (empty s) (empty a) (read n inside s) (read n inside a) (read_shorter n inside h s) (read_shorter n inside h a)) in
    subst (λ (z : _ × Kinds). Taking (empty a) (length z.1) (length ts)) (sym m.2) (taking_then (empty a) (length p.0.1) (length ts) (length m.0.1) (read_shorter n inside h a ts p.0 p.1) (all_short item each p.0.1 m.0 m.1))
read_shorter n inside h (rules.ahead p a b) ts x e = cond_shorter (p ts) (empty a) (empty b) (read n inside a ts) (read n inside b ts) (length ts) x e (read_shorter n inside h a ts x) (read_shorter n inside h b ts x)
read_shorter n inside h (rules.inner s f) ts x e =
    let m = mapped f (inside s ts) x e in
    subst (λ (z : _ × Kinds). length z.1 < length ts) (sym m.2) (h s ts m.0 m.1)
read_shorter n inside h (rules.counted count a) ts x e = read_shorter n inside h a ts x (limited_ok count n (read n inside a ts) x e).0
