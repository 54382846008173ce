-- What derives derives with more nesting allowed, and reading says the same there, but that it may be too deep.
use Rattle.std.proofs.Common.{◌≡◌, ◌⊎◌, inl, inr, ℕ, zero, suc, ◌≤◌, Bool, true, false, cond, nat_le, List, ◌∷◌, length, Option, Some, None, Ok, Err, refl, subst, arith}
use Rattle.std.proofs.lemmas.Bool.{leb-true, le-leb}
use Rattle.sfc_tokens.specs.Tokens.{Kinds}
use Rattle.sfc_text.specs.Parsing.Lookahead.{begins}
use Rattle.sfc_text.specs.Sorts.{Sort}
use Rattle.sfc_text.specs.Rules as rules
use Rattle.sfc_text.specs.Rules.{Rule, Many, none, next, Both, Inner, Derives}
use Rattle.sfc_text.specs.Parsing.Lookahead.{first}
use Rattle.sfc_text.specs.Parsing.Reading.{TooDeep, Read, ◌>>=◌, Found, some, found, and_more, items, all, pair, limited, Inside, read}

abbrev pub Implies : {X : Type 0} → (Kinds → X → Kinds → Type 0) → (Kinds → X → Kinds → Type 0) → Type 0
Implies {X = X} Holds Holds' = (ts : Kinds) (x : X) (rest : Kinds) → Holds ts x rest → Holds' ts x rest

many_implies : {X : Type 0} (Item Item' : Kinds → X → Kinds → Type 0) → Implies Item Item' → {ts rest : Kinds} {xs : List X} → Many Item ts xs rest → Many Item' ts xs rest
many_implies Item Item' h none = none
many_implies Item Item' h (next {ts = ts} {mid = mid} {x = x} i m) = next (h ts x mid i) (many_implies Item Item' h m)

pub derives_deeper : {X : Type 0} (n n' : ℕ) → n ≤ n' → (In In' : Inner) → ((s : Sort) → Implies (In s) (In' s)) → (r : Rule X) → Implies (Derives n In r) (Derives n' In' r)
derives_deeper n n' le In In' h (rules.token marks value) ts x rest d = d
derives_deeper n n' le In In' h (rules.nothing y) ts x rest d = d
derives_deeper n n' le In In' h (rules.map f a) ts x rest d = (d.0, derives_deeper n n' le In In' h a ts d.0 rest d.1, d.2)
derives_deeper n n' le In In' h (rules.both f a b) ts x rest d = (d.0, (d.1.0, derives_deeper n n' le In In' h a ts d.0.0 d.1.0 d.1.1, derives_deeper n n' le In In' h b d.1.0 d.0.1 rest d.1.2), d.2)
derives_deeper n n' le In In' h (rules.either a b) ts x rest (inl d) = inl (derives_deeper n n' le In In' h a ts x rest d)
derives_deeper n n' le In In' h (rules.either a b) ts x rest (inr d) = inr (derives_deeper n n' le In In' h b ts x rest d)
derives_deeper n n' le In In' h (rules.many f a) ts x rest d = (d.0, many_implies (Derives n In a) (Derives n' In' a) (derives_deeper n n' le In In' h a) d.1, d.2)
derives_deeper n n' le In In' h (rules.chain f a s) ts x rest d =
    (d.0, (d.1.0, derives_deeper n n' le In In' h a ts d.0.0 d.1.0 d.1.1, many_implies (Both (Derives n In s) (Derives n In a)) (Both (Derives n' In' s) (Derives n' In' a)) (λ us y vs p. (p.0, derives_deeper n n' le In In' h s us y.0 p.0 p.1, derives_deeper n n' le In In' h a p.0 y.1 vs p.2)) d.1.2), d.2)
derives_deeper n n' le In In' h (rules.ahead p a b) ts x rest (inl d) = inl (d.0, derives_deeper n n' le In In' h a ts x rest d.1)
derives_deeper n n' le In In' h (rules.ahead p a b) ts x rest (inr d) = inr (d.0, derives_deeper n n' le In In' h b ts x rest d.1)
derives_deeper n n' le In In' h (rules.inner s f) ts x rest d = (d.0, h s ts d.0 rest d.1, d.2)
derives_deeper n n' le In In' h (rules.counted count a) ts x rest d = (derives_deeper n n' le In In' h a ts x rest d.0, let l = d.1 in omega (arith, l, le))

-- ---- the same, or too deep

abbrev pub Agrees : {X : Type 0} → Read X → Read X → Type 0
Agrees r r' = (r ≡ Err TooDeep) ⊎ (r ≡ r')

bind_agrees : {A B : Type 0} (r r' : Read A) (f f' : A → Read B) → Agrees r r' → ((x : A) → Agrees (f x) (f' x)) → Agrees (r >>= f) (r' >>= f')
bind_agrees r r' f f' (inl e) h = inl (rw e refl)
bind_agrees r r' f f' (inr e) h = subst (λ q. Agrees (r >>= f) (q >>= f')) e (same_start r)
  where
    same_start : (q : Read _) → Agrees (q >>= f) (q >>= f')
    same_start (Ok x) = h x
    same_start (Err d) = inr refl

cond_agrees : {A : Type 0} (b : Bool) (r r' s s' : Read A) → Agrees r r' → Agrees s s' → Agrees (cond b r s) (cond b r' s')
cond_agrees true r r' s s' h g = h
cond_agrees false r r' s s' h g = g

more_agree : {X : Type 0} (o : Option (X × Kinds)) (ts : Kinds) (f f' : Kinds → Read (List X × Kinds)) → ((us : Kinds) → Agrees (f us) (f' us)) → Agrees (and_more o ts f) (and_more o ts f')
more_agree None ts f f' h = inr refl
more_agree (Some x) ts f f' h = bind_agrees (f x.1) (f' x.1) (λ y. Ok (x.0 ∷ y.0, y.1)) (λ y. Ok (x.0 ∷ y.0, y.1)) (h x.1) (λ y. inr refl)

items_agree : {X : Type 0} (item item' : Kinds → Found X) → ((us : Kinds) → Agrees (item us) (item' us)) → (n : ℕ) (ts : Kinds) → Agrees (items item n ts) (items item' n ts)
unfolding items
items_agree item item' h zero ts = inr refl
items_agree item item' h (suc n) ts = bind_agrees (item ts) (item' ts) (λ o. and_more o ts (items item n)) (λ o. and_more o ts (items item' n)) (h ts) (λ o. more_agree o ts (items item n) (items item' n) (items_agree item item' h n))

found_agrees : {X : Type 0} (marks : _) (a a' : Kinds → Read (X × Kinds)) → ((us : Kinds) → Agrees (a us) (a' us)) → (us : Kinds) → Agrees (found marks a us) (found marks a' us)
found_agrees marks a a' h us = cond_agrees (begins marks us) (some (a us)) (some (a' us)) (Ok None) (Ok None) (bind_agrees (a us) (a' us) (λ x. Ok (Some x)) (λ x. Ok (Some x)) (h us) (λ x. inr refl)) (inr refl)

pair_agrees : {A B : Type 0} (a a' : Kinds → Read (A × Kinds)) (b b' : Kinds → Read (B × Kinds)) → ((us : Kinds) → Agrees (a us) (a' us)) → ((us : Kinds) → Agrees (b us) (b' us)) → (us : Kinds) → Agrees (pair a b us) (pair a' b' us)
pair_agrees a a' b b' h g us = bind_agrees (a us) (a' us) (λ y. b y.1 >>= λ z. Ok ((y.0, z.0), z.1)) (λ y. b' y.1 >>= λ z. Ok ((y.0, z.0), z.1)) (h us) (λ y. bind_agrees (b y.1) (b' y.1) (λ z. Ok ((y.0, z.0), z.1)) (λ z. Ok ((y.0, z.0), z.1)) (g y.1) (λ z. inr refl))

limited_agrees : {X : Type 0} (count : X → ℕ) (n n' : ℕ) → n ≤ n' → (r r' : Read (X × Kinds)) → Agrees r r' → Agrees (limited count n r) (limited count n' r')
limited_agrees count n n' le r r' (inl e) = inl (rw e refl)
limited_agrees count n n' le r r' (inr e) = subst (λ q. Agrees (limited count n r) (limited count n' q)) e (same r)
  where
    by_test : (y : _ × Kinds) (b : Bool) → nat_le (count y.0) n ≡ b → Agrees {X = _ × Kinds} (cond b (Ok y) (Err TooDeep)) (limited count n' (Ok y))
    by_test y false p = inl refl
    by_test y true p = let l = leb-true (count y.0) n p in let more = le-leb (count y.0) n' (omega (arith, l, le)) in inr (rw more refl)

    same : (q : Read _) → Agrees (limited count n q) (limited count n' q)
    same (Ok y) = by_test y (nat_le (count y.0) n) refl
    same (Err d) = inr refl

pub read_agrees : {X : Type 0} (n n' : ℕ) → n ≤ n' → (inside inside' : Inside) → ((s : Sort) (us : Kinds) → Agrees (inside s us) (inside' s us)) → (r : Rule X) (ts : Kinds) → Agrees (read n inside r ts) (read n' inside' r ts)
read_agrees n n' le i i' h (rules.token marks value) ts = inr refl
read_agrees n n' le i i' h (rules.nothing y) ts = inr refl
read_agrees n n' le i i' h (rules.map f a) ts = bind_agrees (read n i a ts) (read n' i' a ts) (λ y. Ok (f y.0, y.1)) (λ y. Ok (f y.0, y.1)) (read_agrees n n' le i i' h a ts) (λ y. inr refl)
read_agrees n n' le i i' h (rules.both f a b) ts = bind_agrees (read n i a ts) (read n' i' a ts) (λ y. read n i b y.1 >>= λ z. Ok (f y.0 z.0, z.1)) (λ y. read n' i' b y.1 >>= λ z. Ok (f y.0 z.0, z.1)) (read_agrees n n' le i i' h a ts) (λ y. bind_agrees (read n i b y.1) (read n' i' b y.1) (λ z. Ok (f y.0 z.0, z.1)) (λ z. Ok (f y.0 z.0, z.1)) (read_agrees n n' le i i' h b y.1) (λ z. inr refl))
read_agrees n n' le i i' h (rules.either a b) ts = cond_agrees (begins (first a) ts) (read n i a ts) (read n' i' a ts) (read n i b ts) (read n' i' b ts) (read_agrees n n' le i i' h a ts) (read_agrees n n' le i i' h b ts)
read_agrees n n' le i i' h (rules.many f a) ts =
    let item = found (first a) (read n i a) in
    let item' = found (first a) (read n' i' a) in
    bind_agrees (all item ts) (all item' ts) (λ y. Ok (f y.0, y.1)) (λ y. Ok (f y.0, y.1)) (items_agree item item' (found_agrees (first a) (read n i a) (read n' i' a) (read_agrees n n' le i i' h a)) (suc (length ts)) ts) (λ y. inr refl)
read_agrees n n' le i i' h (rules.chain f a s) ts =
    let item = found (first s) (pair (read n i s) (read n i a)) in
    let item' = found (first s) (pair (read n' i' s) (read n' i' a)) in
    let same = found_agrees (first s) (pair (read n i s) (read n i a)) (pair (read n' i' s) (read n' i' a)) (pair_agrees (read n i s) (read n' i' s) (read n i a) (read n' i' a) (read_agrees n n' le i i' h s) (read_agrees n n' le i i' h a)) in
    bind_agrees (read n i a ts) (read n' i' a ts) (λ y. all item y.1 >>= λ z. Ok (f y.0 z.0, z.1)) (λ y. all item' y.1 >>= λ z. Ok (f y.0 z.0, z.1)) (read_agrees n n' le i i' h a ts) (λ y. bind_agrees (all item y.1) (all item' y.1) (λ z. Ok (f y.0 z.0, z.1)) (λ z. Ok (f y.0 z.0, z.1)) (items_agree item item' same (suc (length y.1)) y.1) (λ z. inr refl))
read_agrees n n' le i i' h (rules.ahead p a b) ts = cond_agrees (p ts) (read n i a ts) (read n' i' a ts) (read n i b ts) (read n' i' b ts) (read_agrees n n' le i i' h a ts) (read_agrees n n' le i i' h b ts)
read_agrees n n' le i i' h (rules.inner s f) ts = bind_agrees (i s ts) (i' s ts) (λ y. Ok (f y.0, y.1)) (λ y. Ok (f y.0, y.1)) (h s ts) (λ y. inr refl)
read_agrees n n' le i i' h (rules.counted count a) ts = limited_agrees count n n' le (read n i a ts) (read n' i' a ts) (read_agrees n n' le i i' h a ts)
