-- What derives is read, by any rule that is fine.
use Rattle.std.proofs.Common.{◌≡◌, ◌⊎◌, inl, inr, ℕ, zero, suc, ◌<◌, Bool, true, false, cond, not, ◌&&◌, ◌||◌, List, [], ◌++◌, length, Ok, refl, sym, subst, ◌∙◌, arith}
use Rattle.std.proofs.lemmas.Bool.{le-leb}
use Rattle.sfc_tokens.specs.Tokens.{Kinds}
use Rattle.sfc_text.specs.Marks.{Marks}
use Rattle.sfc_text.specs.Parsing.Lookahead.{begins, overlap}
use Rattle.sfc_text.specs.Sorts.{Sort}
use Rattle.sfc_text.specs.Parsing.Lookahead.{first_of, more_of}
use Rattle.sfc_text.specs.Rules as rules
use Rattle.sfc_text.specs.Rules.{Rule, Many, none, next, Both, Inner, Derives}
use Rattle.sfc_text.specs.Parsing.Lookahead.{empty, first, more, fine}
use Rattle.sfc_text.specs.Parsing.Reading.{Read, found, items, all, pair, Inside, read}
use Rattle.sfc_text.proofs.Marks.{and_left, and_right, apart, ends_left, ends_right, begins_left, begins_right}

not_true : (b : Bool) → not b ≡ true → b ≡ false
not_true true e = absurd cc
not_true false e = refl

not_empty : (b : Bool) → b ≡ false → b ≡ true → ⊥
not_empty b e h = cc

-- ---- what stands first in a derivation

-- it takes a token with one of these marks, or none
abbrev pub Front : Bool → Marks → Kinds → Kinds → Type 0
Front e marks ts rest = ((begins marks ts ≡ true) × (length rest < length ts)) ⊎ ((e ≡ true) × (ts ≡ rest))

abbrev pub Fronts : {X : Type 0} → (Kinds → X → Kinds → Type 0) → Bool → Marks → Type 0
Fronts {X = X} Holds e marks = (ts : Kinds) (x : X) (rest : Kinds) → Holds ts x rest → Front e marks ts rest

-- a token of it
pub taken_front : (e : Bool) (marks : Marks) (ts rest : Kinds) → e ≡ false → Front e marks ts rest → (begins marks ts ≡ true) × (length rest < length ts)
taken_front e marks ts rest h (inl p) = p
taken_front e marks ts rest h (inr p) = absurd (not_empty e h p.0)

both_true : (a b : Bool) → a ≡ true → b ≡ true → a && b ≡ true
both_true a b p q = rw (p, q) refl

one_true : (a b : Bool) → (a ≡ true) ⊎ (b ≡ true) → a || b ≡ true
one_true a b (inl p) = rw p refl
one_true true b (inr p) = refl
one_true false b (inr p) = p

behind_empty : (e : Bool) (ms ns : Marks) (ts : Kinds) → e ≡ true → begins ns ts ≡ true → begins (ms ++ cond e ns []) ts ≡ true
behind_empty e ms ns ts p h = begins_right ms (cond e ns []) ts (rw p h)

pub front_both : (e f : Bool) (ms ns : Marks) (ts mid rest : Kinds) → Front e ms ts mid → Front f ns mid rest → Front (e && f) (ms ++ cond e ns []) ts rest
front_both e f ms ns ts mid rest (inl p) (inl q) = let lt = p.1 in let lt' = q.1 in inl (begins_left ms (cond e ns []) ts p.0, omega (arith, lt, lt'))
front_both e f ms ns ts mid rest (inl p) (inr q) = inl (begins_left ms (cond e ns []) ts p.0, subst (λ (us : Kinds). length us < length ts) q.1 p.1)
front_both e f ms ns ts mid rest (inr p) (inl q) = inl (behind_empty e ms ns ts p.0 (subst (λ us. begins ns us ≡ true) (sym p.1) q.0), subst (λ (us : Kinds). length rest < length us) (sym p.1) q.1)
front_both e f ms ns ts mid rest (inr p) (inr q) = inr (both_true e f p.0 q.0, p.1 ∙ q.1)

front_left : (e f : Bool) (ms ns : Marks) (ts rest : Kinds) → Front e ms ts rest → Front (e || f) (ms ++ ns) ts rest
front_left e f ms ns ts rest (inl p) = inl (begins_left ms ns ts p.0, p.1)
front_left e f ms ns ts rest (inr p) = inr (one_true e f (inl p.0), p.1)

front_right : (e f : Bool) (ms ns : Marks) (ts rest : Kinds) → Front f ns ts rest → Front (e || f) (ms ++ ns) ts rest
front_right e f ms ns ts rest (inl p) = inl (begins_right ms ns ts p.0, p.1)
front_right e f ms ns ts rest (inr p) = inr (one_true e f (inr p.0), p.1)

front_items : {X : Type 0} (Item : Kinds → X → Kinds → Type 0) (e : Bool) (marks : Marks) → Fronts Item e marks → {ts rest : Kinds} {xs : List X} → Many Item ts xs rest → Front true marks ts rest
front_items Item e marks h none = inr (refl, refl)
front_items Item e marks h (next {ts = ts} {mid = mid} {rest = rest} {x = x} i m) = joined (h ts x mid i) (front_items Item e marks h m)
  where
    joined : Front e marks ts mid → Front true marks mid rest → Front true marks ts rest
    joined (inl p) (inl q) = let lt = p.1 in let lt' = q.1 in inl (p.0, omega (arith, lt, lt'))
    joined (inl p) (inr q) = inl (p.0, subst (λ (us : Kinds). length us < length ts) q.1 p.1)
    joined (inr p) (inl q) = inl (subst (λ us. begins marks us ≡ true) (sym p.1) q.0, subst (λ (us : Kinds). length rest < length us) (sym p.1) q.1)
    joined (inr p) (inr q) = inr (refl, p.1 ∙ q.1)

and_true : (e : Bool) → e && true ≡ e
and_true true = refl
and_true false = refl

abbrev pub InFronts : Inner → Type 0
InFronts In = (s : Sort) → Fronts (In s) false (first_of s)

pub front : {X : Type 0} (n : ℕ) (In : Inner) → InFronts In → (r : Rule X) → Fronts (Derives n In r) (empty r) (first r)
front n In h (rules.token marks value) ts x rest d = let e = d.1 in inl (rw e d.2, rw e (omega arith))
front n In h (rules.nothing y) ts x rest d = inr (refl, d.0)
front n In h (rules.map f a) ts x rest d = front n In h a ts d.0 rest d.1
front n In h (rules.both f a b) ts x rest d = front_both (empty a) (empty b) (first a) (first b) ts d.1.0 rest (front n In h a ts d.0.0 d.1.0 d.1.1) (front n In h b d.1.0 d.0.1 rest d.1.2)
front n In h (rules.either a b) ts x rest (inl d) = front_left (empty a) (empty b) (first a) (first b) ts rest (front n In h a ts x rest d)
front n In h (rules.either a b) ts x rest (inr d) = front_right (empty a) (empty b) (first a) (first b) ts rest (front n In h b ts x rest d)
front n In h (rules.many f a) ts x rest d = front_items (Derives n In a) (empty a) (first a) (front n In h a) d.1
front n In h (rules.chain f a s) ts x rest d =
    let pairs : Fronts (Both (Derives n In s) (Derives n In a)) (empty s && empty a) (first s ++ cond (empty s) (first a) []) = λ us y vs p. front_both (empty s) (empty a) (first s) (first a) us p.0 vs (front n In h s us y.0 p.0 p.1) (front n In h a p.0 y.1 vs p.2) in
    let g = front_both (empty a) true (first a) (first s ++ cond (empty s) (first a) []) ts d.1.0 rest (front n In h a ts d.0.0 d.1.0 d.1.1) (front_items (Both (Derives n In s) (Derives n In a)) (empty s && empty a) (first s ++ cond (empty s) (first a) []) pairs d.1.2) in
    subst (λ b. Front b (first (rules.chain f a s)) ts rest) (and_true (empty a)) g
front n In h (rules.ahead p a b) ts x rest (inl d) = front_left (empty a) (empty b) (first a) (first b) ts rest (front n In h a ts x rest d.1)
front n In h (rules.ahead p a b) ts x rest (inr d) = front_right (empty a) (empty b) (first a) (first b) ts rest (front n In h b ts x rest d.1)
front n In h (rules.inner s f) ts x rest d = h s ts d.0 rest d.1
front n In h (rules.counted count a) ts x rest d = front n In h a ts x rest d.0

-- ---- reading again what derives

-- it is read wherever nothing stands behind it that would be a part of it
abbrev pub Again : {X : Type 0} → (Kinds → X → Kinds → Type 0) → (Kinds → Read (X × Kinds)) → Marks → Type 0
Again {X = X} Holds reader further = (ts : Kinds) (x : X) (rest : Kinds) → Holds ts x rest → begins further rest ≡ false → reader ts ≡ Ok (x, rest)

behind_it : (b : Bool) (ms : Marks) (rest : Kinds) → b ≡ true → begins (cond b ms []) rest ≡ false → begins ms rest ≡ false
behind_it true ms rest e h = h
behind_it false ms rest e h = absurd cc

-- nothing of a stands behind it where something of b does, or nothing, and then what is behind both
pub between : (f : Bool) (ms ns further : Marks) (mid rest : Kinds) → Front f ns mid rest → overlap ms ns ≡ false → begins (further ++ cond f ms []) rest ≡ false → begins ms mid ≡ false
between f ms ns further mid rest (inl p) e h = apart ms ns mid e p.0
between f ms ns further mid rest (inr p) e h = subst (λ us. begins ms us ≡ false) (sym p.1) (behind_it f ms rest p.0 (ends_right further (cond f ms []) rest h))

again_items : {X : Type 0} (Item : Kinds → X → Kinds → Type 0) (marks further : Marks) (item : Kinds → Read (X × Kinds)) → Fronts Item false marks → overlap further marks ≡ false → Again Item item further → {ts rest : Kinds} {xs : List X} → Many Item ts xs rest → begins further rest ≡ false → begins marks rest ≡ false → (n : ℕ) → length ts < n → items (found marks item) n ts ≡ Ok (xs, rest)
unfolding items
again_items Item marks further item h apart' again m ends stops zero lt = absurd (omega (arith, lt))
again_items Item marks further item h apart' again none ends stops (suc n) lt = rw stops refl
again_items Item marks further item h apart' again (next {ts = ts} {mid = mid} {rest = rest} {x = x} {xs = xs} i m) ends stops (suc n) lt =
    let p = taken_front false marks ts mid refl (h ts x mid i) in
    let less = p.1 in
    let quiet = stop_at (front_items Item false marks h m) in
    let e = again ts x mid i quiet in
    let r = again_items Item marks further item h apart' again m ends stops n (omega (arith, lt, less)) in
    rw (p.0, e, r) refl
  where
    stop_at : Front true marks mid rest → begins further mid ≡ false
    stop_at (inl p) = apart further marks mid apart' p.0
    stop_at (inr p) = subst (λ us. begins further us ≡ false) (sym p.1) ends

again_all : {X : Type 0} (Item : Kinds → X → Kinds → Type 0) (marks further : Marks) (item : Kinds → Read (X × Kinds)) → Fronts Item false marks → overlap further marks ≡ false → Again Item item further → (ts rest : Kinds) (xs : List X) → Many Item ts xs rest → begins (further ++ marks) rest ≡ false → all (found marks item) ts ≡ Ok (xs, rest)
again_all Item marks further item h apart' again ts rest xs m ends = again_items Item marks further item h apart' again m (ends_left further marks rest ends) (ends_right further marks rest ends) (suc (length ts)) (omega arith)

abbrev pub InAgain : Inner → Inside → Type 0
InAgain In inside = (s : Sort) → Again (In s) (inside s) (more_of s)

fronts_as : {X : Type 0} (Holds : Kinds → X → Kinds → Type 0) (e : Bool) (ms : Marks) → e ≡ false → Fronts Holds e ms → Fronts Holds false ms
fronts_as Holds e ms h f ts x rest d = inl (taken_front e ms ts rest h (f ts x rest d))

-- ---- chains

record ChainFine (fa fs ea es o p : Bool) : Type 0 where
  fine_operand : fa ≡ true
  fine_separator : fs ≡ true
  some_operand : ea ≡ false
  some_separator : es ≡ false
  operand_behind : o ≡ false
  separator_behind : p ≡ false

chain_fine : (fa fs ea es o p : Bool) → fa && (fs && (not ea && (not es && (not o && not p)))) ≡ true → ChainFine fa fs ea es o p
chain_fine fa fs ea es o p e =
    let e1 = and_right fa (fs && (not ea && (not es && (not o && not p)))) e in
    let e2 = and_right fs (not ea && (not es && (not o && not p))) e1 in
    let e3 = and_right (not ea) (not es && (not o && not p)) e2 in
    let e4 = and_right (not es) (not o && not p) e3 in
    record {
      fine_operand = and_left fa (fs && (not ea && (not es && (not o && not p)))) e;
      fine_separator = and_left fs (not ea && (not es && (not o && not p))) e1;
      some_operand = not_true ea (and_left (not ea) (not es && (not o && not p)) e2);
      some_separator = not_true es (and_left (not es) (not o && not p) e3);
      operand_behind = not_true o (and_left (not o) (not p) e4);
      separator_behind = not_true p (and_right (not o) (not p) e4);
    }

fronts_pair : {A B : Type 0} (First : Kinds → A → Kinds → Type 0) (Second : Kinds → B → Kinds → Type 0) (ms ns : Marks) → Fronts First false ms → Fronts Second false ns → Fronts (Both First Second) false ms
fronts_pair First Second ms ns h g ts y rest d =
    let p = taken_front false ms ts d.0 refl (h ts y.0 d.0 d.1) in
    let q = taken_front false ns d.0 rest refl (g d.0 y.1 rest d.2) in
    let lt = p.1 in
    let lt' = q.1 in
    inl (p.0, omega (arith, lt, lt'))

again_pair : {A B : Type 0} (First : Kinds → A → Kinds → Type 0) (Second : Kinds → B → Kinds → Type 0) (a : Kinds → Read (A × Kinds)) (b : Kinds → Read (B × Kinds)) (ns further last : Marks) → Fronts Second false ns → overlap further ns ≡ false → Again First a further → Again Second b last → Again (Both First Second) (pair a b) last
again_pair First Second a b ns further last g distinct again_a again_b ts y rest d ends =
    let q = taken_front false ns d.0 rest refl (g d.0 y.1 rest d.2) in
    let e = again_a ts y.0 d.0 d.1 (apart further ns d.0 distinct q.0) in
    let i = again_b d.0 y.1 rest d.2 ends in
    rw (e, i) refl

pub complete : {X : Type 0} (n : ℕ) (In : Inner) (inside : Inside) → InFronts In → InAgain In inside → (r : Rule X) → fine r ≡ true → Again (Derives n In r) (read n inside r) (more r)
complete n In inside h g (rules.token marks value) ok ts x rest d ends = let e = d.1 in let i = d.2 in let v = d.3 in rw (e, i, v) refl
complete n In inside h g (rules.nothing y) ok ts x rest d ends = let e = d.0 in let i = d.1 in rw (e, i) refl
complete n In inside h g (rules.map f a) ok ts x rest d ends = let e = complete n In inside h g a ok ts d.0 rest d.1 ends in let i = d.2 in rw (e, i) refl
complete n In inside h g (rules.both f a b) ok ts x rest d ends =
    let ok' = and_right (fine a) (fine b && not (overlap (more a) (first b))) ok in
    let quiet = between (empty b) (more a) (first b) (more b) d.1.0 rest (front n In h b d.1.0 d.0.1 rest d.1.2) (not_true (overlap (more a) (first b)) (and_right (fine b) (not (overlap (more a) (first b))) ok')) ends in
    let e = complete n In inside h g a (and_left (fine a) (fine b && not (overlap (more a) (first b))) ok) ts d.0.0 d.1.0 d.1.1 quiet in
    let i = complete n In inside h g b (and_left (fine b) (not (overlap (more a) (first b))) ok') d.1.0 d.0.1 rest d.1.2 (ends_left (more b) (cond (empty b) (more a) []) rest ends) in
    let same = d.2 in
    rw (e, i, same) refl
complete n In inside h g (rules.either a b) ok ts x rest (inl d) ends =
    let ok' = and_right (fine a) (fine b && (not (empty a) && not (overlap (first a) (first b)))) ok in
    let ok'' = and_right (fine b) (not (empty a) && not (overlap (first a) (first b))) ok' in
    let p = taken_front (empty a) (first a) ts rest (not_true (empty a) (and_left (not (empty a)) (not (overlap (first a) (first b))) ok'')) (front n In h a ts x rest d) in
    let here = p.0 in
    let e = complete n In inside h g a (and_left (fine a) (fine b && (not (empty a) && not (overlap (first a) (first b)))) ok) ts x rest d (ends_left (more a) (more b) rest (ends_right (cond (empty b) (first a) []) (more a ++ more b) rest ends)) in
    rw here e
complete n In inside h g (rules.either a b) ok ts x rest (inr d) ends =
    let ok' = and_right (fine a) (fine b && (not (empty a) && not (overlap (first a) (first b)))) ok in
    let ok'' = and_right (fine b) (not (empty a) && not (overlap (first a) (first b))) ok' in
    let away = other (front n In h b ts x rest d) (not_true (overlap (first a) (first b)) (and_right (not (empty a)) (not (overlap (first a) (first b))) ok'')) in
    let e = complete n In inside h g b (and_left (fine b) (not (empty a) && not (overlap (first a) (first b))) ok') ts x rest d (ends_right (more a) (more b) rest (ends_right (cond (empty b) (first a) []) (more a ++ more b) rest ends)) in
    rw away e
  where
    other : Front (empty b) (first b) ts rest → overlap (first a) (first b) ≡ false → begins (first a) ts ≡ false
    other (inl p) e = apart (first a) (first b) ts e p.0
    other (inr p) e = subst (λ us. begins (first a) us ≡ false) (sym p.1) (behind_it (empty b) (first a) rest p.0 (ends_left (cond (empty b) (first a) []) (more a ++ more b) rest ends))
complete n In inside h g (rules.many f a) ok ts x rest d ends =
    let ok' = and_right (fine a) (not (empty a) && not (overlap (more a) (first a))) ok in
    let none_empty = not_true (empty a) (and_left (not (empty a)) (not (overlap (more a) (first a))) ok') in
    let distinct = not_true (overlap (more a) (first a)) (and_right (not (empty a)) (not (overlap (more a) (first a))) ok') in
    let again = complete n In inside h g a (and_left (fine a) (not (empty a) && not (overlap (more a) (first a))) ok) in
    let e = again_all (Derives n In a) (first a) (more a) (read n inside a) (fronts_as (Derives n In a) (empty a) (first a) none_empty (front n In h a)) distinct again ts rest d.0 d.1 ends in
    let same = d.2 in
    rw (e, same) refl
complete n In inside h g (rules.chain {A = A} {S = S} f a s) ok ts x rest d ends =
    let c = chain_fine (fine a) (fine s) (empty a) (empty s) (overlap (more s) (first a)) (overlap (more a) (first s)) ok in
    let again_a = complete n In inside h g a c.fine_operand in
    let again_s = complete n In inside h g s c.fine_separator in
    let front_a = fronts_as (Derives n In a) (empty a) (first a) c.some_operand (front n In h a) in
    let front_s = fronts_as (Derives n In s) (empty s) (first s) c.some_separator (front n In h s) in
    let fronts = fronts_pair (Derives n In s) (Derives n In a) (first s) (first a) front_s front_a in
    let again = again_pair (Derives n In s) (Derives n In a) (read n inside s) (read n inside a) (first a) (more s) (more a) front_a c.operand_behind again_s again_a in
    let quiet = behind (front_items (Both (Derives n In s) (Derives n In a)) false (first s) fronts d.1.2) c.separator_behind in
    let e = again_a ts d.0.0 d.1.0 d.1.1 quiet in
    let i = again_all (Both (Derives n In s) (Derives n In a)) (first s) (more a) (pair (read n inside s) (read n inside a)) fronts c.separator_behind again d.1.0 rest d.0.1 d.1.2 ends in
    let same = d.2 in
    rw (e, i, same) refl
  where
    behind : Front true (first s) d.1.0 rest → overlap (more a) (first s) ≡ false → begins (more a) d.1.0 ≡ false
    behind (inl p) e = apart (more a) (first s) d.1.0 e p.0
    behind (inr p) e = subst (λ us. begins (more a) us ≡ false) (sym p.1) (ends_left (more a) (first s) rest ends)
complete n In inside h g (rules.ahead p a b) ok ts x rest (inl d) ends = let here = d.0 in let e = complete n In inside h g a (and_left (fine a) (fine b) ok) ts x rest d.1 (ends_left (more a) (more b) rest ends) in rw here e
complete n In inside h g (rules.ahead p a b) ok ts x rest (inr d) ends = let here = d.0 in let e = complete n In inside h g b (and_right (fine a) (fine b) ok) ts x rest d.1 (ends_right (more a) (more b) rest ends) in rw here e
complete n In inside h g (rules.inner s f) ok ts x rest d ends = let e = g s ts d.0 rest d.1 ends in let i = d.2 in rw (e, i) refl
complete n In inside h g (rules.counted count a) ok ts x rest d ends =
    let e = complete n In inside h g a ok ts x rest d.0 ends in
    let le = le-leb (count x) n d.1 in
    rw (e, le) refl
