-- What is read derives, by any rule.
use Rattle.std.proofs.Common.{◌≡◌, inl, inr, ℕ, zero, suc, Bool, true, false, cond, List, [], ◌∷◌, length, Option, Some, None, Ok, refl, sym, ap, subst, ◌∙◌}
use Rattle.std.proofs.lemmas.Bool.{leb-true}
use Rattle.sfc_tokens.specs.declared.token.TokenKind.{TokenKind}
use Rattle.sfc_tokens.specs.Tokens.{Kinds}
use Rattle.sfc_text.specs.Marks.{Marks, is_any}
use Rattle.sfc_text.specs.Parsing.Lookahead.{begins}
use Rattle.sfc_text.specs.Sorts.{Sort}
use Rattle.sfc_text.specs.Rules as rules
use Rattle.sfc_text.specs.Rules.{Rule, Many, none, next, Both, Inner, Derives}
use Rattle.sfc_text.specs.Parsing.Lookahead.{first}
use Rattle.sfc_text.specs.Parsing.Reading.{Read, ◌>>=◌, taken, one, found, and_more, items, all, pair, Inside, read}
use Rattle.sfc_text.proofs.Shorter.{bind_ok, mapped, found_is, limited_ok}

abbrev pub Says : {X : Type 0} → (Kinds → X → Kinds → Type 0) → (Kinds → Read (X × Kinds)) → Type 0
Says {X = X} Holds reader = (ts : Kinds) (x : X × Kinds) → reader ts ≡ Ok x → Holds ts x.0 x.1

one_says : {X : Type 0} (n : ℕ) (In : Inner) (marks : Marks) (value : TokenKind → Option X) → Says (Derives n In (rules.token marks value)) (one marks value)
one_says n In marks value [] x e = absurd cc
one_says n In marks value (t ∷ ts) x e = by_test (is_any marks t) (value t) refl refl e
  where
    by_test : (b : Bool) (v : Option _) → is_any marks t ≡ b → value t ≡ v → taken b v ts ≡ Ok x → Derives n In (rules.token marks value) (t ∷ ts) x.0 x.1
    by_test false v p q e = absurd cc
    by_test true None p q e = absurd cc
    by_test true (Some y) p q e = let same : (y, ts) ≡ x = cc in subst (λ z. Derives n In (rules.token marks value) (t ∷ ts) z.0 z.1) same (t, refl, p, q)

more_says : {X : Type 0} (Item : Kinds → X → Kinds → Type 0) (o : Option (X × Kinds)) (ts : Kinds) (further : Kinds → Read (List X × Kinds)) (y : List X × Kinds) → ((x : X × Kinds) → o ≡ Some x → Item ts x.0 x.1) → and_more o ts further ≡ Ok y → ((us : Kinds) (z : List X × Kinds) → further us ≡ Ok z → Many Item us z.0 z.1) → Many Item ts y.0 y.1
more_says Item None ts further y each e others = let same : ([], ts) ≡ y = cc in subst (λ z. Many Item ts z.0 z.1) same none
more_says Item (Some x) ts further y each e others =
    let b = bind_ok (further x.1) (λ z. Ok (x.0 ∷ z.0, z.1)) y e in
    let same : (x.0 ∷ b.0.0, b.0.1) ≡ y = cc in
    subst (λ z. Many Item ts z.0 z.1) same (next (each x refl) (others x.1 b.0 b.1))

items_say : {X : Type 0} (Item : Kinds → X → Kinds → Type 0) (marks : Marks) (item : Kinds → Read (X × Kinds)) → Says Item item → (n : ℕ) (ts : Kinds) (y : List X × Kinds) → items (found marks item) n ts ≡ Ok y → Many Item ts y.0 y.1
unfolding items
items_say Item marks item says zero ts y e = let same : ([], ts) ≡ y = cc in subst (λ z. Many Item ts z.0 z.1) same none
items_say Item marks item says (suc n) ts y e =
    let b = bind_ok (found marks item ts) (λ o. and_more o ts (items (found marks item) n)) y e in
    more_says Item b.0 ts (items (found marks item) n) y (λ x is. says ts x (found_is (begins marks ts) (item ts) x (b.1 ∙ ap (λ (o : Option _). Ok o) is))) b.2 (λ us z g. items_say Item marks item says n us z g)

all_says : {X : Type 0} (Item : Kinds → X → Kinds → Type 0) (marks : Marks) (item : Kinds → Read (X × Kinds)) → Says Item item → Says (Many Item) (all (found marks item))
all_says Item marks item says ts y e = items_say Item marks item says (suc (length ts)) ts y e

pub pair_says : {A B : Type 0} (First : Kinds → A → Kinds → Type 0) (Second : Kinds → B → Kinds → Type 0) (a : Kinds → Read (A × Kinds)) (b : Kinds → Read (B × Kinds)) → Says First a → Says Second b → Says (Both First Second) (pair a b)
pair_says First Second a b h g ts x is =
    let p = bind_ok (a ts) (λ y. b y.1 >>= λ z. Ok ((y.0, z.0), z.1)) x is in
    let q = bind_ok (b p.0.1) (λ z. Ok ((p.0.0, z.0), z.1)) x p.2 in
    let same : ((p.0.0, q.0.0), q.0.1) ≡ x = cc in
    subst (λ z. Both First Second ts z.0 z.1) same (p.0.1, h ts p.0 p.1, g p.0.1 q.0 q.1)

by_begins : {X : Type 0} (b : Bool) (r s : Read (X × Kinds)) (x : X × Kinds) (P : Type 0) → cond b r s ≡ Ok x → (b ≡ true → r ≡ Ok x → P) → (b ≡ false → s ≡ Ok x → P) → P
by_begins true r s x P e h g = h refl e
by_begins false r s x P e h g = g refl e

pub sound : {X : Type 0} (n : ℕ) (In : Inner) (inside : Inside) → ((s : Sort) → Says (In s) (inside s)) → (r : Rule X) → Says (Derives n In r) (read n inside r)
sound n In inside h (rules.token marks value) ts x e = one_says n In marks value ts x e
sound n In inside h (rules.nothing y) ts x e = let same : (y, ts) ≡ x = cc in subst (λ z. Derives n In (rules.nothing y) ts z.0 z.1) same (refl, refl)
sound n In inside h (rules.map f a) ts x e =
    let m = mapped f (read n inside a ts) x e in
    subst (λ z. Derives n In (rules.map f a) ts z.0 z.1) (sym m.2) (m.0.0, sound n In inside h a ts m.0 m.1, refl)
sound n In inside h (rules.both f a b) ts x e =
    let p = bind_ok (read n inside a ts) (λ y. read n inside b y.1 >>= λ z. Ok (f y.0 z.0, z.1)) x e in
    let m = mapped (f p.0.0) (read n inside b p.0.1) x p.2 in
    subst (λ z. Derives n In (rules.both f a b) ts z.0 z.1) (sym m.2) ((p.0.0, m.0.0), (p.0.1, sound n In inside h a ts p.0 p.1, sound n In inside h b p.0.1 m.0 m.1), refl)
sound n In inside h (rules.either a b) ts x e = by_begins (begins (first a) ts) (read n inside a ts) (read n inside b ts) x (Derives n In (rules.either a b) ts x.0 x.1) e (λ t i. inl (sound n In inside h a ts x i)) (λ t i. inr (sound n In inside h b ts x i))
sound n In inside h (rules.many f a) ts x e =
    let m = mapped f (all (found (first a) (read n inside a)) ts) x e in
    subst (λ z. Derives n In (rules.many f a) ts z.0 z.1) (sym m.2) (m.0.0, all_says (Derives n In a) (first a) (read n inside a) (sound n In inside h a) ts m.0 m.1, refl)
sound n In inside h (rules.chain f a s) ts x e =
    let item = pair (read n inside s) (read n inside a) in
    let p = bind_ok (read n inside a ts) (λ y. all (found (first s) item) y.1 >>= λ z. Ok (f y.0 z.0, z.1)) x e in
    let m = mapped (f p.0.0) (all (found (first s) item) p.0.1) x p.2 in
    let each = pair_says (Derives n In s) (Derives n In a) (read n inside s) (read n inside a) (sound n In inside h s) (sound n In inside h a) in
    subst (λ z. Derives n In (rules.chain f a s) ts z.0 z.1) (sym m.2) ((p.0.0, m.0.0), (p.0.1, sound n In inside h a ts p.0 p.1, all_says (Both (Derives n In s) (Derives n In a)) (first s) item each p.0.1 m.0 m.1), refl)
sound n In inside h (rules.ahead p a b) ts x e = by_begins (p ts) (read n inside a ts) (read n inside b ts) x (Derives n In (rules.ahead p a b) ts x.0 x.1) e (λ t i. inl (t, sound n In inside h a ts x i)) (λ t i. inr (t, sound n In inside h b ts x i))
sound n In inside h (rules.inner s f) ts x e =
    let m = mapped f (inside s ts) x e in
    subst (λ z. Derives n In (rules.inner s f) ts z.0 z.1) (sym m.2) (m.0.0, h s ts m.0 m.1, refl)
sound n In inside h (rules.counted count a) ts x e =
    let l = limited_ok count n (read n inside a ts) x e in
    let le = leb-true (count x.0) n l.1 in
    (sound n In inside h a ts x l.0, le)
