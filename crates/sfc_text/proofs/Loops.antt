-- Loops that read items: what was read before, and what is still read.
use Rattle.std.proofs.Common.{◌≡◌, inl, inr, ℕ, zero, suc, ◌<◌, Bool, true, false, cond, List, [], ◌∷◌, ◌++◌, length, Option, Some, None, Ok, Err, refl, sym, ap, subst, ◌∙◌, arith, append_assoc}
use Rattle.std.proofs.lemmas.List.{append-nil}
use Rattle.sfc_tokens.specs.declared.token.Token.{Token}
use Rattle.sfc_tokens.specs.Tokens.{Kinds, kinds}
use Rattle.sfc_text.specs.declared.parse.fault.ParseFault.{ParseFault}
use Rattle.sfc_text.specs.declared.parse.fault.ParseFault.TheVariants as fault
use Rattle.sfc_text.specs.Lists.{is_empty}
use Rattle.sfc_text.specs.Marks.{Marks}
use Rattle.sfc_text.specs.Sorts.{Sort}
use Rattle.sfc_text.specs.Rules.{Rule}
use Rattle.sfc_text.specs.Grammar.{nested}
use Rattle.sfc_text.specs.Terms.{folded, repeated, gathered}
use Rattle.sfc_text.specs.Parsing.Depth.{inside, at}
use Rattle.sfc_text.specs.Parsing.Lookahead.{begins, empty, first}
use Rattle.sfc_text.specs.Parsing.Reading.{Syntax, TooDeep, Read, ◌>>=◌, Fails, Found, some, found, and_more, items, all, behind}
use Rattle.sfc_text.proofs.Shorter.{Taking, Shorter, Shrinks, found_shrinks, read_shorter}
use Rattle.sfc_text.proofs.Whole.{nested_takes}

pub length_kinds : (tokens : List Token) → length (kinds tokens) ≡ length tokens
length_kinds [] = refl
length_kinds (t ∷ tokens) = ap suc (length_kinds tokens)

-- ---- more turns than tokens change nothing

same_more : {X : Type 0} (o : Option (X × Kinds)) (ts : Kinds) (f g : Kinds → Read (List X × Kinds)) → ((x : X × Kinds) → o ≡ Some x → f x.1 ≡ g x.1) → and_more o ts f ≡ and_more o ts g
same_more None ts f g h = refl
same_more (Some x) ts f g h = ap (λ (r : Read (List _ × Kinds)). r >>= λ y. Ok (x.0 ∷ y.0, y.1)) (h x refl)

same_bind : {A B : Type 0} (r : Read A) (f g : A → Read B) → ((x : A) → r ≡ Ok x → f x ≡ g x) → (r >>= f) ≡ (r >>= g)
same_bind (Ok x) f g h = h x refl
same_bind (Err d) f g h = refl

same_turns : {X : Type 0} (item : Kinds → Found X) (shrinks : Shrinks item) (n m : ℕ) (ts : Kinds) → length ts < n → length ts < m → items item n ts ≡ items item m ts
unfolding items
same_turns item shrinks zero m ts h g = absurd (omega (arith, h))
same_turns item shrinks (suc n) zero ts h g = absurd (omega (arith, g))
same_turns item shrinks (suc n) (suc m) ts h g =
    same_bind (item ts) (λ o. and_more o ts (items item n)) (λ o. and_more o ts (items item m)) (λ o is. same_more o ts (items item n) (items item m) (λ x some.
    let lt = shrinks ts x (is ∙ ap (λ (p : Option _). Ok p) some) in same_turns item shrinks n m x.1 (omega (arith, lt, h)) (omega (arith, lt, g))))

-- ---- one turn

-- all items: the first one, and then the others
abbrev pub Turn : {X : Type 0} → Marks → (Kinds → Read (X × Kinds)) → Kinds → Read (List X × Kinds)
Turn marks item ts = cond (begins marks ts) (item ts >>= λ x. all (found marks item) x.1 >>= λ y. Ok (x.0 ∷ y.0, y.1)) (Ok ([], ts))

turn_by : {X : Type 0} (marks : Marks) (item : Kinds → Read (X × Kinds)) (shrinks : Shorter false item) (ts : Kinds) (b : Bool) (r : Read (X × Kinds)) → ((x : X × Kinds) → r ≡ Ok x → length x.1 < length ts)
    → (cond b (some r) (Ok None) >>= λ o. and_more o ts (items (found marks item) (length ts))) ≡ cond b (r >>= λ x. all (found marks item) x.1 >>= λ y. Ok (x.0 ∷ y.0, y.1)) (Ok ([], ts))
turn_by marks item shrinks ts false r lt = refl
turn_by marks item shrinks ts true (Err d) lt = refl
turn_by marks item shrinks ts true (Ok x) lt =
    let less = lt x refl in
    ap (λ (r : Read (List _ × Kinds)). r >>= λ y. Ok (x.0 ∷ y.0, y.1)) (same_turns (found marks item) (found_shrinks marks item shrinks) (length ts) (suc (length x.1)) x.1 less (omega arith))

turn_is : {X : Type 0} (item : Kinds → Found X) (ts : Kinds) → all item ts ≡ (item ts >>= λ o. and_more o ts (items item (length ts)))
unfolding items
turn_is item ts = refl

pub turn : {X : Type 0} (marks : Marks) (item : Kinds → Read (X × Kinds)) (shrinks : Shorter false item) (ts : Kinds) → all (found marks item) ts ≡ Turn marks item ts
turn marks item shrinks ts = turn_is (found marks item) ts ∙ turn_by marks item shrinks ts (begins marks ts) (item ts) (λ x is. shrinks ts x is)

-- ---- items are joined from the left

abbrev pub Folds : {X A : Type 0} → (A → X → A) → A → Read (List X × Kinds) → Read (A × Kinds)
Folds f a r = r >>= λ z. Ok (folded f a z.0, z.1)

-- what a loop still gives that has made a
abbrev pub Folding : {X A : Type 0} → Marks → (Kinds → Read (X × Kinds)) → (A → X → A) → A → Kinds → Read (A × Kinds)
Folding marks item f a ts = Folds f a (all (found marks item) ts)

next_item : {X A : Type 0} (f : A → X → A) (a : A) (x : X) (r : Read (List X × Kinds)) → Folds f a (r >>= λ y. Ok (x ∷ y.0, y.1)) ≡ Folds f (f a x) r
next_item f a x (Ok y) = refl
next_item f a x (Err d) = refl

turn_goes_on : {X : Type 0} (marks : Marks) (item : Kinds → Read (X × Kinds)) (ts : Kinds) (x : X × Kinds) → begins marks ts ≡ true → item ts ≡ Ok x → Turn marks item ts ≡ (all (found marks item) x.1 >>= λ y. Ok (x.0 ∷ y.0, y.1))
turn_goes_on marks item ts x h is = rw (h, is) refl

pub goes_on : {X A : Type 0} (marks : Marks) (item : Kinds → Read (X × Kinds)) → Shorter false item → (f : A → X → A) (a : A) (ts : Kinds) (x : X × Kinds) (total : Read (A × Kinds)) → begins marks ts ≡ true → item ts ≡ Ok x → Folding marks item f a ts ≡ total → Folding marks item f (f a x.0) x.1 ≡ total
goes_on marks item shrinks f a ts x total h is so_far =
    sym (ap (Folds f a) (turn marks item shrinks ts ∙ turn_goes_on marks item ts x h is) ∙ next_item f a x.0 (all (found marks item) x.1)) ∙ so_far

pub fails : {X A : Type 0} (wrong : ParseFault) (marks : Marks) (item : Kinds → Read (X × Kinds)) → Shorter false item → (f : A → X → A) (a : A) (ts : Kinds) (total : Read (A × Kinds)) → begins marks ts ≡ true → Fails wrong (item ts) → Folding marks item f a ts ≡ total → Fails wrong total
fails fault.Memory marks item shrinks f a ts total h is so_far = tt
fails (fault.Syntax left) marks item shrinks f a ts total h is so_far =
    let one : Turn marks item ts ≡ Err Syntax = rw (h, is) refl in
    sym so_far ∙ ap (Folds f a) (turn marks item shrinks ts ∙ one)
fails (fault.TooDeep left) marks item shrinks f a ts total h (inl is) so_far =
    let one : Turn marks item ts ≡ Err Syntax = rw (h, is) refl in
    inl (sym so_far ∙ ap (Folds f a) (turn marks item shrinks ts ∙ one))
fails (fault.TooDeep left) marks item shrinks f a ts total h (inr is) so_far =
    let one : Turn marks item ts ≡ Err TooDeep = rw (h, is) refl in
    inr (sym so_far ∙ ap (Folds f a) (turn marks item shrinks ts ∙ one))

pub ends : {X A : Type 0} (marks : Marks) (item : Kinds → Read (X × Kinds)) → Shorter false item → (f : A → X → A) (a : A) (ts : Kinds) (total : Read (A × Kinds)) → begins marks ts ≡ false → Folding marks item f a ts ≡ total → total ≡ Ok (a, ts)
ends marks item shrinks f a ts total h so_far =
    let one : Turn marks item ts ≡ Ok ([], ts) = rw h refl in
    sym so_far ∙ ap (Folds f a) (turn marks item shrinks ts ∙ one)

-- ---- lists

abbrev pub pushed : {X : Type 0} → List X → X → List X
pushed xs x = xs ++ x ∷ []

folded_pushes : {X : Type 0} (front xs : List X) → folded pushed front xs ≡ front ++ xs
folded_pushes front [] = sym (append-nil front)
folded_pushes front (x ∷ xs) = folded_pushes (front ++ x ∷ []) xs ∙ append_assoc front (x ∷ []) xs

-- what a loop still gives is the list behind what it has found
pub starts : {X : Type 0} (left : ℕ) (rule : Rule X) (front : List X) (ts : Kinds) → Folding (first rule) (at left rule) pushed front ts ≡ behind front (at left (repeated rule) ts)
starts left rule front ts = by_result (all (found (first rule) (at left rule)) ts)
  where
    by_result : (r : Read (List _ × Kinds)) → Folds pushed front r ≡ behind front (r >>= λ y. Ok (y.0, y.1))
    by_result (Ok y) = ap (λ (zs : List _). Ok (zs, y.1)) (folded_pushes front y.0)
    by_result (Err d) = refl

-- ---- an item takes a token

inside_shorter : (left : ℕ) (s : Sort) → Shorter false (inside 256 left s)
unfolding inside
inside_shorter zero s ts x e = absurd cc
inside_shorter (suc left) s ts x e = subst (λ b. Taking b (length x.1) (length ts)) (nested_takes s) (read_shorter 256 (inside 256 left) (inside_shorter left) (nested s) ts x e)

-- a rule that takes a token takes one
pub shortens : {X : Type 0} (left : ℕ) (rule : Rule X) → empty rule ≡ false → Shorter false (at left rule)
shortens left rule e ts x is = subst (λ b. Taking b (length x.1) (length ts)) e (read_shorter 256 (inside 256 left) (inside_shorter left) rule ts x is)

-- over tokens
pub smaller : {X : Type 0} (item : Kinds → Read (X × Kinds)) → Shorter false item → (tokens rest : List Token) (x : X) → item (kinds tokens) ≡ Ok (x, kinds rest) → length rest < length tokens
smaller item shrinks tokens rest x is =
    let lt = shrinks (kinds tokens) (x, kinds rest) is in
    let p = length_kinds tokens in
    let q = length_kinds rest in
    omega (arith, lt, p, q)

-- ---- lists of lists

abbrev pub gathers : {X : Type 0} → List X → List X → List X
gathers xs ys = xs ++ ys

folded_gathers : {X : Type 0} (front : List X) (xss : List (List X)) → folded gathers front xss ≡ front ++ folded gathers [] xss
folded_gathers front [] = sym (append-nil front)
folded_gathers front (xs ∷ xss) = folded_gathers (front ++ xs) xss ∙ append_assoc front xs (folded gathers [] xss) ∙ ap (λ (ys : List _). front ++ ys) (sym (folded_gathers xs xss))

pub gathering_starts : {X : Type 0} (left : ℕ) (rule : Rule (List X)) (front : List X) (ts : Kinds) → Folding (first rule) (at left rule) gathers front ts ≡ behind front (at left (gathered rule) ts)
gathering_starts left rule front ts = by_result (all (found (first rule) (at left rule)) ts)
  where
    by_result : (r : Read (List (List _) × Kinds)) → Folds gathers front r ≡ behind front (r >>= λ y. Ok (folded gathers [] y.0, y.1))
    by_result (Ok y) = ap (λ (zs : List _). Ok (zs, y.1)) (folded_gathers front y.0)
    by_result (Err d) = refl

-- what was read behind a front, and why it was not
pub behind_ok : {X : Type 0} (front : List X) (r : Read (List X × Kinds)) (y : List X × Kinds) → behind front r ≡ Ok y → (x : List X × Kinds) × (r ≡ Ok x) × (y ≡ (front ++ x.0, x.1))
behind_ok front (Ok x) y e = (x, refl, cc)
behind_ok front (Err d) y e = absurd cc

pub behind_fails : {X : Type 0} (wrong : ParseFault) (front : List X) (r : Read (List X × Kinds)) → Fails wrong (behind front r) → Fails wrong r
behind_fails fault.Memory front r h = tt
behind_fails (fault.Syntax left) front (Ok x) h = absurd cc
behind_fails (fault.Syntax left) front (Err d) h = cc
behind_fails (fault.TooDeep left) front (Ok x) (inl h) = absurd cc
behind_fails (fault.TooDeep left) front (Ok x) (inr h) = absurd cc
behind_fails (fault.TooDeep left) front (Err d) (inl h) = inl cc
behind_fails (fault.TooDeep left) front (Err d) (inr h) = inr cc

pub behind_some : {X : Type 0} (x : X) (r : Read (List X × Kinds)) (y : List X × Kinds) → behind (x ∷ []) r ≡ Ok y → is_empty y.0 ≡ false
behind_some x r y e = let p = behind_ok (x ∷ []) r y e in subst (λ (z : List _ × Kinds). is_empty z.0 ≡ false) (sym p.2) refl
