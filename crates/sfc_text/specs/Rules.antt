-- Rules of a grammar, as data: a rule for X says which tokens are an X.
use Rattle.std.specs.Prelude.{◌≡◌, ◌⊎◌, ◌≤◌, ℕ, List, [], ◌∷◌, Bool, true, false, Option, Some}
use Rattle.sfc_tokens.specs.declared.token.TokenKind.{TokenKind}
use Rattle.sfc_tokens.specs.Tokens.{Kinds}
use Rattle.sfc_text.specs.Marks.{Marks, is_any}
use Rattle.sfc_text.specs.Sorts.{Sort, Sorted}

pub data Rule : Type 0 → Type 1 where
  -- one token with one of these marks, which stands for a value
  token : {X : Type 0} → Marks → (TokenKind → Option X) → Rule X
  -- no token
  nothing : {X : Type 0} → X → Rule X
  map : {A X : Type 0} → (A → X) → Rule A → Rule X
  -- one after the other
  both : {A B X : Type 0} → (A → B → X) → Rule A → Rule B → Rule X
  -- one or the other
  either : {X : Type 0} → Rule X → Rule X → Rule X
  -- zero or more
  many : {A X : Type 0} → (List A → X) → Rule A → Rule X
  -- one, then zero or more behind a separator each
  chain : {A S X : Type 0} → (A → List (S × A) → X) → Rule A → Rule S → Rule X
  -- the first where these tokens stand ahead, else the second
  ahead : {X : Type 0} → (Kinds → Bool) → Rule X → Rule X → Rule X
  -- one of this sort, one level deeper
  inner : {X : Type 0} → (s : Sort) → (Sorted s → X) → Rule X
  -- one in which no more than the most is counted
  counted : {X : Type 0} → (X → ℕ) → Rule X → Rule X

-- items in a row
pub data Many {X : Type 0} (Item : Kinds → X → Kinds → Type 0) : Kinds → List X → Kinds → Type 0 where
  none : {rest : Kinds} → Many Item rest [] rest
  next : {ts mid rest : Kinds} {x : X} {xs : List X} → Item ts x mid → Many Item mid xs rest → Many Item ts (x ∷ xs) rest

-- one after the other
abbrev pub Both : {A B : Type 0} → (Kinds → A → Kinds → Type 0) → (Kinds → B → Kinds → Type 0) → Kinds → A × B → Kinds → Type 0
Both First Second ts x rest = (mid : Kinds) × First ts x.0 mid × Second mid x.1 rest

-- what may be nested
abbrev pub Inner : Type 1
Inner = (s : Sort) → Kinds → Sorted s → Kinds → Type 0

-- What stands in ts before rest is an x by the rule. At most n are counted in one, and what is nested is as In says.
abbrev pub Derives : {X : Type 0} → ℕ → Inner → Rule X → Kinds → X → Kinds → Type 0
Derives n In (token marks value) ts x rest = (t : TokenKind) × (ts ≡ t ∷ rest) × (is_any marks t ≡ true) × (value t ≡ Some x)
Derives n In (nothing y) ts x rest = (ts ≡ rest) × (x ≡ y)
Derives n In (map {A = A} f a) ts x rest = (y : A) × Derives n In a ts y rest × (x ≡ f y)
Derives n In (both {A = A} {B = B} f a b) ts x rest = (y : A × B) × Both (Derives n In a) (Derives n In b) ts y rest × (x ≡ f y.0 y.1)
Derives n In (either a b) ts x rest = Derives n In a ts x rest ⊎ Derives n In b ts x rest
Derives n In (many {A = A} f a) ts x rest = (ys : List A) × Many (Derives n In a) ts ys rest × (x ≡ f ys)
Derives n In (chain {A = A} {S = S} f a s) ts x rest =
    (y : A × List (S × A)) × Both (Derives n In a) (Many (Both (Derives n In s) (Derives n In a))) ts y rest × (x ≡ f y.0 y.1)
Derives n In (ahead p a b) ts x rest = ((p ts ≡ true) × Derives n In a ts x rest) ⊎ ((p ts ≡ false) × Derives n In b ts x rest)
Derives n In (inner s f) ts x rest = (y : Sorted s) × In s ts y rest × (x ≡ f y)
Derives n In (counted count a) ts x rest = Derives n In a ts x rest × (count x ≤ n)
