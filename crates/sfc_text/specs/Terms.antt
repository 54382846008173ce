-- The words in which the productions are written.
use Rattle.std.specs.Prelude.{ℕ, List, [], ◌∷◌, ◌++◌, Option, Some, None}
use Rattle.sfc_base.specs.declared.delimiter.Delimiter.{Delimiter}
use Rattle.sfc_base.specs.declared.keyword.Keyword.{Keyword}
use Rattle.sfc_text.specs.Marks.{Word, Sign, Named}
use Rattle.sfc_text.specs.Rules as rules
use Rattle.sfc_text.specs.Rules.{Rule, map, both, either, many, nothing}

-- a reserved word, and a sign
abbrev pub word : Keyword → Rule (Unit {0})
word k = rules.token (Word k ∷ []) (λ t. Some tt)

abbrev pub sign : Delimiter → Rule (Unit {0})
sign d = rules.token (Sign d ∷ []) (λ t. Some tt)

-- a word that is reserved in its place only, in capital letters
abbrev pub named : List ℕ → Rule (Unit {0})
named w = rules.token (Named w ∷ []) (λ t. Some tt)

-- a ▸ b and a ◂ b are a and then b, of which the one that the arrow points to counts; a & b has both
infixl 30 ◌▸◌
abbrev pub ◌▸◌ : {A B : Type 0} → Rule A → Rule B → Rule B
a ▸ b = both (λ x y. y) a b

infixl 30 ◌◂◌
abbrev pub ◌◂◌ : {A B : Type 0} → Rule A → Rule B → Rule A
a ◂ b = both (λ x y. x) a b

infixl 30 ◌&◌
abbrev pub ◌&◌ : {A B : Type 0} → Rule A → Rule B → Rule (A × B)
a & b = both (λ x y. (x, y)) a b

infixl 20 ◌or◌
abbrev pub ◌or◌ : {A : Type 0} → Rule A → Rule A → Rule A
a or b = either a b

-- [a], and [a] with a value where it is left out
abbrev pub maybe : {A : Type 0} → Rule A → Rule (Option A)
maybe a = either (map Some a) (nothing None)

abbrev pub else_given : {A : Type 0} → A → Rule A → Rule A
else_given x a = either a (nothing x)

-- f joins the items from the left
abbrev pub folded : {A B : Type 0} → (B → A → B) → B → List A → B
folded f b [] = b
folded f b (x ∷ xs) = folded f (f b x) xs

-- {a}, and {a} where each a is a list and all of them make one
abbrev pub repeated : {A : Type 0} → Rule A → Rule (List A)
repeated a = many (λ xs. xs) a

abbrev pub gathered : {A : Type 0} → Rule (List A) → Rule (List A)
gathered a = many (folded (λ xs ys. xs ++ ys) []) a

-- a {a}
abbrev pub some_of : {A : Type 0} → Rule A → Rule A → Rule (List A)
some_of a b = both (λ x xs. x ∷ xs) a (repeated b)
