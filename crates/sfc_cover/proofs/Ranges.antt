-- Lists of what is at numbers, one number more, and of what is made of elements, one element more.
use Rattle.std.proofs.Common.{◌≡◌, ℕ, zero, suc, ◌+◌, ◌<◌, List, [], ◌∷◌, ◌++◌, length, map, take, get_or, Option, Some, None, option_map, refl, sym, ap, ◌∙◌, arith}
use Rattle.std.specs.List.{cons_option, filter_map, range_with_len}
use Rattle.std.specs.Option.{option_to_list}
use Rattle.std.proofs.lemmas.List.{map-append, take_more}
use Rattle.std.proofs.lemmas.List.Elements.{filter_map-append}
use Rattle.std.proofs.lemmas.List.FromFn.{map-range_with_len_more}

-- the next number stands at the end
range_more : (a n : ℕ) → range_with_len a (n + 1) ≡ range_with_len a n ++ (a + n) ∷ []
range_more a zero = let e : a ≡ a + 0 = omega arith in ap (λ (m : ℕ). m ∷ []) e
range_more a (suc n) =
    let next : suc n + 1 ≡ suc (n + 1) = omega arith in
    let last : a + 1 + n ≡ a + suc n = omega arith in
    ap (range_with_len a) next
    ∙ ap (λ (xs : List ℕ). a ∷ xs) (range_more (a + 1) n ∙ ap (λ (m : ℕ). range_with_len (a + 1) n ++ m ∷ []) last)

-- what is at the next number
pub mapped_more : {A : Type 0} (f : ℕ → A) (n : ℕ) (before after : List A) (a : A) → before ≡ map f (range_with_len 0 n) → a ≡ f n
    → after ≡ before ++ a ∷ [] → after ≡ map f (range_with_len 0 (n + 1))
mapped_more f n before after a p e q =
    q ∙ ap (λ xs. xs ++ a ∷ []) p ∙ ap (λ x. map f (range_with_len 0 n) ++ x ∷ []) e ∙ sym (map-range_with_len_more f 0 n n (omega arith))

only : {A : Type 0} (o : Option A) → cons_option o [] ≡ option_to_list o
only None = refl
only (Some x) = refl

filtered_more : {A : Type 0} (f : ℕ → Option A) (n : ℕ)
    → filter_map f (range_with_len 0 (n + 1)) ≡ filter_map f (range_with_len 0 n) ++ option_to_list (f n)
filtered_more f n =
    let last : 0 + n ≡ n = omega arith in
    ap (filter_map f) (range_more 0 n) ∙ filter_map-append f (range_with_len 0 n) ((0 + n) ∷ [])
    ∙ ap (λ (m : ℕ). filter_map f (range_with_len 0 n) ++ cons_option (f m) []) last
    ∙ ap (λ xs. filter_map f (range_with_len 0 n) ++ xs) (only (f n))

-- what is at the next number, if something is
pub kept_more : {A : Type 0} (f : ℕ → Option A) (n : ℕ) (before after : List A) (o : Option A) → before ≡ filter_map f (range_with_len 0 n)
    → o ≡ f n → after ≡ before ++ option_to_list o → after ≡ filter_map f (range_with_len 0 (n + 1))
kept_more f n before after o p e q =
    q ∙ ap (λ xs. xs ++ option_to_list o) p ∙ ap (λ x. filter_map f (range_with_len 0 n) ++ option_to_list x) e ∙ sym (filtered_more f n)

-- what is made of the next element
pub made_more : {A B : Type 0} (f : A → B) (xs : List A) (i : ℕ) (d : A) (before after : List B) (b : B) → i < length xs
    → before ≡ map f (take i xs) → b ≡ f (get_or xs i d) → after ≡ before ++ b ∷ [] → after ≡ map f (take (i + 1) xs)
made_more f xs i d before after b lt p e q =
    q ∙ ap (λ ys. ys ++ b ∷ []) p ∙ ap (λ y. map f (take i xs) ++ y ∷ []) e
    ∙ sym (map-append f (take i xs) (get_or xs i d ∷ [])) ∙ ap (map f) (sym (take_more xs i d lt))

kept_behind : {A B : Type 0} (g : A → B) (o : Option A) → map g (option_to_list o) ≡ option_to_list (option_map g o)
kept_behind g None = refl
kept_behind g (Some x) = refl

-- what is told of what is at the next number, if something is
pub told_more : {A B : Type 0} (g : A → B) (f : ℕ → Option B) (n : ℕ) (before after : List A) (o : Option A)
    → map g before ≡ filter_map f (range_with_len 0 n) → option_map g o ≡ f n → after ≡ before ++ option_to_list o
    → map g after ≡ filter_map f (range_with_len 0 (n + 1))
told_more g f n before after o p e q =
    ap (map g) q ∙ map-append g before (option_to_list o) ∙ ap (λ ys. map g before ++ ys) (kept_behind g o)
    ∙ kept_more f n (map g before) _ (option_map g o) p e refl

-- where the last number was reached, all is there
pub mapped_all : {A : Type 0} (f : ℕ → A) (n m : ℕ) (xs : List A) → n ≡ m → xs ≡ map f (range_with_len 0 n) → xs ≡ map f (range_with_len 0 m)
mapped_all f n m xs e p = p ∙ ap (λ (k : ℕ). map f (range_with_len 0 k)) e

pub kept_all : {A : Type 0} (f : ℕ → Option A) (n m : ℕ) (xs : List A) → n ≡ m → xs ≡ filter_map f (range_with_len 0 n)
    → xs ≡ filter_map f (range_with_len 0 m)
kept_all f n m xs e p = p ∙ ap (λ (k : ℕ). filter_map f (range_with_len 0 k)) e
