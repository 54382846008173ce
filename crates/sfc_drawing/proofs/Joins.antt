-- Texts of lists, an element at a time.
use Rattle.std.proofs.Common.{◌≡◌, ℕ, ◌+◌, ◌<◌, List, [], ◌∷◌, ◌++◌, length, take, get_or, flat_map, refl, sym, ap, ◌∙◌, append_assoc, arith}
use Rattle.std.proofs.lemmas.List.{append-nil, take_more}
use Rattle.std.proofs.lemmas.Grind.{common_steps}
use Rattle.sfc_drawing.specs.declared.part.Part.{Part}
use Rattle.sfc_drawing.specs.Parts.{joined, part_text}
use Rattle.sfc_drawing.specs.Elements.{numbered}

joined_more : (text : List ℕ) (front back : List Part) → joined text (front ++ back) ≡ joined (joined text front) back
joined_more text [] back = refl
joined_more text (p ∷ front) back = joined_more (text ++ part_text p) front back

-- one part more
pub joined_next : (parts : List Part) (i : ℕ) (d : Part) → i < length parts
    → joined [] (take (i + 1) parts) ≡ joined [] (take i parts) ++ part_text (get_or parts i d)
joined_next parts i d lt = ap (joined []) (take_more parts i d lt) ∙ joined_more [] (take i parts) (get_or parts i d ∷ [])

-- one element more
pub grown : {A : Type 0} (f : A → List ℕ) (xs : List A) (i : ℕ) (d : A) → i < length xs
    → flat_map f (take (i + 1) xs) ≡ flat_map f (take i xs) ++ f (get_or xs i d)
grown f xs i d lt = grind (arith, common_steps)

pub part_more : (old before after : List ℕ) (parts : List Part) (i : ℕ) (d : Part) → i < length parts
    → before ≡ old ++ joined [] (take i parts) → after ≡ before ++ part_text (get_or parts i d)
    → after ≡ old ++ joined [] (take (i + 1) parts)
part_more old before after parts i d lt p q =
    q ∙ ap (λ text. text ++ part_text (get_or parts i d)) p
    ∙ append_assoc old (joined [] (take i parts)) (part_text (get_or parts i d))
    ∙ ap (λ text. old ++ text) (sym (joined_next parts i d lt))

-- ---- one item more behind a text

pub item_more : {A : Type 0} (f : A → List ℕ) (old before after : List ℕ) (xs : List A) (i : ℕ) (x : A) → i < length xs → x ≡ get_or xs i x
    → before ≡ old ++ flat_map f (take i xs) → after ≡ before ++ f x → after ≡ old ++ flat_map f (take (i + 1) xs)
item_more f old before after xs i x lt is p q =
    q ∙ ap (λ text. text ++ f x) p ∙ append_assoc old (flat_map f (take i xs)) (f x)
    ∙ ap (λ y. old ++ (flat_map f (take i xs) ++ f y)) is
    ∙ ap (λ text. old ++ text) (sym (grown f xs i x lt))

numbered_behind : {A : Type 0} (f : ℕ → A → List ℕ) (n : ℕ) (front back : List A)
    → numbered f n (front ++ back) ≡ numbered f n front ++ numbered f (n + length front) back
numbered_behind f n [] back = let e : n ≡ n + 0 = omega arith in ap (λ k. numbered f k back) e
numbered_behind f n (x ∷ front) back =
    let e : n + 1 + length front ≡ n + length (x ∷ front) = omega arith in
    ap (λ text. f n x ++ text) (numbered_behind f (n + 1) front back ∙ ap (λ k. numbered f (n + 1) front ++ numbered f k back) e)
    ∙ sym (append_assoc (f n x) (numbered f (n + 1) front) (numbered f (n + length (x ∷ front)) back))

count_of : {A : Type 0} (xs : List A) (i : ℕ) → i < length xs → 1 + length (take i xs) ≡ i + 1
count_of xs i lt = grind (arith, common_steps)

numbered_grown : {A : Type 0} (f : ℕ → A → List ℕ) (xs : List A) (i : ℕ) (x : A) → i < length xs
    → numbered f 1 (take (i + 1) xs) ≡ numbered f 1 (take i xs) ++ f (i + 1) (get_or xs i x)
numbered_grown f xs i x lt =
    ap (numbered f 1) (take_more xs i x lt) ∙ numbered_behind f 1 (take i xs) (get_or xs i x ∷ [])
    ∙ ap (λ text. numbered f 1 (take i xs) ++ text) (append-nil (f (1 + length (take i xs)) (get_or xs i x)))
    ∙ ap (λ k. numbered f 1 (take i xs) ++ f k (get_or xs i x)) (count_of xs i lt)

pub number_more : {A : Type 0} (f : ℕ → A → List ℕ) (old before after : List ℕ) (xs : List A) (i : ℕ) (x : A) → i < length xs
    → x ≡ get_or xs i x → before ≡ old ++ numbered f 1 (take i xs) → after ≡ before ++ f (i + 1) x
    → after ≡ old ++ numbered f 1 (take (i + 1) xs)
number_more f old before after xs i x lt is p q =
    q ∙ ap (λ text. text ++ f (i + 1) x) p ∙ append_assoc old (numbered f 1 (take i xs)) (f (i + 1) x)
    ∙ ap (λ y. old ++ (numbered f 1 (take i xs) ++ f (i + 1) y)) is
    ∙ ap (λ text. old ++ text) (sym (numbered_grown f xs i x lt))
