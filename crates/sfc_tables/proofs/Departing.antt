-- The places of a step among first steps.
use Rattle.std.proofs.Common.{◌≡◌, ℕ, ◌+◌, ◌<◌, Bool, List, [], ◌∷◌, ◌++◌, refl, ap, sym, ◌∙◌, arith}
use Rattle.std.proofs.Common.{zero, suc, length, subst, get_or, ◌==◌, cond, true, false, inl, inr}
use Rattle.std.proofs.Math.ListN.{set}
use Rattle.std.proofs.lemmas.Bool.{cases_eq}
use Rattle.std.proofs.lemmas.Bool.Decides.{nat_tests}
use Rattle.std.proofs.lemmas.List.{append-nil, get_or-set_same, get_or-set_other}
use Rattle.std.specs.Prelude.{map, filter, All}
use Rattle.std.specs.List.{range_with_len}
use Rattle.std.proofs.lemmas.List.Elements.{filter-append, All-nil, All-cons, All-head, All-tail, All-map}
use Rattle.std.proofs.lemmas.List.Sorted.{All-permutation}
use Rattle.std.proofs.lemmas.List.FromFn.{map-range_with_len_more}
use Rattle.sfc_base.specs.declared.ids.TransitionId.{TransitionId}
use Rattle.sfc_tables.specs.Ranks.{transitions_to}
use Rattle.sfc_tables.specs.Tables.{Tabled, AreTables}

map_same : (xs : List ℕ) → map (λ (x : ℕ). x) xs ≡ xs
map_same [] = refl
map_same (x ∷ xs) = ap (λ r. x ∷ r) (map_same xs)

range_more : (n : ℕ) → range_with_len 0 (n + 1) ≡ range_with_len 0 n ++ n ∷ []
range_more n =
    sym (map_same (range_with_len 0 (n + 1)))
    ∙ map-range_with_len_more (λ (x : ℕ). x) 0 n n (omega arith)
    ∙ ap (λ xs. xs ++ n ∷ []) (map_same (range_with_len 0 n))

pub filter_more : (p : ℕ → Bool) (n : ℕ)
    → filter p (range_with_len 0 (n + 1)) ≡ filter p (range_with_len 0 n) ++ filter p (n ∷ [])
filter_more p n = ap (filter p) (range_more n) ∙ filter-append p (range_with_len 0 n) (n ∷ [])

range_below : (a n : ℕ) → All (λ i. i < a + n) (range_with_len a n)
range_below a zero = All-nil (λ i. i < a + 0)
range_below a (suc n) =
    let e : a + 1 + n ≡ a + suc n = omega arith in
    All-cons (λ i. i < a + suc n) a (range_with_len (a + 1) n) (omega arith)
    (subst (λ (k : ℕ). All (λ i. i < k) (range_with_len (a + 1) n)) e (range_below (a + 1) n))

-- all transitions that are ranked are there
pub ranked_within : (tables : Tabled) → AreTables tables → All (λ (tr : TransitionId). tr.0 < length tables.sides) tables.ranked
ranked_within tables sound =
    All-permutation (λ (tr : TransitionId). tr.0 < length tables.sides) (transitions_to (length tables.sides)) tables.ranked sound.ranked
    (All-map (λ (tr : TransitionId). tr.0 < length tables.sides) (λ (i : ℕ). let id : TransitionId = record { 0 = i } in id)
    (range_with_len 0 (length tables.sides)) (λ k d lt.
    let h = range_below 0 (length tables.sides) k d lt in omega arith))

-- one place more in the list of a group
pub added_place : (lists : List (List ℕ)) (group place : ℕ) (own mine : List ℕ) → group < length lists → get_or lists group [] ≡ own
    → mine ≡ own ++ place ∷ [] → (s : ℕ)
    → get_or (set lists group mine) s [] ≡ get_or lists s [] ++ cond (group == s) (place ∷ []) []
added_place lists group place own mine lt was more s = elim (cases_eq s group) [
  | inl same ↦ (
      let here : (group == s) ≡ true = grind (arith, nat_tests) in
      ap (λ k. get_or (set lists group mine) k []) same ∙ get_or-set_same lists group mine [] lt ∙ more
      ∙ ap (λ l. l ++ place ∷ []) (sym was ∙ ap (λ k. get_or lists k []) (sym same))
      ∙ ap (λ b. get_or lists s [] ++ cond b (place ∷ []) []) (sym here))
  | inr apart ↦ (
      let other : (group == s) ≡ false = grind (arith, nat_tests) in
      get_or-set_other lists group s mine [] apart ∙ sym (append-nil (get_or lists s []))
      ∙ ap (λ b. get_or lists s [] ++ cond b (place ∷ []) []) (sym other))
]

-- lists of which each is empty
pub all_empty : {V : Type 0} (f : V → List ℕ) (xs : List V) → All (λ v. f v ≡ []) xs → (s : ℕ) → get_or (map f xs) s [] ≡ []
all_empty f [] all s = refl
all_empty f (x ∷ xs) all zero = All-head (λ v. f v ≡ []) x xs all
all_empty f (x ∷ xs) all (suc s) = all_empty f xs (All-tail (λ v. f v ≡ []) x xs all) s
