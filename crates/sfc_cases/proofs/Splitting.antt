-- What stands in front of what is found in a text.
use Rattle.std.proofs.Common.{◌≡◌, ◌∙◌, refl, sym, ap, ℕ, zero, suc, ◌+◌, if◌then◌else◌, List, [], ◌∷◌, ◌++◌, take, drop, append_assoc, add-one, Option, Some, None}
use Rattle.std.specs.Prelude.{option_map}
use Rattle.sfc_script.specs.Lines.{is_blank}
use Rattle.sfc_cases.specs.Lines.{divided_at, divided_by}

module _ {X : Type 0} where
  -- what stands before it and what it is, with these bytes in front
  abbrev pub in_front : List ℕ → List ℕ × X → List ℕ × X
  in_front front d = (front ++ d.0, d.1)

  -- these bytes and one more
  shifted : (front : List ℕ) (b : ℕ) (o : Option (List ℕ × X)) → option_map (in_front front) (option_map (in_front (b ∷ [])) o)
      ≡ option_map (in_front (front ++ b ∷ [])) o
  shifted front b None = refl
  shifted front b (Some d) = ap (λ xs. Some (xs, d.1)) (sym (append_assoc front (b ∷ []) d.0))

  pub nothing : (o : Option (List ℕ × X)) → option_map (in_front []) o ≡ o
  nothing None = refl
  nothing (Some d) = refl

-- ---- a front that becomes longer

pub front_more : (n : ℕ) (text : List ℕ) (b : ℕ) (rest : List ℕ) → drop n text ≡ b ∷ rest → take (suc n) text ≡ take n text ++ b ∷ []
front_more zero [] b rest e = absurd cc
front_more zero (c ∷ text) b rest e = let same : c ≡ b = cc in ap (λ x. x ∷ []) same
front_more (suc n) [] b rest e = absurd cc
front_more (suc n) (c ∷ text) b rest e = ap (λ xs. c ∷ xs) (front_more n text b rest e)

pub rest_more : (n : ℕ) (text : List ℕ) (b : ℕ) (rest : List ℕ) → drop n text ≡ b ∷ rest → drop (suc n) text ≡ rest
rest_more zero [] b rest e = absurd cc
rest_more zero (c ∷ text) b rest e = cc
rest_more (suc n) [] b rest e = absurd cc
rest_more (suc n) (c ∷ text) b rest e = rest_more n text b rest e

module _ {X : Type 0} (find : List ℕ → Option X) (text rest after : List ℕ) (count b : ℕ) (first : rest ≡ b ∷ after) (placed : rest ≡ drop count text) where
  pub placed_more : after ≡ drop (count + 1) text
  placed_more = sym (ap (λ n. drop n text) (add-one count) ∙ rest_more count text b after (sym placed ∙ first))

  pub said_more : ((later : Option (List ℕ × X)) → divided_by b (if is_blank b then find after else None) later
      ≡ option_map (in_front (b ∷ [])) later)
      → divided_at find text ≡ option_map (in_front (take count text)) (divided_at find rest)
      → divided_at find text ≡ option_map (in_front (take (count + 1) text)) (divided_at find after)
  said_more never before =
      before ∙ ap (λ xs. option_map (in_front (take count text)) (divided_at find xs)) first
      ∙ ap (option_map (in_front (take count text))) (never (divided_at find after))
      ∙ shifted (take count text) b (divided_at find after)
      ∙ ap (λ xs. option_map (in_front xs) (divided_at find after))
      (sym (ap (λ n. take n text) (add-one count) ∙ front_more count text b after (sym placed ∙ first)))
