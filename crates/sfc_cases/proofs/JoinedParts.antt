-- Parts of a condition, one behind the other.
use Rattle.std.proofs.Common.{◌≡◌, ◌∙◌, ◌<◌, ◌-◌, refl, ap, arith, ℕ, zero, suc, List, [], ◌∷◌, ◌++◌, append_assoc, sym, Option, Some, None}
use Rattle.std.specs.Prelude.{map, option_map}
use Rattle.sfc_cases.specs.declared.joined.Joint.{Joint}
use Rattle.sfc_cases.specs.declared.joined.Part.{Part}
use Rattle.sfc_cases.specs.Conditions.{all_parts, joint_within, parts_of, parts_then}

-- one more, and those behind it
pub next_parts : (n : ℕ) (joint next : Joint) (rest front behind : List ℕ) → 0 < n → joint_within n rest ≡ Some (front, (next, behind))
    → parts_of n joint rest ≡ (joint, front) ∷ parts_of (n - 1) next behind
next_parts zero joint next rest front behind less e = absurd (omega (arith, less))
next_parts (suc n) joint next rest front behind less e =
    let one : n ≡ suc n - 1 = omega arith in
    ap (parts_then joint rest (parts_of n)) e ∙ ap (λ k. (joint, front) ∷ parts_of k next behind) one

-- no more
pub last_parts : (n : ℕ) (joint : Joint) (rest : List ℕ) → joint_within n rest ≡ None → parts_of n joint rest ≡ (joint, rest) ∷ []
last_parts zero joint rest e = refl
last_parts (suc n) joint rest e = ap (parts_then joint rest (parts_of n)) e

module _ (f : Joint × List ℕ → Option Part) (items : List Part) where
  -- what was read so far, and what these are read as
  abbrev pub behind_items : List (Joint × List ℕ) → Option (List Part)
  behind_items ps = option_map (λ parts. items ++ parts) (all_parts (map f ps))

  more : (part : Part) (o : Option (List Part)) → option_map (λ parts. items ++ parts) (option_map (λ others. part ∷ others) o)
      ≡ option_map (λ parts. (items ++ part ∷ []) ++ parts) o
  more part None = refl
  more part (Some others) = ap (λ parts. Some parts) (sym (append_assoc items (part ∷ []) others))

  module _ (p : Joint × List ℕ) (others ps : List (Joint × List ℕ)) (first : ps ≡ p ∷ others) where
    pub with_part : (part : Part) → f p ≡ Some part → behind_items ps ≡ option_map (λ parts. (items ++ part ∷ []) ++ parts) (all_parts (map f others))
    with_part part e =
        ap behind_items first ∙ ap (λ o. option_map (λ parts. items ++ parts) (all_parts (o ∷ map f others))) e ∙ more part (all_parts (map f others))

    pub without_part : f p ≡ None → behind_items ps ≡ None
    without_part e = ap behind_items first ∙ ap (λ o. option_map (λ parts. items ++ parts) (all_parts (o ∷ map f others))) e

    pub last_part_read : (part : Part) → f p ≡ Some part → others ≡ [] → behind_items ps ≡ Some (items ++ part ∷ [])
    last_part_read part e none =
        with_part part e ∙ ap (λ os. option_map (λ parts. (items ++ part ∷ []) ++ parts) (all_parts (map f os))) none
        ∙ ap (λ parts. Some parts) (nothing_more (items ++ part ∷ []))
      where
        nothing_more : (xs : List Part) → xs ++ [] ≡ xs
        nothing_more [] = refl
        nothing_more (x ∷ xs) = ap (λ ys. x ∷ ys) (nothing_more xs)
