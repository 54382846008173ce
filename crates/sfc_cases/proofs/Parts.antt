-- The parts of a list between commas.
use Rattle.std.proofs.Common.{◌≡◌, ◌∙◌, ◌<◌, ◌≤◌, refl, sym, ap, subst, ℕ, suc, Bool, true, false, if◌then◌else◌, arith, length, List, [], ◌∷◌}
use Rattle.sfc_script.specs.Lines.{in_line}
use Rattle.sfc_cases.specs.Deeds.{is_comma, parts}
use Rattle.sfc_cases.specs.Reading.{before_comma}

tail_same : (x y : ℕ) (xs ys : List ℕ) → x ∷ xs ≡ y ∷ ys → xs ≡ ys
tail_same x y xs ys same = cc

module _ (b : ℕ) (text : List ℕ) where
  abbrev split : Bool → List ℕ × List ℕ
  split t = if t then ([], b ∷ text) else (b ∷ (before_comma text).0, (before_comma text).1)

  abbrev parted : Bool → List (List ℕ)
  parted t = if t then [] ∷ parts text else in_line b (parts text)

  splits : (t : Bool) → is_comma b ≡ t → before_comma (b ∷ text) ≡ split t
  unfolding before_comma
  splits t e = ap split e

  last_by : (t : Bool) → is_comma b ≡ t → ((before_comma text).1 ≡ [] → parts text ≡ (before_comma text).0 ∷ [])
      → (before_comma (b ∷ text)).1 ≡ [] → parts (b ∷ text) ≡ (before_comma (b ∷ text)).0 ∷ []
  last_by true f before e = let bad : b ∷ text ≡ [] = sym (ap (λ s. s.1) (splits true f)) ∙ e in absurd cc
  last_by false f before e =
      ap parted f ∙ ap (in_line b) (before (sym (ap (λ s. s.1) (splits false f)) ∙ e)) ∙ sym (ap (λ s. s.0 ∷ []) (splits false f))

  next_by : (t : Bool) (c : ℕ) (rest : List ℕ) → is_comma b ≡ t
      → ((before_comma text).1 ≡ c ∷ rest → parts text ≡ (before_comma text).0 ∷ parts rest)
      → (before_comma (b ∷ text)).1 ≡ c ∷ rest → parts (b ∷ text) ≡ (before_comma (b ∷ text)).0 ∷ parts rest
  next_by true c rest f before e =
      let same : text ≡ rest = tail_same b c text rest (sym (ap (λ s. s.1) (splits true f)) ∙ e) in
      ap parted f ∙ ap (λ xs. [] ∷ parts xs) same ∙ sym (ap (λ s. s.0 ∷ parts rest) (splits true f))
  next_by false c rest f before e =
      ap parted f ∙ ap (in_line b) (before (sym (ap (λ s. s.1) (splits false f)) ∙ e)) ∙ sym (ap (λ s. s.0 ∷ parts rest) (splits false f))

pub none_left : (text : List ℕ) → length text ≡ 0 → text ≡ []
none_left [] e = refl
none_left (b ∷ text) e = absurd (omega arith)

-- what is left is no longer
module _ (b : ℕ) (text : List ℕ) where
  within_by : (t : Bool) → is_comma b ≡ t → length (before_comma text).1 ≤ length text → length (before_comma (b ∷ text)).1 ≤ length (b ∷ text)
  within_by true f before = subst (λ s. length s.1 ≤ suc (length text)) (sym (splits b text true f)) (omega arith)
  within_by false f before = subst (λ s. length s.1 ≤ suc (length text)) (sym (splits b text false f)) (omega (arith, before))

within : (text : List ℕ) → length (before_comma text).1 ≤ length text
unfolding before_comma
within [] = omega arith
within (b ∷ text) = within_by b text (is_comma b) refl (within text)

pub shorter : (text : List ℕ) (c : ℕ) (rest : List ℕ) → (before_comma text).1 ≡ c ∷ rest → length rest < length text
shorter text c rest e =
    let all : length (before_comma text).1 ≤ length text = within text in
    let more : length (before_comma text).1 ≡ suc (length rest) = ap length e in
    omega (arith, all, more)

-- no comma is left
pub last_part : (text : List ℕ) → (before_comma text).1 ≡ [] → parts text ≡ (before_comma text).0 ∷ []
unfolding before_comma
last_part [] e = refl
last_part (b ∷ text) e = last_by b text (is_comma b) refl (last_part text) e

-- one is
pub next_part : (text : List ℕ) (c : ℕ) (rest : List ℕ) → (before_comma text).1 ≡ c ∷ rest → parts text ≡ (before_comma text).0 ∷ parts rest
unfolding before_comma
next_part [] c rest e = absurd cc
next_part (b ∷ text) c rest e = next_by b text (is_comma b) c rest refl (next_part text c rest) e
