-- Texts of numbered places, one after the other.
use Rattle.std.proofs.Common.{◌≡◌, ◌<◌, ◌≤◌, ◌+◌, ℕ, suc, Bool, true, false, cond, List, [], ◌∷◌, ◌++◌, length, map, filter, arith}
use Rattle.std.proofs.Common.{refl, sym, ap, ◌∙◌, append_assoc, slice_index_or}
use Rattle.std.specs.List.{range_with_len}
use Rattle.sfc_flags.specs.Flags.{flag, set_from, places_from}
use Rattle.sfc_output.specs.Lists.{listed}
use Rattle.sfc_output.specs.Programs.{texts_from}
use Rattle.sfc_output.specs.Private.ListParts.{continued, separator}

-- the first set place from a place on isn't before it
pub first_after : (i : ℕ) (flags : List Bool) (s : ℕ) (rest : List ℕ) → set_from i flags ≡ s ∷ rest → i ≤ s
first_after i [] s rest e = absurd (omega (arith, ap length e))
first_after i (true ∷ flags) s rest e = omega (arith, ap (λ (xs : List ℕ). slice_index_or xs 0 0) e)
first_after i (false ∷ flags) s rest e = omega (arith, first_after (suc i) flags s rest e)

-- one text and others behind it
behind : (is_first : Bool) (text : List ℕ) (texts : List (List ℕ))
    → separator is_first ++ (text ++ continued false texts) ≡ continued is_first (text ∷ texts)
behind true text texts = refl
behind false text texts = refl

one_more : (is_first : Bool) (out text : List ℕ) (texts : List (List ℕ))
    → (out ++ separator is_first ++ text) ++ continued false texts ≡ out ++ continued is_first (text ∷ texts)
one_more is_first out text texts =
    append_assoc (out ++ separator is_first) text (continued false texts)
    ∙ append_assoc out (separator is_first) (text ++ continued false texts)
    ∙ ap (λ (xs : List ℕ). out ++ xs) (behind is_first text texts)

-- the text of the next place stands, behind what parts it from those before it
pub placed : (text : ℕ → List ℕ) (flags : List Bool) (from i : ℕ) (is_first : Bool) (all out new : List ℕ)
    → places_from flags from ≡ i ∷ places_from flags (i + 1) → new ≡ out ++ (separator is_first ++ text i)
    → all ≡ out ++ continued is_first (map text (places_from flags from))
    → all ≡ new ++ continued false (map text (places_from flags (i + 1)))
placed text flags from i is_first all out new found e h =
    let rest = map text (places_from flags (i + 1)) in
    h ∙ ap (λ (places : List ℕ). out ++ continued is_first (map text places)) found
    ∙ sym (one_more is_first out (text i) rest)
    ∙ ap (λ (x : List ℕ). x ++ continued false rest) (append_assoc out (separator is_first) (text i) ∙ sym e)

-- the texts of all set places stand
pub set_placed : (text : ℕ → List ℕ) (flags : List Bool) (from : ℕ) (is_first : Bool) (initial out : List ℕ) → places_from flags from ≡ []
    → initial ++ listed (map text (places_from flags 0)) ≡ out ++ continued is_first (map text (places_from flags from))
    → out ++ continued is_first [] ≡ initial ++ listed (map text (places_from flags 0))
set_placed text flags from is_first initial out none h =
    sym (h ∙ ap (λ (places : List ℕ). out ++ continued is_first (map text places)) none)

module _ (is_in : ℕ → Bool) (text : ℕ → List ℕ) where
  head_by : (b : Bool) (k : ℕ) (ks : List ℕ) (texts : List (List ℕ)) → map text ks ≡ texts
      → map text (cond b (k ∷ ks) ks) ≡ cond b (text k ∷ texts) texts
  head_by true k ks texts e = ap (λ (xs : List (List ℕ)). text k ∷ xs) e
  head_by false k ks texts e = e

  set_by : (b : Bool) (k : ℕ) (ks : List ℕ) → cond b (text k ∷ map text ks) (map text ks) ≡ map text (cond b (k ∷ ks) ks)
  set_by true k ks = refl
  set_by false k ks = refl

  -- the texts of all places that are in the set are those of the places with flags
  pub texts_set : (k : ℕ) (flags : List Bool) → ((j : ℕ) → j < length flags → slice_index_or flags j false ≡ is_in (k + j))
      → texts_from is_in text k (length flags) ≡ map text (set_from k flags)
  unfolding texts_from
  texts_set k [] same = refl
  texts_set k (b ∷ flags) same =
      let here : b ≡ is_in k = same 0 (omega arith) ∙ ap is_in (omega arith) in
      let rest = texts_set (suc k) flags (λ j lt. same (suc j) (omega (arith, lt)) ∙ ap is_in (omega arith)) in
      let next : range_with_len (k + 1) (length flags) ≡ range_with_len (suc k) (length flags) =
      ap (λ (m : ℕ). range_with_len m (length flags)) (omega arith) in
      head_by (is_in k) k (filter is_in (range_with_len (k + 1) (length flags))) (map text (set_from (suc k) flags))
      (ap (λ (ks : List ℕ). map text (filter is_in ks)) next ∙ rest)
      ∙ ap (λ (c : Bool). cond c (text k ∷ map text (set_from (suc k) flags)) (map text (set_from (suc k) flags))) (sym here)
      ∙ set_by b k (set_from (suc k) flags)

  -- the same, where the flags are those of n places
  pub texts_all : (flags : List Bool) (n : ℕ) → length flags ≡ n → ((j : ℕ) → j < n → flag flags j ≡ is_in j)
      → map text (places_from flags 0) ≡ texts_from is_in text 0 n
  texts_all flags n len same =
      sym (ap (λ (m : ℕ). texts_from is_in text 0 m) (sym len)
      ∙ texts_set 0 flags (λ j lt. same j (omega (arith, lt, len)) ∙ ap is_in (omega arith)))

  -- all texts stand
  pub all_placed : (flags : List Bool) (n from : ℕ) (is_first : Bool) (initial out : List ℕ) → length flags ≡ n
      → ((j : ℕ) → j < n → flag flags j ≡ is_in j) → places_from flags from ≡ []
      → initial ++ listed (map text (places_from flags 0)) ≡ out ++ continued is_first (map text (places_from flags from))
      → out ++ continued is_first [] ≡ initial ++ listed (texts_from is_in text 0 n)
  all_placed flags n from is_first initial out len same none h =
      set_placed text flags from is_first initial out none h ∙ ap (λ (xs : List (List ℕ)). initial ++ listed xs) (texts_all flags n len same)
