-- Bytes that have come and wait, line by line.
use Rattle.std.proofs.Common.{◌≡◌, ◌∙◌, refl, sym, ap, ℕ, ◌+◌, ◌≤◌, ◌==◌, arith, Bool, true, false, if◌then◌else◌, List, [], ◌∷◌, ◌++◌, length, Some, None}
use Rattle.std.proofs.lemmas.List.{length-append}
use Rattle.sfc_asking.specs.sfc_script.Arriving.{ended_by, ended_line, is_lf, without_cr}
use Rattle.sfc_asking.specs.sfc_script.Lines.{lines_of, split_before}
use Rattle.sfc_asking.proofs.of_sfc_script.Splits.{last_line, split_more, split_stop}

-- ---- bytes without an end

nothing_split : split_before is_lf [] ≡ ([], [])
unfolding split_before
nothing_split = refl

-- no byte of them is an LF
abbrev IsUnended : List ℕ → Type 0
IsUnended bytes = (split_before is_lf bytes).1 ≡ []

none_by : (s : List ℕ × List ℕ) → ended_by s ≡ None → s.1 ≡ []
none_by (front, []) e = refl
none_by (front, m ∷ rest) e = absurd (let bad : Some (without_cr front, rest) ≡ None = e in cc)

unended : (bytes : List ℕ) → ended_line bytes ≡ None → IsUnended bytes
unended bytes e = none_by (split_before is_lf bytes) e

by_none : (s : List ℕ × List ℕ) → s.1 ≡ [] → ended_by s ≡ None
by_none (front, []) e = refl
by_none (front, m ∷ rest) e = absurd (let bad : m ∷ rest ≡ [] = e in cc)

-- one byte of them
first_of : (b : ℕ) (bytes : List ℕ) → IsUnended (b ∷ bytes) → (b == 10) ≡ false
first_of b bytes e = by (b == 10) refl
  where
    by : (t : Bool) → (b == 10) ≡ t → (b == 10) ≡ false
    by true t = absurd (let bad : b ∷ bytes ≡ [] = sym (ap (λ s. s.1) (split_stop is_lf b bytes t)) ∙ e in cc)
    by false t = t

rest_of : (b : ℕ) (bytes : List ℕ) → IsUnended (b ∷ bytes) → IsUnended bytes
rest_of b bytes e = sym (ap (λ s. s.1) (split_more is_lf b bytes (first_of b bytes e))) ∙ e

-- they stand before what follows them
split_front : (front bytes : List ℕ) → IsUnended front
    → split_before is_lf (front ++ bytes) ≡ (front ++ (split_before is_lf bytes).0, (split_before is_lf bytes).1)
split_front [] bytes e = refl
split_front (b ∷ front) bytes e =
    split_more is_lf b (front ++ bytes) (first_of b front e) ∙ ap (λ s. (b ∷ s.0, s.1)) (split_front front bytes (rest_of b front e))

whole : (bytes : List ℕ) → IsUnended bytes → (split_before is_lf bytes).0 ≡ bytes
whole [] e = ap (λ s. s.0) nothing_split
whole (b ∷ bytes) e =
    ap (λ s. s.0) (split_more is_lf b bytes (first_of b bytes e)) ∙ ap (λ rest. b ∷ rest) (whole bytes (rest_of b bytes e))

pub unended_more : (front bytes : List ℕ) → ended_line front ≡ None → ended_line bytes ≡ None → ended_line (front ++ bytes) ≡ None
unended_more front bytes e f =
    by_none (split_before is_lf (front ++ bytes)) (ap (λ s. s.1) (split_front front bytes (unended front e)) ∙ unended bytes f)

pub only_line : (bytes : List ℕ) → (bytes ≡ [] → ⊥) → ended_line bytes ≡ None → lines_of bytes ≡ bytes ∷ []
only_line [] some e = absurd (some refl)
only_line (b ∷ bytes) some e =
    let none = unended (b ∷ bytes) e in
    last_line b bytes none ∙ ap (λ line. line ∷ []) (whole (b ∷ bytes) none)

-- ---- a line of which a front was passed over

cr_short : (line : List ℕ) → length line ≤ length (without_cr line) + 1
cr_short [] = omega arith
cr_short (b ∷ []) = by (b == 13)
  where
    by : (t : Bool) → 1 ≤ length (if t then [] else b ∷ []) + 1
    by true = omega arith
    by false = omega arith
cr_short (b ∷ c ∷ line) =
    let rest : length (c ∷ line) ≤ length (without_cr (c ∷ line)) + 1 = cr_short (c ∷ line) in
    omega arith

-- the line and what stands behind it, where there is an end
ended_as : (s : List ℕ × List ℕ) (line rest : List ℕ) → ended_by s ≡ Some (line, rest) → (m : ℕ) × (s.1 ≡ m ∷ rest)
ended_as (front, []) line rest e = absurd (let bad : None ≡ Some (line, rest) = e in cc)
ended_as (front, m ∷ behind) line rest e =
    let same : ◌≡◌ {A = List ℕ × List ℕ} (without_cr front, behind) (line, rest) = cc in
    (m, ap (λ p. m ∷ p.1) same)

-- it ends where its end comes, and has all those bytes but a CR of its end
pub passed_line : (passed bytes line rest : List ℕ) → ended_line passed ≡ None → ended_line bytes ≡ Some (line, rest)
    → (first : List ℕ) × (ended_line (passed ++ bytes) ≡ Some (first, rest)) × (length passed ≤ length first + 1)
passed_line passed bytes line rest none e =
    let s = ended_as (split_before is_lf bytes) line rest e in
    let front : List ℕ = passed ++ (split_before is_lf bytes).0 in
    let split : split_before is_lf (passed ++ bytes) ≡ (front, s.0 ∷ rest) =
    split_front passed bytes (unended passed none) ∙ ap (λ (behind : List ℕ). (front, behind)) s.1 in
    let short : length front ≤ length (without_cr front) + 1 = cr_short front in
    let long : length front ≡ length passed + length (split_before is_lf bytes).0 = length-append passed (split_before is_lf bytes).0 in
    (without_cr front, ap ended_by split, omega arith)
