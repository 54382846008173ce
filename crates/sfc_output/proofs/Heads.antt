-- The head of the line of a program instance, with another number of scans.
use Rattle.std.proofs.Common.{◌≡◌, ◌<◌, ◌+◌, ◌-◌, ◌/◌, ◌%◌, ◌^◌, ◌++◌, ◌∷◌, [], ℕ, zero, suc, List, length, set, codes, refl, ap, sym, ◌∙◌, append_assoc, arith}
use Rattle.std.specs.Fmt.{decimal}
use Rattle.std.proofs.lemmas.Fmt.{decimal_step_wide, decimal_digit}
use Rattle.std.proofs.lemmas.List.{length-append}
use Rattle.std.proofs.Math.Seq.{set-append_seam}
use Rattle.sfc_output.specs.declared.kept_head.KeptHead.{KeptHead}
use Rattle.sfc_output.specs.Memories.{IsHead, text_in}
use Rattle.sfc_output.specs.Programs.{scans_text}

-- the digits of a number, or none of zero
abbrev digits_of : ℕ → List ℕ
digits_of zero = []
digits_of (suc k) = decimal (suc k)

-- the last digit stands behind those of the tenth
last_digit : (n k : ℕ) → n / 10 ≡ k → n < 10 ^ 64 → decimal n ≡ digits_of k ++ (48 + n % 10) ∷ []
last_digit n zero e small =
    let same : n ≡ n % 10 = omega (arith, e) in
    decimal_digit n (omega (arith, e)) ∙ ap (λ (d : ℕ). (48 + d) ∷ []) same
last_digit n (suc k) e small =
    decimal_step_wide n (omega (arith, e)) small ∙ ap (λ (q : ℕ). decimal q ++ (48 + n % 10) ∷ []) e

-- what stands before the last digit
before : List ℕ → ℕ → List ℕ
before name k = codes "  " ++ name ++ codes " " ++ digits_of k

split : (a f s : List ℕ) (d : ℕ) → (a ++ (f ++ d ∷ [])) ++ s ≡ (a ++ f) ++ d ∷ s
split a f s d = ap (λ (xs : List ℕ). xs ++ s) (sym (append_assoc a f (d ∷ []))) ∙ append_assoc (a ++ f) (d ∷ []) s

-- the head, parted at the last digit
parted : (name : List ℕ) (n k : ℕ) → n / 10 ≡ k → n < 10 ^ 64
    → scans_text name n ≡ before name k ++ (48 + n % 10) ∷ codes " steps "
unfolding scans_text before
parted name n k e small =
    let front = codes "  " ++ name ++ codes " " in
    ap (λ (xs : List ℕ). front ++ xs ++ codes " steps ") (last_digit n k e small) ∙ split front (digits_of k) (codes " steps ") (48 + n % 10)

-- how long it is
long : (name : List ℕ) (n k : ℕ) → n / 10 ≡ k → n < 10 ^ 64 → length (scans_text name n) - 8 ≡ length (before name k)
long name n k e small =
    let behind : length ((48 + n % 10) ∷ codes " steps ") ≡ 8 = refl in
    let all = ap length (parted name n k e small) ∙ length-append (before name k) ((48 + n % 10) ∷ codes " steps ") in
    omega (arith, all, behind)

-- with the last digit of another number that has the same tenth, it is the head with that number
replaced : (name : List ℕ) (n m k : ℕ) → n / 10 ≡ k → m / 10 ≡ k → n < 10 ^ 64 → m < 10 ^ 64
    → set (scans_text name n) (length (scans_text name n) - 8) (48 + m % 10) ≡ scans_text name m
replaced name n m k e f n_small m_small =
    let digit = 48 + m % 10 in
    ap (λ (i : ℕ). set (scans_text name n) i digit) (long name n k e n_small)
    ∙ ap (λ (xs : List ℕ). set xs (length (before name k)) digit) (parted name n k e n_small)
    ∙ set-append_seam (before name k) (48 + n % 10) (codes " steps ") digit
    ∙ sym (parted name m k f m_small)

-- a head that is kept serves for the ten numbers
pub head_kept : (name : List ℕ) (head : KeptHead) (n : ℕ) → n < 2 ^ 64 → head.first ≡ n - n % 10
    → (0 < head.text.count → text_in head.text ≡ scans_text name n)
    → (0 < head.text.count → head.text.count ≡ length (scans_text name n)) → IsHead name head
head_kept name head n small first kept whole m has =
    let some : 0 < head.text.count = omega (arith, has.long) in
    let same : n / 10 ≡ m / 10 = omega (arith, first, has.from, has.below) in
    let digit : 48 + (m - head.first) ≡ 48 + m % 10 = omega (arith, first, has.from, has.below) in
    let m_small : m < 2 ^ 64 + 10 = omega (arith, small, first, has.below) in
    (λ i. set (kept some i) (whole some i - 8) (digit i))
    ∙ replaced name n m (m / 10) same refl (omega (arith, small)) (omega (arith, m_small))
