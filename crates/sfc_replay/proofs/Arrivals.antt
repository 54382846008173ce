-- Lines that have come.
use Rattle.std.proofs.Common.{◌≡◌, ℕ, Bool, true, false, ◌-◌, ◌+◌, if◌then◌else◌, List, [], ◌∷◌, ◌++◌, length, drop, Option, Some, None, refl, sym, ap, subst, ◌∙◌, arith, append_assoc}
use Rattle.std.proofs.Math.Seq.{drop-append_seam}
use Rattle.std.proofs.lemmas.List.{length-append}
use Rattle.sfc_script.specs.Arriving.{ended_line, ended_by, is_lf}
use Rattle.sfc_script.specs.Lines.{split_before}

abbrev joined : List ℕ × List ℕ → List ℕ
joined split = split.0 ++ split.1

-- the parts are the whole
parts : (p : ℕ → Bool) (bytes : List ℕ) → joined (split_before p bytes) ≡ bytes
unfolding split_before
parts p [] = refl
parts p (b ∷ bytes) = by (parts p bytes) (p b)
  where
    by : joined (split_before p bytes) ≡ bytes → (c : Bool)
        → joined (if c then ([], b ∷ bytes) else (b ∷ (split_before p bytes).0, (split_before p bytes).1)) ≡ b ∷ bytes
    by again true = refl
    by again false = ap (λ (x : List ℕ). b ∷ x) again

-- what stands behind other bytes is what is left without them
left_behind : (front rest bytes : List ℕ) → front ++ rest ≡ bytes → rest ≡ drop (length bytes - length rest) bytes
left_behind front rest bytes e =
    let count : length bytes - length rest ≡ length front = omega (arith, length-append front rest, sym (ap length e)) in
    sym (ap (λ (n : ℕ). drop n bytes) count ∙ ap (λ (b : List ℕ). drop (length front) b) (sym e) ∙ drop-append_seam front rest)

-- what stands behind a line, if there is one
abbrev behind_of : Option (List ℕ × List ℕ) → List ℕ
behind_of None = []
behind_of (Some (line, rest)) = rest

-- what stands behind the first line is what is left without it
pub behind_line : (bytes line rest : List ℕ) → ended_line bytes ≡ Some (line, rest)
    → ended_line bytes ≡ Some (line, drop (length bytes - length rest) bytes)
behind_line bytes line rest e = subst (λ (r : List ℕ). ended_line bytes ≡ Some (line, r)) (left bytes rest line e) e
  where
    from : (split : List ℕ × List ℕ) (bytes line rest : List ℕ) → joined split ≡ bytes → ended_by split ≡ Some (line, rest)
        → rest ≡ drop (length bytes - length rest) bytes
    from (front, []) bytes line rest whole e = absurd cc
    from (front, m ∷ behind) bytes line rest whole e =
        let same : behind ≡ rest = ap behind_of e in
        subst (λ (r : List ℕ). r ≡ drop (length bytes - length r) bytes) same
        (left_behind (front ++ m ∷ []) behind bytes (append_assoc front (m ∷ []) behind ∙ whole))

    left : (bytes rest line : List ℕ) → ended_line bytes ≡ Some (line, rest) → rest ≡ drop (length bytes - length rest) bytes
    left bytes rest line e = from (split_before is_lf bytes) bytes line rest (parts is_lf bytes) e
