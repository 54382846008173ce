-- The first lines of a text, byte by byte.
use Rattle.std.proofs.Common.{◌≡◌, refl, sym, ap, ◌∙◌, ℕ, ◌-◌, nat_eq, cond, Bool, true, false, List, [], ◌∷◌, ◌++◌, append_assoc, length, take, arith}
use Rattle.std.proofs.lemmas.List.{append-nil, length-append}
use Rattle.std.proofs.Math.Seq.{take-append_seam}
use Rattle.sfc_editing.specs.Fronts.{first_lines, lines_left}

pub one_more : (left byte : ℕ) (rest : List ℕ) → nat_eq left 0 ≡ false → first_lines left (byte ∷ rest) ≡ byte ∷ first_lines (lines_left left byte) rest
unfolding first_lines
one_more left byte rest h = ap (λ (b : Bool). cond b [] (byte ∷ first_lines (lines_left left byte) rest)) h

pub none_left : (left : ℕ) (rest : List ℕ) → nat_eq left 0 ≡ true → first_lines left rest ≡ []
unfolding first_lines
none_left left [] h = refl
none_left left (byte ∷ rest) h = ap (λ (b : Bool). cond b [] (byte ∷ first_lines (lines_left left byte) rest)) h

pub nothing_left : (left : ℕ) → first_lines left [] ≡ []
unfolding first_lines
nothing_left left = refl

pub nothing_in : (left : ℕ) (rest : List ℕ) → length rest ≡ 0 → first_lines left rest ≡ []
unfolding first_lines
nothing_in left [] h = refl
nothing_in left (byte ∷ rest) h = absurd (omega (arith, h))

-- one byte more in front
pub moved : (front : List ℕ) (left byte : ℕ) (now rest whole : List ℕ) → first_lines left now ≡ byte ∷ first_lines (lines_left left byte) rest
    → front ++ first_lines left now ≡ whole → (front ++ byte ∷ []) ++ first_lines (lines_left left byte) rest ≡ whole
moved front left byte now rest whole h e =
    append_assoc front (byte ∷ []) (first_lines (lines_left left byte) rest) ∙ ap (λ (t : List ℕ). front ++ t) (sym h) ∙ e

pub moved_text : (text front now : List ℕ) (byte : ℕ) (rest : List ℕ) → now ≡ byte ∷ rest → text ≡ front ++ now → text ≡ (front ++ byte ∷ []) ++ rest
moved_text text front now byte rest h e = e ∙ ap (λ (t : List ℕ). front ++ t) h ∙ sym (append_assoc front (byte ∷ []) rest)

-- nothing is left: what stands before the rest are the lines
pub ended : (text front rest lines whole : List ℕ) → text ≡ front ++ rest → lines ≡ [] → front ++ lines ≡ whole
    → take (length text - length rest) text ≡ whole
ended text front rest lines whole is none e =
    let size : length text - length rest ≡ length front = omega (arith, ap length is, length-append front rest) in
    let before : take (length front) (front ++ rest) ≡ front = take-append_seam front rest in
    ap (λ (n : ℕ). take n text) size ∙ ap (λ (t : List ℕ). take (length front) t) is ∙ before
    ∙ sym (append-nil front) ∙ ap (λ (t : List ℕ). front ++ t) (sym none) ∙ e
