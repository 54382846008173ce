-- Lines that are written for an instant and a text.
use Rattle.std.proofs.Common.{◌≡◌, ◌∙◌, refl, sym, ap, ℕ, ℤ, ◌≤◌, ◌==◌, Bool, true, false, not, ◌&&◌, List, [], ◌∷◌, ◌++◌, append_assoc, Some, arith, codes}
use Rattle.std.specs.Prelude.{if◌then◌else◌, unsigned_abs}
use Rattle.std.proofs.Math.Bool.{and-false}
use Rattle.sfc_base.specs.Durations.{greatest}
use Rattle.sfc_base.specs.TimeText.{time_text}
use Rattle.sfc_plant.specs.Plants.{PlantData}
use Rattle.sfc_tokens.specs.Lexing.DurationWords.{duration_value}
use Rattle.sfc_tokens.proofs.DurationWords.{word_again}
use Rattle.sfc_tokens.proofs.TimeLaw.{time_is}
use Rattle.sfc_script.specs.Commands.{command_of, conditional_of, said_by, said_of}
use Rattle.sfc_script.specs.Lines.{in_line, begins_with_lf, is_one_line, lines_of}
use Rattle.sfc_script.proofs.FirstLines.{timed_line}
use Rattle.sfc_script.proofs.PlainTimes.{behind_letter, behind_plain, letter_first, plain_high}

-- ---- an instant, and what stands behind it

pub timed_says : (plant : PlantData) (t : ℤ) (text : List ℕ) → unsigned_abs t ≤ greatest
    → said_of plant (time_text t ++ codes " " ++ text) ≡ said_by (command_of plant text) (conditional_of plant text) t
timed_says plant t text le =
    let value : duration_value (84 ∷ behind_letter t) ≡ Some t = ap duration_value (sym (letter_first t)) ∙ word_again (time_is t le) in
    ap (said_of plant) (append_assoc (time_text t) (codes " ") text) ∙ ap (λ word. said_of plant (word ++ 32 ∷ text)) (letter_first t)
    ∙ timed_line plant 84 (behind_letter t) (32 ∷ text) t (plain_high 84 (omega arith)) (behind_plain t le) value refl

-- ---- one line, and others behind its end

-- a byte that is no LF, and no CR before one
byte_in_front : (b : ℕ) (bytes : List ℕ) → (b == 10) ≡ false → (b == 13 && begins_with_lf bytes) ≡ false
    → lines_of (b ∷ bytes) ≡ in_line b (lines_of bytes)
byte_in_front b bytes e f =
    ap (λ t. if t then [] ∷ lines_of bytes else if b == 13 && begins_with_lf bytes then lines_of bytes else in_line b (lines_of bytes)) e
    ∙ ap (λ t. if t then lines_of bytes else in_line b (lines_of bytes)) f

neither : (s t : Bool) → (not s && t) ≡ true → (s ≡ false) × (t ≡ true)
neither false true e = (refl, refl)
neither false false e = absurd cc
neither true t e = absurd cc

turned : (t : Bool) → not t ≡ true → t ≡ false
turned false e = refl
turned true e = absurd cc

lf_first : (c : ℕ) (bytes : List ℕ) → is_one_line (c ∷ bytes) ≡ true → (c == 10) ≡ false
lf_first c [] e = (neither (c == 10) (not (c == 13)) e).0
lf_first c (d ∷ bytes) e = (neither (c == 10) (is_one_line (d ∷ bytes)) e).0

pub in_front : (line rest : List ℕ) → is_one_line line ≡ true → lines_of (line ++ 10 ∷ rest) ≡ line ∷ lines_of rest
in_front [] rest e = refl
in_front (b ∷ []) rest e =
    let n = neither (b == 10) (not (b == 13)) e in
    byte_in_front b (10 ∷ rest) n.0 (ap (λ t. t && true) (turned (b == 13) n.1))
in_front (b ∷ c ∷ bytes) rest e =
    let n = neither (b == 10) (is_one_line (c ∷ bytes)) e in
    byte_in_front b (c ∷ bytes ++ 10 ∷ rest) n.0 (ap (λ t. b == 13 && t) (lf_first c bytes n.1) ∙ and-false (b == 13))
    ∙ ap (in_line b) (in_front (c ∷ bytes) rest n.1)

pub line_first : (line rest : List ℕ) → is_one_line line ≡ true → lines_of (line ++ codes "\n" ++ rest) ≡ line ∷ lines_of rest
line_first line rest one = ap lines_of (append_assoc line (codes "\n") rest) ∙ in_front line rest one
