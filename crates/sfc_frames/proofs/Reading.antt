-- A frame that was written is read back.
use Rattle.std.proofs.Common.{◌≡◌, ℕ, suc, ◌+◌, ◌-◌, ◌^◌, ◌<◌, ◌≤◌, true, Option, Some, None, if◌then◌else◌, List, [], ◌∷◌, ◌++◌, length, take, drop, refl, ap, ◌∙◌, arith, append_assoc, length-append, zero-add}
use Rattle.std.specs.Prelude.{codes, decimal, nat_le}
use Rattle.std.specs.List.{flat_map}
use Rattle.std.proofs.Math.Seq.{take-append_seam, drop-append_seam}
use Rattle.std.proofs.lemmas.Bool.Decides.{nat_tests}
use Rattle.std.proofs.lemmas.Fmt.{decimal_nonempty, length-decimal-le}
use Rattle.sfc_frames.specs.Frames.{AreOther, frame, framed, is_plain, line}
use Rattle.sfc_frames.specs.Heads.{Whole, Short, body, by_lines, field_of, first, head, length_by, length_of, longest, number_behind}
use Rattle.sfc_frames.specs.declared.frame_fault.Malformed.TheVariants as malformed
use Rattle.sfc_frames.specs.declared.line.Field.TheVariants as fields
use Rattle.sfc_frames.proofs.Cutting.{goes_on, not_less}
use Rattle.sfc_frames.proofs.Lines.{line_written, no_end, plain_ends}
use Rattle.sfc_frames.proofs.Numbers.{digits_first, digits_of_length, digits_plain, number_reads, value_of_length}

-- the one line of a head that was written, without its LF
abbrev line_for : ℕ → List ℕ
line_for n = codes "Content-Length: " ++ (decimal n ++ 13 ∷ [])

fits : (n : ℕ) → n ≤ 16777216 → nat_le n longest ≡ true
fits n h = grind (arith, nat_tests)

line_says : (n : ℕ) → n ≤ 16777216 → field_of (line_for n) ≡ fields.Length n
line_says n h =
    let wide : n < 2 ^ 64 = omega arith in
    let some : 0 < length (decimal n) = decimal_nonempty n wide in
    let value : number_behind 0 (decimal n ++ 13 ∷ []) ≡ Some n =
    number_reads 0 (decimal n) (digits_of_length n wide) (omega (arith, value_of_length n wide)) ∙ ap (λ m. Some m) (value_of_length n wide) in
    ap length_of (digits_first (decimal n) (13 ∷ []) (digits_of_length n wide) some)
    ∙ ap (λ t. if t then fields.Wrong malformed.NotANumber else length_by (number_behind 0 (decimal n ++ 13 ∷ []))) (no_end (decimal n) some)
    ∙ ap length_by value
    ∙ ap (λ t. if t then fields.Length n else fields.Wrong malformed.MessageTooLong) (fits n h)

line_short : (n : ℕ) → n ≤ 16777216 → length (line_for n) ≤ 1024
line_short n h = omega (arith, length-append {A = ℕ}, length-decimal-le 8 n (omega arith) (omega arith) (omega arith))

line_plain : (n : ℕ) → n ≤ 16777216 → is_plain (line_for n) ≡ true
line_plain n h = digits_plain (decimal n) (13 ∷ []) (digits_of_length n (omega arith)) refl

-- what stands behind that line
empty_line : (n k : ℕ) (bytes : List ℕ) → head (suc k) (Some n) (13 ∷ 10 ∷ bytes) ≡ body (Some n) bytes
unfolding head
empty_line n k bytes = ap (by_lines (head k) (Some n) (13 ∷ 10 ∷ bytes)) (line_written (13 ∷ []) bytes refl)

whole_body : (message rest : List ℕ) → body (Some (length message)) (message ++ rest) ≡ Whole message rest
whole_body message rest =
    ap (λ t. if t then Short else Whole (take (length message) (message ++ rest)) (drop (length message) (message ++ rest)))
    (not_less (length (message ++ rest)) (length message) (omega (arith, length-append {A = ℕ})))
    ∙ ap (λ m. Whole m (drop (length message) (message ++ rest))) (take-append_seam message rest)
    ∙ ap (λ r. Whole message r) (drop-append_seam message rest)

parts : (message rest : List ℕ) → frame message ++ rest ≡ line_for (length message) ++ 10 ∷ (13 ∷ 10 ∷ (message ++ rest))
unfolding frame
parts message rest = simp append_assoc

pub read_back : (message rest : List ℕ) → length message ≤ 16777216 → first (frame message ++ rest) ≡ Whole message rest
unfolding first
read_back message rest h =
    let n = length message in
    ap (head 16 None) (parts message rest)
    ∙ goes_on 16 15 None (line_for n ++ 10 ∷ (13 ∷ 10 ∷ (message ++ rest))) (line_for n) (13 ∷ 10 ∷ (message ++ rest)) (fields.Length n) refl
    (line_written (line_for n) (13 ∷ 10 ∷ (message ++ rest)) (line_plain n h)) (line_short n h) refl (line_says n h)
    ∙ empty_line n 14 (message ++ rest)
    ∙ whole_body message rest

-- ---- other fields are passed over

line_first : (field fields rest : List ℕ) → (line field ++ fields) ++ rest ≡ (field ++ 13 ∷ []) ++ 10 ∷ (fields ++ rest)
line_first field fields rest = simp append_assoc

passes : (others : List (List ℕ)) (k : ℕ) (said : Option ℕ) (rest : List ℕ) → AreOther others
    → head (length others + k) said (flat_map line others ++ rest) ≡ head k said rest
passes [] k said rest h = ap (λ n. head n said rest) (zero-add k)
passes (field ∷ others) k said rest h =
    let behind = flat_map line others ++ rest in
    ap (head (length (field ∷ others) + k) said) (line_first field (flat_map line others) rest)
    ∙ goes_on (length (field ∷ others) + k) (length others + k) said ((field ++ 13 ∷ []) ++ 10 ∷ behind) (field ++ 13 ∷ []) behind fields.Other (omega arith)
    (line_written (field ++ 13 ∷ []) behind (plain_ends field h.0.plain)) (omega (arith, h.0.short, length-append {A = ℕ})) (no_end field h.0.some) h.0.other
    ∙ passes others k said rest h.1

pieces : (before behind : List (List ℕ)) (message rest : List ℕ) → framed before behind message ++ rest
    ≡ flat_map line before ++ (line_for (length message) ++ 10 ∷ (flat_map line behind ++ 13 ∷ 10 ∷ (message ++ rest)))
unfolding framed
pieces before behind message rest = simp append_assoc

pub read_among : (before behind : List (List ℕ)) (message rest : List ℕ) → AreOther before → AreOther behind
    → length before + length behind ≤ 14 → length message ≤ 16777216 → first (framed before behind message ++ rest) ≡ Whole message rest
unfolding first
read_among before behind message rest b h few short =
    let n = length message in
    let k = 14 - (length before + length behind) in
    let last = 13 ∷ 10 ∷ (message ++ rest) in
    let next = flat_map line behind ++ last in
    let lines : 16 ≡ length before + suc (length behind + suc k) = omega arith in
    ap (head 16 None) (pieces before behind message rest)
    ∙ ap (λ m. head m None (flat_map line before ++ (line_for n ++ 10 ∷ next))) lines
    ∙ passes before (suc (length behind + suc k)) None (line_for n ++ 10 ∷ next) b
    ∙ goes_on (suc (length behind + suc k)) (length behind + suc k) None (line_for n ++ 10 ∷ next) (line_for n) next (fields.Length n) refl
    (line_written (line_for n) next (line_plain n short)) (line_short n short) refl (line_says n short)
    ∙ passes behind (suc k) (Some n) last h
    ∙ empty_line n k (message ++ rest)
    ∙ whole_body message rest
