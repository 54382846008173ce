-- Heads, line by line.
use Rattle.std.proofs.Common.{◌≡◌, ℕ, zero, suc, ◌<◌, ◌≤◌, Bool, true, false, Option, Some, None, if◌then◌else◌, List, ◌++◌, length, take, drop, refl, ap, ◌∙◌, arith, length-append}
use Rattle.std.specs.Prelude.{nat_lt}
use Rattle.std.proofs.lemmas.Bool.Decides.{nat_tests}
use Rattle.std.proofs.lemmas.List.{take-append-le, drop-append-le}
use Rattle.sfc_frames.specs.Heads.{Cut, Whole, Short, Wrong, Stays, body, by_field, by_line, by_lines, field_of, first, head, is_end, is_long, line_of}
use Rattle.sfc_frames.specs.declared.frame_fault.Malformed.TheVariants as malformed
use Rattle.sfc_frames.specs.declared.line.Field.{Field}
use Rattle.sfc_frames.specs.declared.line.Field.TheVariants as fields
use Rattle.sfc_frames.proofs.Lines.{behind, line_comes, line_stays}

not_long : (line : List ℕ) → length line ≤ 1024 → is_long line ≡ false
not_long line h = grind (arith, nat_tests)

-- a head goes on behind a line that isn't empty
pub goes_on : (left k : ℕ) (said : Option ℕ) (bytes line rest : List ℕ) (f : Field) → left ≡ suc k → line_of bytes ≡ Some (line, rest)
    → length line ≤ 1024 → is_end line ≡ false → field_of line ≡ f → head left said bytes ≡ by_field (λ s. head k s rest) said f
unfolding head
goes_on left k said bytes line rest f one e short more told =
    ap (λ n. head n said bytes) one
    ∙ ap (by_lines (head k) said bytes) e
    ∙ ap (λ t. if t then Wrong malformed.HeadTooLong else by_line (head k) said line rest) (not_long line short)
    ∙ ap (λ t. if t then body said rest else by_field (λ s. head k s rest) said (field_of line)) more
    ∙ ap (by_field (λ s. head k s rest) said) told

pub not_less : (m n : ℕ) → n ≤ m → nat_lt m n ≡ false
not_less m n h = grind (arith, nat_tests)

stays_long : (line more : List ℕ) → is_long line ≡ true → is_long (line ++ more) ≡ true
stays_long line more h =
    let long : 1024 < length line = grind (arith, nat_tests) in
    let longer : 1024 < length (line ++ more) = omega (arith, length-append {A = ℕ}) in
    grind (arith, nat_tests)

-- ---- what comes behind changes nothing that was found

body_by : (t : Bool) (n : ℕ) (bytes more : List ℕ) → nat_lt (length bytes) n ≡ t
    → Stays (if t then Short else Whole (take n bytes) (drop n bytes)) (if nat_lt (length (bytes ++ more)) n then Short else Whole (take n (bytes ++ more)) (drop n (bytes ++ more))) more
body_by true n bytes more e = tt
body_by false n bytes more e =
    let fits : n ≤ length bytes = grind (arith, nat_tests) in
    let still : nat_lt (length (bytes ++ more)) n ≡ false = not_less (length (bytes ++ more)) n (omega (arith, length-append {A = ℕ})) in
    ap (λ t. if t then Short else Whole (take n (bytes ++ more)) (drop n (bytes ++ more))) still
    ∙ ap (λ m. Whole m (drop n (bytes ++ more))) (take-append-le n bytes more fits)
    ∙ ap (λ r. Whole (take n bytes) r) (drop-append-le n bytes more fits)

body_stays : (said : Option ℕ) (bytes more : List ℕ) → Stays (body said bytes) (body said (bytes ++ more)) more
body_stays None bytes more = refl
body_stays (Some n) bytes more = body_by (nat_lt (length bytes) n) n bytes more refl

field_stays : (go later : Option ℕ → Cut) (said : Option ℕ) (f : Field) (more : List ℕ) → ((s : Option ℕ) → Stays (go s) (later s) more)
    → Stays (by_field go said f) (by_field later said f) more
field_stays go later said fields.Other more h = h said
field_stays go later said (fields.Length n) more h = h (Some n)
field_stays go later said (fields.Wrong why) more h = refl

line_by : (k : ℕ) (said : Option ℕ) (line rest more : List ℕ) → ((s : Option ℕ) → Stays (head k s rest) (head k s (rest ++ more)) more)
    → (t : Bool) → Stays (if t then body said rest else by_field (λ s. head k s rest) said (field_of line))
    (if t then body said (rest ++ more) else by_field (λ s. head k s (rest ++ more)) said (field_of line)) more
line_by k said line rest more h true = body_stays said rest more
line_by k said line rest more h false = field_stays (λ s. head k s rest) (λ s. head k s (rest ++ more)) said (field_of line) more h

long_by : (k : ℕ) (said : Option ℕ) (line rest more : List ℕ) → ((s : Option ℕ) → Stays (head k s rest) (head k s (rest ++ more)) more)
    → (t : Bool) → Stays (if t then Wrong malformed.HeadTooLong else by_line (head k) said line rest) (if t then Wrong malformed.HeadTooLong else by_line (head k) said line (rest ++ more)) more
long_by k said line rest more h true = refl
long_by k said line rest more h false = line_by k said line rest more h (is_end line)

-- a line that is too long without its end is too long with it
comes_by : (k : ℕ) (said : Option ℕ) (bytes more : List ℕ) (o : Option (List ℕ × List ℕ)) → is_long bytes ≡ true
    → by_lines (head k) said (bytes ++ more) (behind bytes o) ≡ Wrong malformed.HeadTooLong
comes_by k said bytes more None long = ap (λ t. if t then Wrong malformed.HeadTooLong else Short) (stays_long bytes more long)
comes_by k said bytes more (Some (line, rest)) long =
    ap (λ t. if t then Wrong malformed.HeadTooLong else by_line (head k) said (bytes ++ line) rest) (stays_long bytes line long)

cut_by : (k : ℕ) (said : Option ℕ) (bytes more : List ℕ) (t : Bool) → line_of bytes ≡ None → is_long bytes ≡ t
    → Stays (if t then Wrong malformed.HeadTooLong else Short) (by_lines (head k) said (bytes ++ more) (line_of (bytes ++ more))) more
cut_by k said bytes more true e long = ap (by_lines (head k) said (bytes ++ more)) (line_comes bytes more e) ∙ comes_by k said bytes more (line_of more) long
cut_by k said bytes more false e long = tt

pub head_stays : (k : ℕ) (said : Option ℕ) (bytes more : List ℕ) → Stays (head k said bytes) (head k said (bytes ++ more)) more
unfolding head
head_stays zero said bytes more = refl
head_stays (suc k) said bytes more = by (λ s rest. head_stays k s rest more) (line_of bytes) refl
  where
    by : ((s : Option ℕ) (rest : List ℕ) → Stays (head k s rest) (head k s (rest ++ more)) more) → (o : Option (List ℕ × List ℕ)) → line_of bytes ≡ o
        → Stays (by_lines (head k) said bytes o) (by_lines (head k) said (bytes ++ more) (line_of (bytes ++ more))) more
    by again None e = cut_by k said bytes more (is_long bytes) e refl
    by again (Some (line, rest)) e = rw (line_stays bytes more line rest e) (long_by k said line rest more (λ s. again s rest) (is_long line))

pub first_stays : (bytes more : List ℕ) → Stays (first bytes) (first (bytes ++ more)) more
unfolding first
first_stays bytes more = head_stays 16 None bytes more
