-- Lines, and the bytes up to a mark.
use Rattle.std.proofs.Common.{◌≡◌, ℕ, suc, ◌-◌, ◌<◌, ◌≤◌, ◌==◌, Bool, true, false, Some, None, ◌&&◌, if◌then◌else◌, List, [], ◌∷◌, ◌++◌, length, take, refl, sym, ap, ◌∙◌, subst, arith, append_assoc, length-append}
use Rattle.std.proofs.Math.Bool.{and-false}
use Rattle.std.proofs.lemmas.Bool.Decides.{nat_tests}
use Rattle.std.proofs.lemmas.List.{take_at}
use Rattle.sfc_script.specs.Lines.{in_line, begins_with_lf, lines_of, split_before}
use Rattle.sfc_script.specs.Arriving as arriving
use Rattle.sfc_script.specs.Arriving.{without_cr, is_lf}
use Rattle.sfc_script.specs.Private.Splitting.{IsLine}

pub split_more : (p : ℕ → Bool) (b : ℕ) (bytes : List ℕ) → p b ≡ false → split_before p (b ∷ bytes) ≡ (b ∷ (split_before p bytes).0, (split_before p bytes).1)
unfolding split_before
split_more p b bytes e = ap (λ t. if t then ([], b ∷ bytes) else (b ∷ (split_before p bytes).0, (split_before p bytes).1)) e

pub split_stop : (p : ℕ → Bool) (b : ℕ) (bytes : List ℕ) → p b ≡ true → split_before p (b ∷ bytes) ≡ ([], b ∷ bytes)
unfolding split_before
split_stop p b bytes e = ap (λ t. if t then ([], b ∷ bytes) else (b ∷ (split_before p bytes).0, (split_before p bytes).1)) e

split_nothing : (p : ℕ → Bool) → split_before p [] ≡ ([], [])
unfolding split_before
split_nothing p = refl

-- ---- lines

lines_end : (b : ℕ) (bytes : List ℕ) → (b == 10) ≡ true → lines_of (b ∷ bytes) ≡ [] ∷ lines_of bytes
lines_end b bytes e = ap (λ t. if t then [] ∷ lines_of bytes else if b == 13 && begins_with_lf bytes then lines_of bytes else in_line b (lines_of bytes)) e

lines_more : (b : ℕ) (bytes : List ℕ) → (b == 10) ≡ false → lines_of (b ∷ bytes) ≡ (if b == 13 && begins_with_lf bytes then lines_of bytes else in_line b (lines_of bytes))
lines_more b bytes e = ap (λ t. if t then [] ∷ lines_of bytes else if b == 13 && begins_with_lf bytes then lines_of bytes else in_line b (lines_of bytes)) e

lines_byte : (b : ℕ) (bytes : List ℕ) → (b == 10) ≡ false → begins_with_lf bytes ≡ false → lines_of (b ∷ bytes) ≡ in_line b (lines_of bytes)
lines_byte b bytes e f = lines_more b bytes e ∙ ap (λ t. if b == 13 && t then lines_of bytes else in_line b (lines_of bytes)) f
    ∙ ap (λ t. if t then lines_of bytes else in_line b (lines_of bytes)) (and-false (b == 13))

no_end : (b : ℕ) (bytes : List ℕ) → (b == 10) ≡ true → (split_before is_lf (b ∷ bytes)).1 ≡ [] → ⊥
no_end b bytes e none = let bad : b ∷ bytes ≡ [] = sym (ap (λ s. s.1) (split_stop is_lf b bytes e)) ∙ none in cc

behind_byte : (b : ℕ) (bytes r : List ℕ) → (b == 10) ≡ false → (split_before is_lf (b ∷ bytes)).1 ≡ r → (split_before is_lf bytes).1 ≡ r
behind_byte b bytes r e f = sym (ap (λ s. s.1) (split_more is_lf b bytes e)) ∙ f

-- bytes without an LF are one line
pub last_line : (b : ℕ) (bytes : List ℕ) → (split_before is_lf (b ∷ bytes)).1 ≡ [] → lines_of (b ∷ bytes) ≡ (split_before is_lf (b ∷ bytes)).0 ∷ []
last_line b [] none = by (b == 10) refl
  where
    by : (t : Bool) → (b == 10) ≡ t → lines_of (b ∷ []) ≡ (split_before is_lf (b ∷ [])).0 ∷ []
    by true e = absurd (no_end b [] e none)
    by false e = lines_byte b [] e refl ∙ sym (ap (λ s. (b ∷ s.0) ∷ []) (split_nothing is_lf)) ∙ sym (ap (λ s. s.0 ∷ []) (split_more is_lf b [] e))
last_line b (c ∷ bytes) none = by (λ f. last_line c bytes f) (b == 10) refl
  where
    after : ((split_before is_lf (c ∷ bytes)).1 ≡ [] → lines_of (c ∷ bytes) ≡ (split_before is_lf (c ∷ bytes)).0 ∷ []) → (b == 10) ≡ false → (split_before is_lf (c ∷ bytes)).1 ≡ [] → (t : Bool) → (c == 10) ≡ t
        → lines_of (b ∷ c ∷ bytes) ≡ (b ∷ (split_before is_lf (c ∷ bytes)).0) ∷ []
    after again e f true g = absurd (no_end c bytes g f)
    after again e f false g = lines_byte b (c ∷ bytes) e g ∙ ap (λ lines. in_line b lines) (again f)

    by : ((split_before is_lf (c ∷ bytes)).1 ≡ [] → lines_of (c ∷ bytes) ≡ (split_before is_lf (c ∷ bytes)).0 ∷ []) → (t : Bool) → (b == 10) ≡ t → lines_of (b ∷ c ∷ bytes) ≡ (split_before is_lf (b ∷ c ∷ bytes)).0 ∷ []
    by again true e = absurd (no_end b (c ∷ bytes) e none)
    by again false e = after again e (behind_byte b (c ∷ bytes) [] e none) (c == 10) refl ∙ sym (ap (λ s. s.0 ∷ []) (split_more is_lf b (c ∷ bytes) e))

tail_of : (x y : ℕ) (xs ys : List ℕ) → x ∷ xs ≡ y ∷ ys → xs ≡ ys
tail_of x y xs ys e = cc

nothing_behind : (m : ℕ) (rest : List ℕ) → (split_before is_lf []).1 ≡ m ∷ rest → ⊥
nothing_behind m rest found = let bad : [] ≡ m ∷ rest = sym (ap (λ s. s.1) (split_nothing is_lf)) ∙ found in cc

-- an LF ends an empty line
end_first : (b : ℕ) (bytes : List ℕ) (m : ℕ) (rest : List ℕ) → (b == 10) ≡ true → (split_before is_lf (b ∷ bytes)).1 ≡ m ∷ rest → lines_of (b ∷ bytes) ≡ without_cr (split_before is_lf (b ∷ bytes)).0 ∷ lines_of rest
end_first b bytes m rest e found =
    let same : bytes ≡ rest = tail_of b m bytes rest (sym (ap (λ s. s.1) (split_stop is_lf b bytes e)) ∙ found) in
    lines_end b bytes e ∙ ap (λ r. [] ∷ lines_of r) same ∙ sym (ap (λ s. without_cr s.0 ∷ lines_of rest) (split_stop is_lf b bytes e))

-- a byte directly before an LF
byte_then_end : (b c : ℕ) (bytes : List ℕ) → (b == 10) ≡ false → (c == 10) ≡ true → lines_of (b ∷ c ∷ bytes) ≡ without_cr (b ∷ []) ∷ lines_of bytes
byte_then_end b c bytes e g = lines_more b (c ∷ bytes) e ∙ by (b == 13) refl
  where
    by : (t : Bool) → (b == 13) ≡ t → (if t && begins_with_lf (c ∷ bytes) then lines_of (c ∷ bytes) else in_line b (lines_of (c ∷ bytes))) ≡ without_cr (b ∷ []) ∷ lines_of bytes
    by true h = ap (λ t. if t then lines_of (c ∷ bytes) else in_line b (lines_of (c ∷ bytes))) g ∙ lines_end c bytes g ∙ sym (ap (λ t. (if t then [] else b ∷ []) ∷ lines_of bytes) h)
    by false h = ap (λ lines. in_line b lines) (lines_end c bytes g) ∙ sym (ap (λ t. (if t then [] else b ∷ []) ∷ lines_of bytes) h)

-- bytes with an LF begin with a line that ends there
pub ended_line : (bytes : List ℕ) (m : ℕ) (rest : List ℕ) → (split_before is_lf bytes).1 ≡ m ∷ rest → lines_of bytes ≡ without_cr (split_before is_lf bytes).0 ∷ lines_of rest
ended_line [] m rest found = absurd (nothing_behind m rest found)
ended_line (b ∷ []) m rest found = by (b == 10) refl
  where
    by : (t : Bool) → (b == 10) ≡ t → lines_of (b ∷ []) ≡ without_cr (split_before is_lf (b ∷ [])).0 ∷ lines_of rest
    by true e = end_first b [] m rest e found
    by false e = absurd (nothing_behind m rest (behind_byte b [] (m ∷ rest) e found))
ended_line (b ∷ c ∷ bytes) m rest found = by (λ f. ended_line (c ∷ bytes) m rest f) (b == 10) refl
  where
    after : ((split_before is_lf (c ∷ bytes)).1 ≡ m ∷ rest → lines_of (c ∷ bytes) ≡ without_cr (split_before is_lf (c ∷ bytes)).0 ∷ lines_of rest) → (b == 10) ≡ false → (split_before is_lf (c ∷ bytes)).1 ≡ m ∷ rest → (t : Bool) → (c == 10) ≡ t
        → lines_of (b ∷ c ∷ bytes) ≡ without_cr (b ∷ (split_before is_lf (c ∷ bytes)).0) ∷ lines_of rest
    after again e f true g =
        let same : bytes ≡ rest = tail_of c m bytes rest (sym (ap (λ s. s.1) (split_stop is_lf c bytes g)) ∙ f) in
        byte_then_end b c bytes e g ∙ ap (λ r. without_cr (b ∷ []) ∷ lines_of r) same ∙ sym (ap (λ s. without_cr (b ∷ s.0) ∷ lines_of rest) (split_stop is_lf c bytes g))
    after again e f false g =
        lines_byte b (c ∷ bytes) e g ∙ ap (λ lines. in_line b lines) (again f)
        ∙ ap (λ s. (b ∷ without_cr s.0) ∷ lines_of rest) (split_more is_lf c bytes g) ∙ sym (ap (λ s. without_cr (b ∷ s.0) ∷ lines_of rest) (split_more is_lf c bytes g))

    by : ((split_before is_lf (c ∷ bytes)).1 ≡ m ∷ rest → lines_of (c ∷ bytes) ≡ without_cr (split_before is_lf (c ∷ bytes)).0 ∷ lines_of rest) → (t : Bool) → (b == 10) ≡ t → lines_of (b ∷ c ∷ bytes) ≡ without_cr (split_before is_lf (b ∷ c ∷ bytes)).0 ∷ lines_of rest
    by again true e = end_first b (c ∷ bytes) m rest e found
    by again false e = after again e (behind_byte b (c ∷ bytes) (m ∷ rest) e found) (c == 10) refl ∙ sym (ap (λ s. without_cr s.0 ∷ lines_of rest) (split_more is_lf b (c ∷ bytes) e))

-- what stands from the mark on is no longer than the bytes
pub behind_short : (p : ℕ → Bool) (bytes : List ℕ) → length (split_before p bytes).1 ≤ length bytes
behind_short p [] = rw (split_nothing p) (omega arith)
behind_short p (b ∷ bytes) = by (behind_short p bytes) (p b) refl
  where
    by : length (split_before p bytes).1 ≤ length bytes → (t : Bool) → p b ≡ t → length (split_before p (b ∷ bytes)).1 ≤ suc (length bytes)
    by shorter true e = rw (split_stop p b bytes e) (omega arith)
    by shorter false e = rw (split_more p b bytes e) (omega arith)

-- a CR before the end
pub without_cr-last : (front : List ℕ) (b : ℕ) → without_cr (front ++ b ∷ []) ≡ (if b == 13 then front else front ++ b ∷ [])
without_cr-last [] b = refl
without_cr-last (c ∷ []) b = by (b == 13) refl
  where
    by : (t : Bool) → (b == 13) ≡ t → c ∷ (if t then [] else b ∷ []) ≡ (if t then c ∷ [] else c ∷ b ∷ [])
    by true e = refl
    by false e = refl
without_cr-last (c ∷ d ∷ front) b = ap (λ line. c ∷ line) (without_cr-last (d ∷ front) b) ∙ by (b == 13)
  where
    by : (t : Bool) → c ∷ (if t then d ∷ front else d ∷ front ++ b ∷ []) ≡ (if t then c ∷ d ∷ front else c ∷ d ∷ front ++ b ∷ [])
    by true = refl
    by false = refl

-- the only line of bytes without an LF
pub line_alone : (bytes line behind : List ℕ) → (bytes ≡ [] → ⊥) → (line, behind) ≡ split_before is_lf bytes → behind ≡ [] → (lines_of bytes ≡ line ∷ lines_of behind) × (length behind < length bytes)
line_alone [] line behind some split none = absurd (some refl)
line_alone (b ∷ bytes) line behind some split none =
    let e : (split_before is_lf (b ∷ bytes)).1 ≡ [] = sym (ap (λ s. s.1) split) ∙ none in
    (last_line b bytes e ∙ ap (λ s. s.0 ∷ []) (sym split) ∙ ap (λ r. line ∷ lines_of r) (sym none), rw none (omega arith))

-- a line that ends, and what stands behind its LF
pub line_ended : (bytes line behind rest trimmed : List ℕ) (m : ℕ) → (line, behind) ≡ split_before is_lf bytes → behind ≡ m ∷ rest → trimmed ≡ without_cr line → (lines_of bytes ≡ trimmed ∷ lines_of rest) × (length rest < length bytes)
line_ended bytes line behind rest trimmed m split found cut =
    let e : (split_before is_lf bytes).1 ≡ m ∷ rest = sym (ap (λ s. s.1) split) ∙ found in
    let short : length (split_before is_lf bytes).1 ≤ length bytes = behind_short is_lf bytes in
    let shorter : suc (length rest) ≤ length bytes = subst (λ r. length r ≤ length bytes) e short in
    (ended_line bytes m rest e ∙ ap (λ s. without_cr s.0 ∷ lines_of rest) (sym split) ∙ ap (λ l. l ∷ lines_of rest) (sym cut), omega arith)

-- ---- a line with its end

-- what was parted is the bytes
parts_joined : (p : ℕ → Bool) (bytes : List ℕ) → (split_before p bytes).0 ++ (split_before p bytes).1 ≡ bytes
parts_joined p [] = ap (λ s. s.0 ++ s.1) (split_nothing p)
parts_joined p (b ∷ bytes) = by (parts_joined p bytes) (p b) refl
  where
    by : (split_before p bytes).0 ++ (split_before p bytes).1 ≡ bytes → (t : Bool) → p b ≡ t → (split_before p (b ∷ bytes)).0 ++ (split_before p (b ∷ bytes)).1 ≡ b ∷ bytes
    by again true e = ap (λ s. s.0 ++ s.1) (split_stop p b bytes e)
    by again false e = ap (λ s. s.0 ++ s.1) (split_more p b bytes e) ∙ ap (λ r. b ∷ r) again

-- a line and its LF are parted there, whatever follows
parted_again : (bytes : List ℕ) (m : ℕ) (rest more : List ℕ) → (split_before is_lf bytes).1 ≡ m ∷ rest → split_before is_lf (((split_before is_lf bytes).0 ++ m ∷ []) ++ more) ≡ ((split_before is_lf bytes).0, m ∷ more)
parted_again [] m rest more found = absurd (nothing_behind m rest found)
parted_again (b ∷ bytes) m rest more found = by (λ f. parted_again bytes m rest more f) (b == 10) refl
  where
    by : ((split_before is_lf bytes).1 ≡ m ∷ rest → split_before is_lf (((split_before is_lf bytes).0 ++ m ∷ []) ++ more) ≡ ((split_before is_lf bytes).0, m ∷ more)) → (t : Bool) → (b == 10) ≡ t
        → split_before is_lf (((split_before is_lf (b ∷ bytes)).0 ++ m ∷ []) ++ more) ≡ ((split_before is_lf (b ∷ bytes)).0, m ∷ more)
    by again true e =
        let whole : b ∷ bytes ≡ m ∷ rest = sym (ap (λ s. s.1) (split_stop is_lf b bytes e)) ∙ found in
        let same : b ≡ m = cc in
        ap (λ s. split_before is_lf ((s.0 ++ m ∷ []) ++ more)) (split_stop is_lf b bytes e) ∙ split_stop is_lf m more (sym (ap (λ k. k == 10) same) ∙ e)
        ∙ sym (ap (λ s. (s.0, m ∷ more)) (split_stop is_lf b bytes e))
    by again false e =
        ap (λ s. split_before is_lf ((s.0 ++ m ∷ []) ++ more)) (split_more is_lf b bytes e)
        ∙ split_more is_lf b (((split_before is_lf bytes).0 ++ m ∷ []) ++ more) e
        ∙ ap (λ s. (b ∷ s.0, s.1)) (again (behind_byte b bytes (m ∷ rest) e found))
        ∙ sym (ap (λ s. (s.0, m ∷ more)) (split_more is_lf b bytes e))

-- the bytes before what follows an LF
cut_at : (front : List ℕ) (m : ℕ) (rest : List ℕ) → take (length (front ++ m ∷ rest) - length rest) (front ++ m ∷ rest) ≡ front ++ m ∷ []
cut_at front m rest =
    let parts : front ++ m ∷ rest ≡ (front ++ m ∷ []) ++ rest = sym (append_assoc front (m ∷ []) rest) in
    let count : length (front ++ m ∷ []) ≡ length (front ++ m ∷ rest) - length rest = simp length-append (omega arith) in
    ap (take (length (front ++ m ∷ rest) - length rest)) parts ∙ take_at (front ++ m ∷ []) rest (length (front ++ m ∷ rest) - length rest) count

pub line_again : (bytes line behind rest trimmed : List ℕ) (m : ℕ) → (line, behind) ≡ split_before is_lf bytes → behind ≡ m ∷ rest → trimmed ≡ without_cr line → IsLine (take (length bytes - length rest) bytes) trimmed
line_again bytes line behind rest trimmed m split found cut = λ more.
    let e : (split_before is_lf bytes).1 ≡ m ∷ rest = sym (ap (λ s. s.1) split) ∙ found in
    let whole : line ++ m ∷ rest ≡ bytes = ap (λ r. line ++ r) (sym found) ∙ ap (λ s. s.0 ++ s.1) split ∙ parts_joined is_lf bytes in
    let front : take (length bytes - length rest) bytes ≡ line ++ m ∷ [] = ap (λ (b : List ℕ). take (length b - length rest) b) (sym whole) ∙ cut_at line m rest in
    let again : split_before is_lf ((line ++ m ∷ []) ++ more) ≡ (line, m ∷ more) = ap (λ s. split_before is_lf ((s.0 ++ m ∷ []) ++ more)) split ∙ parted_again bytes m rest more e ∙ sym (ap (λ s. (s.0, m ∷ more)) split) in
    ap (λ (x : List ℕ). lines_of (x ++ more)) front
    ∙ ended_line ((line ++ m ∷ []) ++ more) m more (ap (λ s. s.1) again)
    ∙ ap (λ s. without_cr s.0 ∷ lines_of more) again ∙ ap (λ l. l ∷ lines_of more) (sym cut)

pub cr_last : (line front : List ℕ) (b : ℕ) → line ≡ front ++ b ∷ [] → (b == 13) ≡ true → front ≡ without_cr line
cr_last line front b e h = sym (ap without_cr e ∙ without_cr-last front b ∙ ap (λ t. if t then front else front ++ b ∷ []) h)

pub no_cr_last : (line front : List ℕ) (b : ℕ) → line ≡ front ++ b ∷ [] → (b == 13) ≡ false → line ≡ without_cr line
no_cr_last line front b e h = e ∙ sym (ap without_cr e ∙ without_cr-last front b ∙ ap (λ t. if t then front else front ++ b ∷ []) h)

pub other_number : (m n : ℕ) → (m ≡ n → ⊥) → (m == n) ≡ false
other_number m n h = by (m == n) refl
  where
    by : (t : Bool) → (m == n) ≡ t → (m == n) ≡ false
    by true e = absurd (h (grind (arith, nat_tests)))
    by false e = e

pub none_left : (bytes : List ℕ) → length bytes ≡ 0 → bytes ≡ []
none_left [] e = refl
none_left (b ∷ bytes) e = absurd (omega arith)

-- ---- lines of text that comes in pieces

split_as : (s : List ℕ × List ℕ) (line rest : List ℕ) → arriving.ended_by s ≡ Some (line, rest) → (m : ℕ) × (s.1 ≡ m ∷ rest) × (without_cr s.0 ≡ line)
split_as (front, []) line rest e = absurd (let bad : None ≡ Some (line, rest) = e in cc)
split_as (front, m ∷ behind) line rest e =
    let same : ◌≡◌ {A = List ℕ × List ℕ} (without_cr front, behind) (line, rest) = cc in
    (m, ap (λ p. m ∷ p.1) same, ap (λ p. p.0) same)

-- a line that has its end is the first line, whatever comes behind the bytes
pub stays : (bytes line rest more : List ℕ) → arriving.ended_line bytes ≡ Some (line, rest) → lines_of (bytes ++ more) ≡ line ∷ lines_of (rest ++ more)
stays bytes line rest more e =
    let s = split_as (split_before is_lf bytes) line rest e in
    let front = (split_before is_lf bytes).0 in
    let m = s.0 in
    let whole : bytes ≡ front ++ m ∷ rest = sym (parts_joined is_lf bytes) ∙ ap (λ r. front ++ r) s.1 in
    let joined : bytes ++ more ≡ (front ++ m ∷ []) ++ (rest ++ more) =
    ap (λ b. b ++ more) whole ∙ append_assoc front (m ∷ rest) more ∙ sym (append_assoc front (m ∷ []) (rest ++ more)) in
    let again : split_before is_lf ((front ++ m ∷ []) ++ (rest ++ more)) ≡ (front, m ∷ (rest ++ more)) = parted_again bytes m rest (rest ++ more) s.1 in
    ap lines_of joined
    ∙ ended_line ((front ++ m ∷ []) ++ (rest ++ more)) m (rest ++ more) (ap (λ p. p.1) again)
    ∙ ap (λ p. without_cr p.0 ∷ lines_of (rest ++ more)) again ∙ ap (λ l. l ∷ lines_of (rest ++ more)) s.2
