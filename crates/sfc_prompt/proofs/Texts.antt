-- The text of a line is one line: it has no LF, and no CR at its end.
use Rattle.std.proofs.Common.{◌≡◌, ◌∙◌, refl, sym, ap, subst, ℕ, ℤ, ◌==◌, Bool, true, false, not, ◌&&◌, ◌||◌, List, [], ◌∷◌, ◌++◌, Option, Some, None}
use Rattle.std.specs.List.{AllByRecursion}
use Rattle.std.specs.Prelude.{codes, if◌then◌else◌, reverse}
use Rattle.sfc_base.specs.Case.{same_word}
use Rattle.std.proofs.lemmas.List.{reverse-append}
use Rattle.sfc_tokens.specs.Lexing.DurationWords.{duration_value}
use Rattle.sfc_asking.specs.sfc_script.Arriving.{is_lf}
use Rattle.sfc_asking.specs.sfc_script.Commands.{begins_comment}
use Rattle.sfc_asking.specs.sfc_script.Lines.{first_word, is_blank, is_one_line, split_before}
use Rattle.sfc_asking.proofs.of_sfc_script.PlainInstants.{ArePlain}
use Rattle.sfc_prompt.specs.declared.line.Word.{Word}
use Rattle.sfc_prompt.specs.Lines.{Said, Nothing, Remark, Says, Asks, first_of_all, line_said, own_word, said_behind, said_by, said_of_all, said_otherwise}
use Rattle.sfc_prompt.specs.Words.{before_lf, from_end, from_word, is_ending, trimmed}

abbrev pub NoLf : List ℕ → Type 0
NoLf text = AllByRecursion (λ b. (b == 10) ≡ false) text

-- ---- parts of a text

nolf-append : (v w : List ℕ) → NoLf v → NoLf w → NoLf (v ++ w)
nolf-append [] w h g = g
nolf-append (b ∷ v) w h g = (h.0, nolf-append v w h.1 g)

nolf-reverse : (text : List ℕ) → NoLf text → NoLf (reverse text)
nolf-reverse [] h = tt
nolf-reverse (b ∷ text) h =
    subst NoLf (sym (reverse-append (b ∷ []) text)) (nolf-append (reverse text) (b ∷ []) (nolf-reverse text h.1) (h.0, tt))

-- what stands before the first LF
nolf_before : (text : List ℕ) → NoLf (before_lf text)
unfolding split_before
nolf_before [] = tt
nolf_before (b ∷ text) = by (b == 10) refl (nolf_before text)
  where
    by : (t : Bool) → (b == 10) ≡ t → NoLf (before_lf text)
        → NoLf (if◌then◌else◌ {A = List ℕ × List ℕ} t ([], b ∷ text) (b ∷ (split_before is_lf text).0, (split_before is_lf text).1)).0
    by true e rest = tt
    by false e rest = (e, rest)

-- what stands from the mark on
nolf_behind : (p : ℕ → Bool) (text : List ℕ) → NoLf text → NoLf (split_before p text).1
unfolding split_before
nolf_behind p [] h = tt
nolf_behind p (b ∷ text) h = by (p b) (nolf_behind p text h.1)
  where
    by : (t : Bool) → NoLf (split_before p text).1
        → NoLf (if◌then◌else◌ {A = List ℕ × List ℕ} t ([], b ∷ text) (b ∷ (split_before p text).0, (split_before p text).1)).1
    by true rest = h
    by false rest = rest

nolf_from_word : (text : List ℕ) → NoLf text → NoLf (from_word text)
nolf_from_word [] h = tt
nolf_from_word (b ∷ text) h = by (is_blank b) (nolf_from_word text h.1)
  where
    by : (t : Bool) → NoLf (from_word text) → NoLf (if t then from_word text else b ∷ text)
    by true rest = rest
    by false rest = h

first_nolf : (text : List ℕ) (w : List ℕ × List ℕ) → first_word text ≡ Some w → NoLf text → NoLf w.1
first_nolf [] w e h = absurd cc
first_nolf (b ∷ text) w e h = by (is_blank b) e (λ f. first_nolf text w f h.1)
  where
    by : (t : Bool) → (if t then first_word text else Some (split_before is_blank (b ∷ text))) ≡ Some w
        → (first_word text ≡ Some w → NoLf w.1) → NoLf w.1
    by true f rest = rest f
    by false f rest =
        let same : split_before is_blank (b ∷ text) ≡ w = cc in
        subst (λ (s : List ℕ × List ℕ). NoLf s.1) same (nolf_behind is_blank (b ∷ text) h)

-- ---- one line

pub one_more : (b : ℕ) (rest : List ℕ) → (b == 10) ≡ false → (b == 13) ≡ false → is_one_line rest ≡ true → is_one_line (b ∷ rest) ≡ true
one_more b [] lf cr one = ap (λ t. not t && not (b == 13)) lf ∙ ap not cr
one_more b (c ∷ rest) lf cr one = ap (λ t. not t && is_one_line (c ∷ rest)) lf ∙ one

pub plain_front : (word rest : List ℕ) → ArePlain word → is_one_line rest ≡ true → is_one_line (word ++ rest) ≡ true
plain_front [] rest plain one = one
plain_front (b ∷ word) rest plain one = one_more b (word ++ rest) plain.0.lf plain.0.cr (plain_front word rest plain.1 one)

one_last : (front : List ℕ) (b : ℕ) → NoLf front → (b == 10) ≡ false → (b == 13) ≡ false → is_one_line (front ++ b ∷ []) ≡ true
one_last [] b h lf cr = one_more b [] lf cr refl
one_last (c ∷ []) b h lf cr = ap (λ t. not t && is_one_line (b ∷ [])) h.0 ∙ one_last [] b tt lf cr
one_last (c ∷ d ∷ front) b h lf cr = ap (λ t. not t && is_one_line (d ∷ front ++ b ∷ [])) h.0 ∙ one_last (d ∷ front) b h.1 lf cr

either : (s t : Bool) → s || t ≡ false → t ≡ false
either false t e = e
either true t e = absurd cc

-- a text in reverse that doesn't begin with what ends no text
one_reversed : (text : List ℕ) → NoLf text → is_one_line (reverse (from_end text)) ≡ true
one_reversed [] h = refl
one_reversed (b ∷ text) h = by (is_ending b) refl (one_reversed text h.1)
  where
    by : (t : Bool) → is_ending b ≡ t → is_one_line (reverse (from_end text)) ≡ true
        → is_one_line (reverse (if t then from_end text else b ∷ text)) ≡ true
    by true e rest = rest
    by false e rest =
        ap is_one_line (reverse-append (b ∷ []) text)
        ∙ one_last (reverse text) b (nolf-reverse text h.1) h.0 (either (is_blank b) (b == 13) e)

one_trimmed : (text : List ℕ) → NoLf text → is_one_line (trimmed text) ≡ true
one_trimmed text h = one_reversed (reverse (from_word text)) (nolf-reverse (from_word text) (nolf_from_word text h))

nolf_from_end : (text : List ℕ) → NoLf text → NoLf (from_end text)
nolf_from_end [] h = tt
nolf_from_end (b ∷ text) h = by (is_ending b) (nolf_from_end text h.1)
  where
    by : (t : Bool) → NoLf (from_end text) → NoLf (if t then from_end text else b ∷ text)
    by true rest = rest
    by false rest = h

nolf_trimmed : (text : List ℕ) → NoLf text → NoLf (trimmed text)
nolf_trimmed text h =
    let front = nolf-reverse (from_word text) (nolf_from_word text h) in
    nolf-reverse (from_end (reverse (from_word text))) (nolf_from_end (reverse (from_word text)) front)

-- ---- what a line says

-- where it says a command, its text is one line
abbrev pub HasLine : Said → Type 0
HasLine (Says instant text) = is_one_line text ≡ true
HasLine (Asks word text) = Unit {0}
HasLine Remark = Unit {0}
HasLine Nothing = Unit {0}

line_of_all : (text : List ℕ) (o : Option (Word × List ℕ)) → is_one_line text ≡ true → HasLine (said_of_all text o)
line_of_all text None one = one
line_of_all text (Some w) one = tt

line_otherwise : (text first rest : List ℕ) → is_one_line text ≡ true → HasLine (said_otherwise text first rest)
line_otherwise text first rest one = by (same_word first (codes "ALL"))
  where
    by : (t : Bool) → HasLine (if t then said_of_all text (first_of_all rest) else Says None text)
    by true = line_of_all text (first_of_all rest) one
    by false = one

line_by : (text first rest : List ℕ) (instant : Option ℤ) (word : Option Word) → is_one_line text ≡ true → NoLf rest
    → HasLine (said_by text first rest instant word)
line_by text first rest (Some instant) word one none = one_trimmed rest none
line_by text first rest None (Some word) one none = tt
line_by text first rest None None one none = line_otherwise text first rest one

line_behind : (text : List ℕ) (o : Option (List ℕ × List ℕ)) → first_word text ≡ o → is_one_line text ≡ true → NoLf text
    → HasLine (said_behind text o)
line_behind text None e one none = tt
line_behind text (Some w) e one none = by (begins_comment w.0)
  where
    by : (t : Bool) → HasLine (if t then Remark else said_by text w.0 w.1 (duration_value w.0) (own_word w.0))
    by true = tt
    by false = line_by text w.0 w.1 (duration_value w.0) (own_word w.0) one (first_nolf text w e none)

pub has_line : (line : List ℕ) → HasLine (line_said line)
has_line line =
    let none = nolf_before line in
    let text : List ℕ = trimmed (before_lf line) in
    line_behind text (first_word text) refl (one_trimmed (before_lf line) none) (nolf_trimmed (before_lf line) none)
