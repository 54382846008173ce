-- A word that is one duration.
use Rattle.std.proofs.Common.{◌≡◌, ℕ, ℤ, ◌≤◌, Bool, true, false, cond, eqb, ◌==◌, ◌&&◌, ◌||◌, List, [], ◌∷◌, ◌++◌, Option, Some, None, MatchOption, Ok, refl, sym, ap, subst, ◌∙◌, arith, codes, append_assoc}
use Rattle.std.proofs.lemmas.Bool.{eqb-true, ne_eqb}
use Rattle.std.proofs.lemmas.Bool.Decides.{nat_tests}
use Rattle.std.proofs.lemmas.List.{append-nil}
use Rattle.sfc_base.specs.declared.class.Class.TheVariants as class
use Rattle.sfc_base.specs.declared.run.Alphabet.TheVariants as alphabet
use Rattle.sfc_tokens.specs.declared.literal.LiteralKind.{LiteralKind}
use Rattle.sfc_tokens.specs.declared.literal.LiteralKind.TheVariants as kind
use Rattle.sfc_tokens.specs.declared.token.TokenKind.TheVariants as token
use Rattle.sfc_base.specs.Classes.{between, class_of}
use Rattle.std.specs.Char.{to_ascii_uppercase}
use Rattle.sfc_base.specs.Case.{same_word}
use Rattle.sfc_base.specs.Runs.{is_in, has, AllIn, Ends, IsRun}
use Rattle.sfc_base.specs.Private.Runs.{run}
use Rattle.sfc_base.specs.Durations as durations
use Rattle.sfc_base.specs.Durations.{units, IsUnit, Interval, IsInterval}
use Rattle.sfc_tokens.specs.Lexing.Durations.{interval}
use Rattle.sfc_tokens.specs.Literals as literals
use Rattle.sfc_tokens.specs.Literals.{kind_of_prefix, signed, IsLiteral}
use Rattle.std.specs.Option.{option_map}
use Rattle.sfc_tokens.specs.Lexing.DurationWords.{parts_value, signed_value, value_behind, value_after, duration_value}
use Rattle.sfc_tokens.specs.Lexemes as lexemes
use Rattle.sfc_base.specs.Names.{StartsWord}
use Rattle.sfc_tokens.specs.Lexemes.{Prefix, minus, is_minus, Body, Piece, Lexes, IsDuration}
use Rattle.sfc_tokens.proofs.Digits.{figures, sharp_class, underscore_class}
use Rattle.sfc_base.proofs.Runs.{run_cuts, run_again, wider}
use Rattle.sfc_tokens.proofs.Parts.{Begins, interval_sound, interval_begins, tenths_figures, dot_class}
use Rattle.sfc_tokens.proofs.WholeIntervals.{duration_again}

-- ---- a prefix is letters

small_or_capital : (b c : ℕ) → to_ascii_uppercase b ≡ c → 65 ≤ c → c ≤ 90 → (between 65 90 b || between 97 122 b) ≡ true
small_or_capital b c e low high = grind (arith, nat_tests)

spaced : (b : ℕ) → (between 65 90 b || between 97 122 b) ≡ true → (b == 32 || b == 9 || b == 13 || b == 10) ≡ false
spaced b e = grind (arith, nat_tests)

letter_at : (b : ℕ) → (between 65 90 b || between 97 122 b) ≡ true → class_of b ≡ class.Letter
unfolding class_of
letter_at b e = rw (spaced b e, e) refl

letter_of : (b c : ℕ) → to_ascii_uppercase b ≡ c → 65 ≤ c → c ≤ 90 → class_of b ≡ class.Letter
letter_of b c e low high = letter_at b (small_or_capital b c e low high)

letter_in : (b : ℕ) → class_of b ≡ class.Letter → (has alphabet.Word b ≡ true) × (has alphabet.Interval b ≡ true)
letter_in b e = (rw e refl, rw e refl)

abbrev AreCapital : List ℕ → Type 0
AreCapital [] = Unit {0}
AreCapital (c ∷ w) = (65 ≤ c) × (c ≤ 90) × AreCapital w

head_same : (t : Bool) (b c : ℕ) (w v : List ℕ) → eqb (to_ascii_uppercase b) (to_ascii_uppercase c) ≡ t → t && same_word w v ≡ true → (to_ascii_uppercase b ≡ to_ascii_uppercase c) × (same_word w v ≡ true)
head_same true b c w v h e = (eqb-true (to_ascii_uppercase b) (to_ascii_uppercase c) h, e)
head_same false b c w v h e = absurd cc

capital_upper : (c : ℕ) → 65 ≤ c → c ≤ 90 → to_ascii_uppercase c ≡ c
capital_upper c low high = grind (arith, nat_tests)

spelled_letters : (w v : List ℕ) → same_word w v ≡ true → AreCapital v → AllIn alphabet.Word w
unfolding same_word
spelled_letters [] v e cs = tt
spelled_letters (b ∷ w) [] e cs = absurd cc
spelled_letters (b ∷ w) (c ∷ v) e cs =
    let h = head_same (eqb (to_ascii_uppercase b) (to_ascii_uppercase c)) b c w v refl e in
    let k = letter_of b c (h.0 ∙ capital_upper c cs.0 cs.1) cs.0 cs.1 in
    ((letter_in b k).0, spelled_letters w v h.1 cs.2)

spelled_starts : (w : List ℕ) (c : ℕ) (v : List ℕ) → same_word w (c ∷ v) ≡ true → 65 ≤ c → c ≤ 90 → Begins (λ b. StartsWord (class_of b)) w
unfolding same_word
spelled_starts [] c v e low high = absurd cc
spelled_starts (b ∷ w) c v e low high =
    let h = head_same (eqb (to_ascii_uppercase b) (to_ascii_uppercase c)) b c w v refl e in
    let k = letter_of b c (h.0 ∙ capital_upper c low high) low high in
    record { head = b; tail = w; is = refl; holds = rw k refl }

-- the prefix of a duration
record PrefixSound (front : List ℕ) : Type 0 where
  all : AllIn alphabet.Word front
  starts : Begins (λ b. StartsWord (class_of b)) front

spelled_t : (front : List ℕ) → same_word front (codes "T") ≡ true → PrefixSound front
spelled_t front e = record { all = spelled_letters front (codes "T") e (omega arith, omega arith, tt); starts = spelled_starts front 84 [] e (omega arith) (omega arith) }

spelled_time : (front : List ℕ) → same_word front (codes "TIME") ≡ true → PrefixSound front
spelled_time front e = record { all = spelled_letters front (codes "TIME") e (omega arith, omega arith, (omega arith, omega arith, (omega arith, omega arith, (omega arith, omega arith, tt)))); starts = spelled_starts front 84 (codes "IME") e (omega arith) (omega arith) }

either_by : (t u : Bool) (front : List ℕ) → same_word front (codes "T") ≡ t → same_word front (codes "TIME") ≡ u → t || u ≡ true → PrefixSound front
either_by true u front e f h = spelled_t front e
either_by false true front e f h = spelled_time front f
either_by false false front e f h = absurd cc

kind_by : (t i d b : Bool) (front : List ℕ) → (same_word front (codes "T") || same_word front (codes "TIME")) ≡ t → cond t (Some kind.Duration) (cond i (Some kind.Int) (cond d (Some kind.Dint) (cond b (Some kind.Truth) None))) ≡ Some kind.Duration → PrefixSound front
kind_by true i d b front h e = either_by (same_word front (codes "T")) (same_word front (codes "TIME")) front refl refl h
kind_by false true d b front h e = absurd cc
kind_by false false true b front h e = absurd cc
kind_by false false false true front h e = absurd cc
kind_by false false false false front h e = absurd cc

prefix_sound : (front : List ℕ) → kind_of_prefix front ≡ Some kind.Duration → PrefixSound front
unfolding kind_of_prefix
prefix_sound front e = kind_by (same_word front (codes "T") || same_word front (codes "TIME")) (same_word front (codes "INT")) (same_word front (codes "DINT")) (same_word front (codes "BOOL")) front refl e

prefix_run : (front rest : List ℕ) → kind_of_prefix front ≡ Some kind.Duration → IsRun alphabet.Word front (35 ∷ rest)
prefix_run front rest e = record { all = (prefix_sound front e).all; longest = rw sharp_class refl }

-- ---- its value

minus_digit : class_of 45 ≡ class.Digit → ⊥
unfolding class_of
minus_digit e = cc

pub no_minus : (b : ℕ) → class_of b ≡ class.Digit → eqb b 45 ≡ false
no_minus b e = ne_eqb b 45 (λ h. let f : class_of 45 ≡ class.Digit = subst (λ j. class_of j ≡ class.Digit) h e in minus_digit f)

behind_again : (negative : Bool) (w : List ℕ) (v : ℕ) → IsInterval w v → signed_value (minus negative ++ w) ≡ Some (signed negative v)
behind_again true w v i = let e = duration_again w v i in rw e refl
behind_again false w v i =
    let e : parts_value false w ≡ Some (signed false v) = let f = duration_again w v i in rw f refl in
    let b = interval_begins i.parts in
    let P : List ℕ → Type 0 = λ x. signed_value x ≡ Some (signed false v) in
    let g : parts_value false (b.head ∷ b.tail) ≡ Some (signed false v) = subst (λ (x : List ℕ). parts_value false x ≡ Some (signed false v)) b.is e in
    let n = no_minus b.head b.holds in
    subst P (sym b.is) (rw n g)

pub word_again : {w : List ℕ} {z : ℤ} → IsDuration w z → duration_value w ≡ Some z
unfolding duration_value
word_again (lexemes.duration front negative w v e i) =
    let r = run_again alphabet.Word front (35 ∷ (minus negative ++ w)) (prefix_run front (minus negative ++ w) e) in
    let b = behind_again negative w v i in
    ap (λ (x : List ℕ × List ℕ). value_after x.0 x.1) r ∙ rw e b

map_some : (o : Option ℕ) (f : ℕ → ℤ) (z : ℤ) → option_map f o ≡ Some z → (n : ℕ) × (o ≡ Some n) × (f n ≡ z)
map_some None f z e = absurd cc
map_some (Some n) f z e = (n, refl, cc)

signed_sound : (front : List ℕ) (negative : Bool) (w : List ℕ) (z : ℤ) → kind_of_prefix front ≡ Some kind.Duration → parts_value negative w ≡ Some z → IsDuration (front ++ 35 ∷ (minus negative ++ w)) z
signed_sound front negative w z e f =
    let s = map_some (interval units w) (signed negative) z f in
    let same : signed negative s.0 ≡ z = s.2 in
    subst (λ y. IsDuration (front ++ 35 ∷ (minus negative ++ w)) y) same (lexemes.duration front negative w s.0 e (interval_sound w s.0 s.1))

behind_by : (t : Bool) (front : List ℕ) (b : ℕ) (w : List ℕ) (z : ℤ) → eqb b 45 ≡ t → kind_of_prefix front ≡ Some kind.Duration → cond t (parts_value true w) (parts_value false (b ∷ w)) ≡ Some z → IsDuration (front ++ 35 ∷ b ∷ w) z
behind_by true front b w z h e f = let same = eqb-true b 45 h in subst (λ j. IsDuration (front ++ 35 ∷ j ∷ w) z) (sym same) (signed_sound front true w z e f)
behind_by false front b w z h e f = signed_sound front false (b ∷ w) z e f

behind_sound : (front w : List ℕ) (z : ℤ) → kind_of_prefix front ≡ Some kind.Duration → signed_value w ≡ Some z → IsDuration (front ++ 35 ∷ w) z
behind_sound front [] z e f = signed_sound front false [] z e f
behind_sound front (b ∷ w) z e f = behind_by (eqb b 45) front b w z refl e f

kind_sound : (o : Option LiteralKind) (front w : List ℕ) (z : ℤ) → kind_of_prefix front ≡ o → value_behind o w ≡ Some z → IsDuration (front ++ 35 ∷ w) z
kind_sound None front w z e f = absurd cc
kind_sound (Some kind.Duration) front w z e f = behind_sound front w z e f
kind_sound (Some _) front w z e f = absurd cc

sharp_by : (t : Bool) (front : List ℕ) (b : ℕ) (w : List ℕ) (z : ℤ) → eqb b 35 ≡ t → cond t (value_behind (kind_of_prefix front) w) None ≡ Some z → IsDuration (front ++ b ∷ w) z
sharp_by true front b w z h f = let same = eqb-true b 35 h in subst (λ j. IsDuration (front ++ j ∷ w) z) (sym same) (kind_sound (kind_of_prefix front) front w z refl f)
sharp_by false front b w z h f = absurd cc

at_sound : (front rest : List ℕ) (z : ℤ) → value_after front rest ≡ Some z → IsDuration (front ++ rest) z
at_sound front [] z f = absurd cc
at_sound front (b ∷ w) z f = sharp_by (eqb b 35) front b w z refl f

pub word_sound : (w : List ℕ) (z : ℤ) → duration_value w ≡ Some z → IsDuration w z
unfolding duration_value
word_sound w z f =
    let c = run_cuts alphabet.Word w in
    subst (λ (x : List ℕ). IsDuration x z) (sym c.parts) (at_sound (run alphabet.Word w).0 (run alphabet.Word w).1 z f)

pub answer : (w : List ℕ) (o : Option ℤ) → o ≡ duration_value w → MatchOption o ((z : ℤ) → IsDuration w z → ⊥) (λ z. IsDuration w z)
answer w None e = λ z i. let f = word_again i in cc
answer w (Some z) e = word_sound w z (sym e)

-- ---- it is lexed as one token

pub append_in : (a : _) (w v : List ℕ) → AllIn a w → AllIn a v → AllIn a (w ++ v)
append_in a [] v h g = g
append_in a (b ∷ w) v h g = (h.0, append_in a w v h.1 g)

figure_by : (k : _) → is_in alphabet.Figures k ≡ true → is_in alphabet.Interval k ≡ true
figure_by class.Digit e = refl
figure_by class.Underscore e = refl
figure_by _ e = absurd cc

letter_by : (k : _) → is_in alphabet.Letters k ≡ true → is_in alphabet.Interval k ≡ true
letter_by class.Letter e = refl
letter_by _ e = absurd cc

figures_in : (w : List ℕ) → AllIn alphabet.Figures w → AllIn alphabet.Interval w
figures_in = wider alphabet.Figures alphabet.Interval figure_by

letters_in : (w : List ℕ) → AllIn alphabet.Letters w → AllIn alphabet.Interval w
letters_in = wider alphabet.Letters alphabet.Interval letter_by

all_in : {us : List _} {w : List ℕ} {v : ℕ} → Interval us w v → AllIn alphabet.Interval w
all_in (durations.skip i) = all_in i
all_in (durations.whole {w = w} {l = l} n u) = append_in alphabet.Interval w l (figures_in w (figures n)) (letters_in l u.letters)
all_in (durations.fixed_point {w = w} {f = f} {l = l} n t u) = append_in alphabet.Interval w (46 ∷ (f ++ l)) (figures_in w (figures n)) (rw dot_class refl, append_in alphabet.Interval f l (figures_in f (tenths_figures t)) (letters_in l u.letters))
all_in (durations.more {w = w} {l = l} {rest = rest} n u i) = append_in alphabet.Interval w (l ++ rest) (figures_in w (figures n)) (append_in alphabet.Interval l rest (letters_in l u.letters) (all_in i))
all_in (durations.spaced {w = w} {l = l} {rest = rest} n u i) = append_in alphabet.Interval w (l ++ 95 ∷ rest) (figures_in w (figures n)) (append_in alphabet.Interval l (95 ∷ rest) (letters_in l u.letters) (rw underscore_class refl, all_in i))

no_sign : (w : List ℕ) (v : ℕ) (rest : List ℕ) → IsInterval w v → is_minus (w ++ rest) ≡ false
no_sign w v rest i = let b = interval_begins i.parts in subst (λ (x : List ℕ). is_minus (x ++ rest) ≡ false) (sym b.is) (no_minus b.head b.holds)

duration_piece : (front : List ℕ) (negative : Bool) (w : List ℕ) (v : ℕ) (rest : List ℕ) → kind_of_prefix front ≡ Some kind.Duration → IsInterval w v → Ends alphabet.Interval rest → Piece (front ++ 35 ∷ (minus negative ++ w)) rest (Some (token.Duration (signed negative v)))
duration_piece front negative w v rest e i ends =
    let p = prefix_sound front e in
    let b = p.starts in
    let body : Body kind.Duration negative w rest = record { run = record { all = all_in i.parts; longest = ends }; sign = λ n. no_sign w v rest i } in
    let f : kind_of_prefix (b.head ∷ b.tail) ≡ Some kind.Duration = subst (λ (x : List ℕ). kind_of_prefix x ≡ Some kind.Duration) b.is e in
    let r : IsRun alphabet.Word (b.head ∷ b.tail) (35 ∷ (minus negative ++ (w ++ rest))) = subst (λ (x : List ℕ). IsRun alphabet.Word x (35 ∷ (minus negative ++ (w ++ rest)))) b.is (prefix_run front (minus negative ++ (w ++ rest)) e) in
    let one : Piece ((b.head ∷ (b.tail ++ 35 ∷ [])) ++ (minus negative ++ w)) rest (Some (token.Duration (signed negative v))) = lexemes.literal negative w (lexemes.word b.holds r f) body (literals.duration i) in
    let text : (b.head ∷ (b.tail ++ 35 ∷ [])) ++ (minus negative ++ w) ≡ front ++ 35 ∷ (minus negative ++ w) = ap (λ (x : List ℕ). b.head ∷ x) (append_assoc b.tail (35 ∷ []) (minus negative ++ w)) ∙ ap (λ (x : List ℕ). x ++ 35 ∷ (minus negative ++ w)) (sym b.is) in
    subst (λ (x : List ℕ). Piece x rest (Some (token.Duration (signed negative v)))) text one

pub duration_before : (w : List ℕ) (z : ℤ) (rest : List ℕ) → IsDuration w z → Ends alphabet.Interval rest → Piece w rest (Some (token.Duration z))
duration_before w z rest (lexemes.duration front negative u v e i) ends = duration_piece front negative u v rest e i ends

one_token : (w : List ℕ) (t : _) → Piece w [] (Some t) → Lexes w (Ok (t ∷ []))
one_token w t p = subst (λ (x : List ℕ). Lexes x (Ok (t ∷ []))) (append-nil w) (lexemes.one p lexemes.ended)

pub duration_lexes : (w : List ℕ) (z : ℤ) → IsDuration w z → Lexes w (Ok (token.Duration z ∷ []))
duration_lexes w z d = one_token w (token.Duration z) (duration_before w z [] d tt)
