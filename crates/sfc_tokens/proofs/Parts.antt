-- A duration, part by part.
use Rattle.std.proofs.Common.{◌≡◌, ℕ, ◌+◌, ◌*◌, ◌/◌, ◌≤◌, Bool, true, false, cond, eqb, List, [], ◌∷◌, ◌++◌, Some, None, refl, sym, ap, subst, ◌∙◌, arith}
use Rattle.std.proofs.lemmas.Bool.{eqb-true}
use Rattle.std.proofs.lemmas.List.{append-nil}
use Rattle.sfc_base.specs.declared.unit.Unit.{Unit as TimeUnit}
use Rattle.sfc_base.specs.declared.unit.Unit.TheVariants.{Day, Hour, Minute, Second, Millisecond}
use Rattle.sfc_base.specs.declared.class.Class.{Class}
use Rattle.sfc_base.specs.declared.class.Class.TheVariants as class
use Rattle.sfc_base.specs.declared.delimiter.Delimiter.TheVariants as sign
use Rattle.sfc_base.specs.declared.run.Alphabet.TheVariants.{Letters, Figures, Fraction}
use Rattle.sfc_base.specs.Classes.{class_of}
use Rattle.sfc_base.specs.Case.{same_word}
use Rattle.sfc_base.specs.Numbers as numbers
use Rattle.sfc_base.specs.Numbers.{digit_of, Digits, IsInteger}
use Rattle.sfc_tokens.specs.Lexing.Integers.{◌>>=◌, at_most, integer}
use Rattle.sfc_base.specs.Runs.{is_letter, is_figure, is_in, has, AllIn, Ends}
use Rattle.sfc_base.specs.Private.Runs.{run}
use Rattle.sfc_base.specs.Durations as durations
use Rattle.sfc_base.specs.Durations.{micros_of, spelling_of, units, IsUnit, Tenths, IsFraction, Interval, greatest, IsInterval}
use Rattle.sfc_tokens.specs.Lexing.Durations.{fraction, split_unit, split_fraction, split_number, Split, split_part, whole, unspaced, behind, part, is_unit, interval}
use Rattle.sfc_tokens.proofs.Digits.{bind_some, at_most_some, integer_sound, figures, decimal_class, underscore_class}
use Rattle.sfc_base.proofs.Runs.{Cuts, run_cuts, run_again}
use Rattle.sfc_tokens.proofs.Intervals.{fraction_sound}

-- ---- cutting off a part

record SplitSound (w : List ℕ) (s : Split) : Type 0 where
  parts : w ≡ s.0 ++ (s.1 ++ (s.2 ++ s.3))
  letters : AllIn Letters s.2

split_at : (w : List ℕ) (a b c : List ℕ × List ℕ) → Cuts Figures w a → Cuts Fraction a.1 b → Cuts Letters b.1 c → SplitSound w (a.0, b.0, c.0, c.1)
split_at w a b c p q r = record {
  parts = p.parts ∙ ap (λ (x : List ℕ). a.0 ++ x) (q.parts ∙ ap (λ (x : List ℕ). b.0 ++ x) r.parts);
  letters = r.is_run.all;
}

split_sound : (w : List ℕ) → SplitSound w (split_part w)
unfolding split_part
split_sound w =
    let a = run Figures w in
    let b = run Fraction a.1 in
    split_at w a b (run Letters b.1) (run_cuts Figures w) (run_cuts Fraction a.1) (run_cuts Letters b.1)

record Apart (number fraction letters rest : List ℕ) : Type 0 where
  all_figures : AllIn Figures number
  figures_end : Ends Figures (fraction ++ (letters ++ rest))
  all_fraction : AllIn Fraction fraction
  fraction_ends : Ends Fraction (letters ++ rest)
  all_letters : AllIn Letters letters
  letters_end : Ends Letters rest

split_again : (number fraction letters rest : List ℕ) → Apart number fraction letters rest → split_part (number ++ (fraction ++ (letters ++ rest))) ≡ (number, fraction, letters, rest)
unfolding split_part
split_again number fraction letters rest p =
    let a = run_again Figures number (fraction ++ (letters ++ rest)) (record { all = p.all_figures; longest = p.figures_end }) in
    let b = run_again Fraction fraction (letters ++ rest) (record { all = p.all_fraction; longest = p.fraction_ends }) in
    let c = run_again Letters letters rest (record { all = p.all_letters; longest = p.letters_end }) in
    ap split_number a ∙ ap (split_fraction number) b ∙ ap (split_unit number fraction) c

-- ---- what is taken is a duration

record Taken (us : List TimeUnit) (w : List ℕ) (v : ℕ) : Type 0 where
  parts : Interval us w v
  fits : v ≤ greatest

whole_sound : (u : TimeUnit) (w : List ℕ) (m : ℕ) → whole u w ≡ Some m → (n : ℕ) × IsInteger 10 w n × (m ≡ n * micros_of u)
whole_sound u w m e =
    let s = bind_some (integer 10 (greatest / micros_of u) w) (λ n. Some (n * micros_of u)) m e in
    let i = integer_sound 10 (greatest / micros_of u) w s.0 s.1 in
    let same : s.0 * micros_of u ≡ m = cc in
    (s.0, i.digits, sym same)

spaced_by : (t : Bool) (u : TimeUnit) (us : List TimeUnit) (number letters : List ℕ) (b : ℕ) (rest : List ℕ) (n x : ℕ) → eqb b 95 ≡ t → IsInteger 10 number n → IsUnit u letters → Interval us (cond t rest (b ∷ rest)) x → Interval (u ∷ us) (number ++ (letters ++ b ∷ rest)) (n * micros_of u + x)
spaced_by true u us number letters b rest n x h i l others =
    let same = eqb-true b 95 h in
    subst (λ j. Interval (u ∷ us) (number ++ (letters ++ j ∷ rest)) (n * micros_of u + x)) (sym same) (durations.spaced i l others)
spaced_by false u us number letters b rest n x h i l others = durations.more i l others

point_by : (t : Bool) (u : TimeUnit) (us : List TimeUnit) (number letters : List ℕ) (b : ℕ) (f : List ℕ) (n x : ℕ) → eqb b 46 ≡ t → IsInteger 10 number n → IsUnit u letters → cond t (fraction (micros_of u) f) None ≡ Some x → Interval (u ∷ us) (number ++ b ∷ (f ++ letters)) (n * micros_of u + x)
point_by true u us number letters b f n x h i l e =
    let same = eqb-true b 46 h in
    subst (λ j. Interval (u ∷ us) (number ++ j ∷ (f ++ letters)) (n * micros_of u + x)) (sym same) (durations.fixed_point i (fraction_sound (micros_of u) f x e) l)
point_by false u us number letters b f n x h i l e = absurd cc

behind_sound : (u : TimeUnit) (us : List TimeUnit) (number fraction letters rest : List ℕ) (n x : ℕ) → IsInteger 10 number n → IsUnit u letters → behind u fraction rest (interval us) ≡ Some x → ((r : List ℕ) → interval us r ≡ Some x → Interval us r x) → Interval (u ∷ us) (number ++ (fraction ++ (letters ++ rest))) (n * micros_of u + x)
behind_sound u us number [] letters [] n x i l e more =
    let zero_is : 0 ≡ x = cc in
    let sum : n * micros_of u ≡ n * micros_of u + x = omega (arith, zero_is) in
    subst (λ y. Interval (u ∷ us) (number ++ (letters ++ [])) y) sum (subst (λ (y : List ℕ). Interval (u ∷ us) (number ++ y) (n * micros_of u)) (sym (append-nil letters)) (durations.whole i l))
behind_sound u us number [] letters (b ∷ rest) n x i l e more = spaced_by (eqb b 95) u us number letters b rest n x refl i l (more (unspaced (b ∷ rest)) e)
behind_sound u us number (b ∷ f) letters [] n x i l e more =
    subst (λ (y : List ℕ). Interval (u ∷ us) (number ++ b ∷ (f ++ y)) (n * micros_of u + x)) (sym (append-nil letters)) (point_by (eqb b 46) u us number letters b f n x refl i l e)
behind_sound u us number (b ∷ f) letters (c ∷ rest) n x i l e more = absurd cc

part_sound : (u : TimeUnit) (us : List TimeUnit) (w : List ℕ) (s : Split) (v : ℕ) → SplitSound w s → is_unit u s.2 ≡ true → part u s (interval us) ≡ Some v → ((r : List ℕ) (x : ℕ) → interval us r ≡ Some x → Interval us r x) → Taken (u ∷ us) w v
part_sound u us w s v p l e more =
    let a = bind_some (whole u s.0) (λ n. behind u s.1 s.3 (interval us) >>= λ x. at_most greatest (n + x)) v e in
    let b = bind_some (behind u s.1 s.3 (interval us)) (λ x. at_most greatest (a.0 + x)) v a.2 in
    let c = at_most_some greatest (a.0 + b.0) v b.2 in
    let n = whole_sound u s.0 a.0 a.1 in
    let sum : n.0 * micros_of u + b.0 ≡ v = omega (arith, c.0, n.2) in
    let i = behind_sound u us s.0 s.1 s.2 s.3 n.0 b.0 n.1 (record { letters = p.letters; spelled = l }) b.1 (λ r g. more r b.0 g) in
    record { parts = subst (λ (y : List ℕ). Interval (u ∷ us) y v) (sym p.parts) (subst (λ y. Interval (u ∷ us) (s.0 ++ (s.1 ++ (s.2 ++ s.3))) y) sum i); fits = c.1 }

taken_by : (t : Bool) (u : TimeUnit) (us : List TimeUnit) (w : List ℕ) (v : ℕ) → is_unit u (split_part w).2 ≡ t → cond t (part u (split_part w) (interval us)) (interval us w) ≡ Some v → ((r : List ℕ) (x : ℕ) → interval us r ≡ Some x → Taken us r x) → Taken (u ∷ us) w v
taken_by true u us w v l e more = part_sound u us w (split_part w) v (split_sound w) l e (λ r x g. (more r x g).parts)
taken_by false u us w v l e more = let t = more w v e in record { parts = durations.skip t.parts; fits = t.fits }

interval_taken : (us : List TimeUnit) (w : List ℕ) (v : ℕ) → interval us w ≡ Some v → Taken us w v
unfolding interval
interval_taken [] w v e = absurd cc
interval_taken (u ∷ us) w v e = taken_by (is_unit u (split_part w).2) u us w v refl e (λ r x g. interval_taken us r x g)

pub interval_sound : (w : List ℕ) (v : ℕ) → interval units w ≡ Some v → IsInterval w v
interval_sound w v e = let t = interval_taken units w v e in record { parts = t.parts; fits = t.fits }

-- ---- what is a duration is taken

letter_only : (k : Class) → is_letter k ≡ true → (is_in Figures k ≡ false) × (is_in Fraction k ≡ false)
letter_only class.Letter e = (refl, refl)
letter_only _ e = absurd cc

figure_too : (k : Class) → is_figure k ≡ true → is_in Fraction k ≡ true
figure_too class.Digit e = refl
figure_too class.Underscore e = refl
figure_too _ e = absurd cc

all_too : (w : List ℕ) → AllIn Figures w → AllIn Fraction w
all_too [] all = tt
all_too (b ∷ w) all = (figure_too (class_of b) all.0, all_too w all.1)

pub dot_class : class_of 46 ≡ class.Sign sign.Dot
unfolding class_of
dot_class = refl

pub tenths_figures : {unit v : ℕ} {wanted : Bool} {w : List ℕ} → Tenths unit wanted w v → AllIn Figures w
tenths_figures durations.ended = tt
tenths_figures (durations.digit {b = b} {d = d} e t x) = (rw (decimal_class b d e) refl, tenths_figures t)
tenths_figures (durations.underscore t) = (rw underscore_class refl, tenths_figures t)

-- a unit begins with a letter
pub record Begins (P : ℕ → Type 0) (w : List ℕ) : Type 0 where
  pub head : ℕ
  pub tail : List ℕ
  pub is : w ≡ head ∷ tail
  pub holds : P head

nothing_apart : (u : TimeUnit) → same_word [] (spelling_of u) ≡ true → ⊥
unfolding same_word
nothing_apart Day e = absurd cc
nothing_apart Hour e = absurd cc
nothing_apart Minute e = absurd cc
nothing_apart Second e = absurd cc
nothing_apart Millisecond e = absurd cc

unit_begins : (u : TimeUnit) (l : List ℕ) → IsUnit u l → Begins (λ b. has Letters b ≡ true) l
unit_begins u [] i = absurd (nothing_apart u i.spelled)
unit_begins u (b ∷ l) i = let a = i.letters in record { head = b; tail = l; is = refl; holds = a.0 }

unit_ends_figures : (u : TimeUnit) (l rest : List ℕ) → IsUnit u l → Ends Figures (l ++ rest)
unit_ends_figures u l rest i = let b = unit_begins u l i in subst (λ (x : List ℕ). Ends Figures (x ++ rest)) (sym b.is) (letter_only (class_of b.head) b.holds).0

unit_ends_fraction : (u : TimeUnit) (l rest : List ℕ) → IsUnit u l → Ends Fraction (l ++ rest)
unit_ends_fraction u l rest i = let b = unit_begins u l i in subst (λ (x : List ℕ). Ends Fraction (x ++ rest)) (sym b.is) (letter_only (class_of b.head) b.holds).1

pub integer_begins : {n m : ℕ} {w : List ℕ} → Digits 10 true n w m → Begins (λ b. class_of b ≡ class.Digit) w
integer_begins (numbers.digit {b = b} {d = d} {w = w} e s) = record { head = b; tail = w; is = refl; holds = decimal_class b d e }

pub interval_begins : {us : List TimeUnit} {w : List ℕ} {v : ℕ} → Interval us w v → Begins (λ b. class_of b ≡ class.Digit) w
interval_begins (durations.skip i) = interval_begins i
interval_begins (durations.whole {l = l} n u) = let b = integer_begins n in record { head = b.head; tail = b.tail ++ l; is = ap (λ (x : List ℕ). x ++ l) b.is; holds = b.holds }
interval_begins (durations.fixed_point {f = f} {l = l} n t u) = let b = integer_begins n in record { head = b.head; tail = b.tail ++ 46 ∷ (f ++ l); is = ap (λ (x : List ℕ). x ++ 46 ∷ (f ++ l)) b.is; holds = b.holds }
interval_begins (durations.more {l = l} {rest = rest} n u i) = let b = integer_begins n in record { head = b.head; tail = b.tail ++ (l ++ rest); is = ap (λ (x : List ℕ). x ++ (l ++ rest)) b.is; holds = b.holds }
interval_begins (durations.spaced {l = l} {rest = rest} n u i) = let b = integer_begins n in record { head = b.head; tail = b.tail ++ (l ++ 95 ∷ rest); is = ap (λ (x : List ℕ). x ++ (l ++ 95 ∷ rest)) b.is; holds = b.holds }

pub interval_ends_letters : {us : List TimeUnit} {w : List ℕ} {v : ℕ} → Interval us w v → Ends Letters w
interval_ends_letters {w = w} i = let b = interval_begins i in subst (λ (x : List ℕ). Ends Letters x) (sym b.is) (rw b.holds refl)

-- where the text of a part is cut
pub split_plain : (number : List ℕ) (n : ℕ) (u : TimeUnit) (l rest : List ℕ) → IsInteger 10 number n → IsUnit u l → Ends Letters rest → split_part (number ++ (l ++ rest)) ≡ (number, [], l, rest)
split_plain number n u l rest i unit ends = split_again number [] l rest (record { all_figures = figures i; figures_end = unit_ends_figures u l rest unit; all_fraction = tt; fraction_ends = unit_ends_fraction u l rest unit; all_letters = unit.letters; letters_end = ends })

pub split_whole : (number : List ℕ) (n : ℕ) (u : TimeUnit) (l : List ℕ) → IsInteger 10 number n → IsUnit u l → split_part (number ++ l) ≡ (number, [], l, [])
split_whole number n u l i unit = subst (λ (y : List ℕ). split_part (number ++ y) ≡ (number, [], l, [])) (append-nil l) (split_plain number n u l [] i unit tt)

pub split_point : (number : List ℕ) (n : ℕ) (unit v : ℕ) (u : TimeUnit) (f l : List ℕ) → IsInteger 10 number n → IsFraction unit f v → IsUnit u l → split_part (number ++ 46 ∷ (f ++ l)) ≡ (number, 46 ∷ f, l, [])
split_point number n unit v u f l i t is =
    subst (λ (y : List ℕ). split_part (number ++ 46 ∷ (f ++ y)) ≡ (number, 46 ∷ f, l, [])) (append-nil l)
    (split_again number (46 ∷ f) l [] (record { all_figures = figures i; figures_end = rw dot_class refl; all_fraction = (rw dot_class refl, all_too f (tenths_figures t)); fraction_ends = unit_ends_fraction u l [] is; all_letters = is.letters; letters_end = tt }))
