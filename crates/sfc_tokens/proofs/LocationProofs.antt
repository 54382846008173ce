-- Locations are what their letters and numbers say.
use Rattle.std.proofs.Common.{◌≡◌, ℕ, zero, suc, ◌^◌, ◌<◌, ◌≤◌, Bool, true, false, cond, eqb, List, [], ◌∷◌, ◌++◌, length, Option, Some, None, refl, sym, ap, subst, ◌∙◌, arith}
use Rattle.std.proofs.lemmas.Bool.{eqb-true, ne_eqb}
use Rattle.std.proofs.lemmas.Bool.Decides.{nat_tests}
use Rattle.std.proofs.lemmas.List.{append-nil}
use Rattle.sfc_base.specs.declared.run.Alphabet.TheVariants.{Figures}
use Rattle.sfc_base.specs.declared.location.Area.{Area}
use Rattle.sfc_base.specs.declared.location.Size.{Size}
use Rattle.sfc_base.specs.declared.location.Size.TheVariants.{Bit}
use Rattle.std.specs.Char.{to_ascii_uppercase}
use Rattle.sfc_base.specs.Numbers as numbers
use Rattle.sfc_base.specs.Numbers.{Digits, IsInteger}
use Rattle.sfc_tokens.specs.Lexing.Integers.{◌>>=◌, integer}
use Rattle.sfc_base.specs.Runs.{Ends}
use Rattle.sfc_base.specs.Private.Runs.{run}
use Rattle.sfc_base.specs.Locations as locations
use Rattle.sfc_base.specs.Locations.{LocationData, AreNumbers, area_of, size_of_capital, size_of, Numbers, IsLocation}
use Rattle.sfc_tokens.specs.Lexing.Locations.{number_and_rest, number_at, pointed, numbers as taken_numbers, sized, size_at, location}
use Rattle.sfc_tokens.specs.Lexing.Literals.{limit}
use Rattle.sfc_tokens.proofs.Digits.{bind_some, decimal_sound, decimal_again, figures, decimal_bounds}
use Rattle.sfc_base.proofs.Runs.{run_cuts, run_again}
use Rattle.sfc_tokens.proofs.Parts.{Begins, dot_class}

record NumberSound (w : List ℕ) (x : ℕ × List ℕ) : Type 0 where
  digits : List ℕ
  parts : w ≡ digits ++ x.1
  integer : IsInteger 10 digits x.0
  fits : x.0 < 2 ^ 32

number_sound : (w : List ℕ) (x : ℕ × List ℕ) → number_at w ≡ Some x → NumberSound w x
number_sound w x e =
    let s = bind_some (integer 10 limit (run Figures w).0) (λ n. Some (n, (run Figures w).1)) x e in
    let d = decimal_sound (run Figures w).0 s.0 s.1 in
    let c = run_cuts Figures w in
    let same : (s.0, (run Figures w).1) ≡ x = cc in
    subst (λ y. NumberSound w y) same (record { digits = (run Figures w).0; parts = c.parts; integer = d.integer; fits = d.fits })

record NumbersSound (left : ℕ) (w : List ℕ) (ns : List ℕ) : Type 0 where
  numbers : Numbers w ns
  count : length ns ≤ left

pointed_by : (t : Bool) (left n b : ℕ) (digits rest : List ℕ) (further : List ℕ → Option (List ℕ)) (ns : List ℕ) → eqb b 46 ≡ t → IsInteger 10 digits n → n < 2 ^ 32 → cond t (further rest >>= λ ms. Some (n ∷ ms)) None ≡ Some ns → ((ms : List ℕ) → further rest ≡ Some ms → NumbersSound left rest ms) → NumbersSound (suc left) (digits ++ b ∷ rest) ns
pointed_by true left n b digits rest further ns h i lt e more =
    let s = bind_some (further rest) (λ ms. Some (n ∷ ms)) ns e in
    let m = more s.0 s.1 in
    let same : n ∷ s.0 ≡ ns = cc in
    let dot = eqb-true b 46 h in
    let c = m.count in
    subst (λ j. NumbersSound (suc left) (digits ++ j ∷ rest) ns) (sym dot) (subst (λ ms. NumbersSound (suc left) (digits ++ 46 ∷ rest) ms) same (record { numbers = locations.more i lt m.numbers; count = omega (arith, c) }))
pointed_by false left n b digits rest further ns h i lt e more = absurd cc

pointed_sound : (left n : ℕ) (digits rest : List ℕ) (further : List ℕ → Option (List ℕ)) (ns : List ℕ) → IsInteger 10 digits n → n < 2 ^ 32 → pointed n rest further ≡ Some ns → ((r ms : List ℕ) → further r ≡ Some ms → NumbersSound left r ms) → NumbersSound (suc left) (digits ++ rest) ns
pointed_sound left n digits [] further ns i lt e more =
    let same : n ∷ [] ≡ ns = cc in
    subst (λ ms. NumbersSound (suc left) (digits ++ []) ms) same (subst (λ (y : List ℕ). NumbersSound (suc left) y (n ∷ [])) (sym (append-nil digits)) (record { numbers = locations.last i lt; count = omega arith }))
pointed_sound left n digits (b ∷ rest) further ns i lt e more = pointed_by (eqb b 46) left n b digits rest further ns refl i lt e (λ ms g. more rest ms g)

numbers_sound : (left : ℕ) (w ns : List ℕ) → taken_numbers left w ≡ Some ns → NumbersSound left w ns
unfolding taken_numbers
numbers_sound zero w ns e = absurd cc
numbers_sound (suc left) w ns e =
    let s = bind_some (number_at w) (λ x. pointed x.0 x.1 (taken_numbers left)) ns e in
    let n = number_sound w s.0 s.1 in
    subst (λ (y : List ℕ). NumbersSound (suc left) y ns) (sym n.parts) (pointed_sound left s.0.0 n.digits s.0.1 (taken_numbers left) ns n.integer n.fits s.2 (λ r ms g. numbers_sound left r ms g))

some_numbers : {w ns : List ℕ} → Numbers w ns → 0 < length ns
some_numbers (locations.last i lt) = omega arith
some_numbers (locations.more i lt others) = omega arith

pub counted : (w ns : List ℕ) → taken_numbers 8 w ≡ Some ns → AreNumbers ns
counted w ns e = let s = numbers_sound 8 w ns e in record { some = some_numbers s.numbers; few = s.count }

sized_by : (o : Option Size) (a b : ℕ) (w : List ℕ) (area : Area) (ns : List ℕ) → area_of a ≡ Some area → size_of b ≡ o → taken_numbers 8 (sized o w (b ∷ w)).1 ≡ Some ns → IsLocation (a ∷ b ∷ w) (record { area = area; size = (sized o w (b ∷ w)).0; numbers = ns })
sized_by None a b w area ns e f g = let n = numbers_sound 8 (b ∷ w) ns g in locations.unsized e n.numbers n.count
sized_by (Some s) a b w area ns e f g = let n = numbers_sound 8 w ns g in locations.sized e f n.numbers n.count

located_sound : (a : ℕ) (w : List ℕ) (area : Area) (ns : List ℕ) → area_of a ≡ Some area → taken_numbers 8 (size_at w).1 ≡ Some ns → IsLocation (a ∷ w) (record { area = area; size = (size_at w).0; numbers = ns })
located_sound a [] area ns e g = let n = numbers_sound 8 [] ns g in locations.unsized e n.numbers n.count
located_sound a (b ∷ w) area ns e g = sized_by (size_of b) a b w area ns e refl g

pub location_sound : (w : List ℕ) (l : LocationData) → location w ≡ Some l → IsLocation w l
unfolding location
location_sound [] l e = absurd cc
location_sound (a ∷ w) l e =
    let s = bind_some (area_of a) (λ area. taken_numbers 8 (size_at w).1 >>= λ ns. Some (record { area = area; size = (size_at w).0; numbers = ns })) l e in
    let t = bind_some (taken_numbers 8 (size_at w).1) (λ ns. Some (record { area = s.0; size = (size_at w).0; numbers = ns })) l s.2 in
    let same : (record { area = s.0; size = (size_at w).0; numbers = t.0 }) ≡ l = cc in
    subst (λ x. IsLocation (a ∷ w) x) same (located_sound a w s.0 t.0 s.1 t.1)

-- ---- and what is a location is taken

number_again : (digits rest : List ℕ) (n : ℕ) → IsInteger 10 digits n → n < 2 ^ 32 → Ends Figures rest → number_at (digits ++ rest) ≡ Some (n, rest)
number_again digits rest n i lt ends =
    let r = run_again Figures digits rest (record { all = figures i; longest = ends }) in
    let d = decimal_again digits n i lt in
    ap number_and_rest r ∙ rw d refl

numbers_again : {w ns : List ℕ} → Numbers w ns → (left : ℕ) → length ns ≤ left → taken_numbers left w ≡ Some ns
unfolding taken_numbers
numbers_again (locations.last i lt) zero le = absurd (omega (arith, le))
numbers_again (locations.more i lt others) zero le = absurd (omega (arith, le))
numbers_again (locations.last {w = w} {n = n} i lt) (suc left) le =
    let e : number_at w ≡ Some (n, []) = subst (λ (y : List ℕ). number_at y ≡ Some (n, [])) (append-nil w) (number_again w [] n i lt tt) in
    rw e refl
numbers_again (locations.more {w = w} {rest = rest} {n = n} {ns = ns} i lt others) (suc left) le =
    let e = number_again w (46 ∷ rest) n i lt (rw dot_class refl) in
    let m = numbers_again others left (omega (arith, le)) in
    rw (e, m) refl

-- numbers begin with a digit, which is no size
abbrev IsFigure : ℕ → Type 0
IsFigure b = (48 ≤ b) × (b ≤ 57)

integer_head : {n m : ℕ} {w : List ℕ} → Digits 10 true n w m → Begins IsFigure w
integer_head (numbers.digit {b = b} {d = d} {w = w} e s) = record { head = b; tail = w; is = refl; holds = decimal_bounds b d e }

numbers_head : {w ns : List ℕ} → Numbers w ns → Begins IsFigure w
numbers_head (locations.last i lt) = integer_head i
numbers_head (locations.more {rest = rest} i lt others) = let b = integer_head i in record { head = b.head; tail = b.tail ++ 46 ∷ rest; is = ap (λ (x : List ℕ). x ++ 46 ∷ rest) b.is; holds = b.holds }

upper_figure : (b : ℕ) → 48 ≤ b → b ≤ 57 → to_ascii_uppercase b ≡ b
upper_figure b low high = grind (arith, nat_tests)

no_size : (b : ℕ) → 48 ≤ b → b ≤ 57 → size_of b ≡ None
no_size b low high =
    let u = upper_figure b low high in
    let x = ne_eqb b 88 (λ e. absurd (omega (arith, e, high))) in
    let y = ne_eqb b 66 (λ e. absurd (omega (arith, e, high))) in
    let z = ne_eqb b 87 (λ e. absurd (omega (arith, e, high))) in
    let d = ne_eqb b 68 (λ e. absurd (omega (arith, e, high))) in
    let l = ne_eqb b 76 (λ e. absurd (omega (arith, e, high))) in
    ap size_of_capital u ∙ rw (x, y, z, d, l) refl

unsized_at : (w : List ℕ) → Begins IsFigure w → size_at w ≡ (Bit, w)
unsized_at w b =
    let P : List ℕ → Type 0 = λ x. size_at x ≡ (Bit, x) in
    let h = b.holds in
    let e = no_size b.head h.0 h.1 in
    subst P (sym b.is) (rw e refl)

pub location_again : {w : List ℕ} {l : LocationData} → IsLocation w l → location w ≡ Some l
unfolding location
location_again (locations.sized {a = a} {s = s} {w = w} {area = area} {size = size} {ns = ns} e f n le) = let m = numbers_again n 8 le in rw (e, f, m) refl
location_again (locations.unsized {a = a} {w = w} {area = area} {ns = ns} e n le) =
    let m = numbers_again n 8 le in
    let u = unsized_at w (numbers_head n) in
    rw (e, u, m) refl
