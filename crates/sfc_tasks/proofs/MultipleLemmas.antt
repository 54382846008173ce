-- Which multiples of an interval are counted.
use Rattle.std.proofs.Common.{◌≡◌, ◌↔◌, ℕ, zero, suc, ◌+◌, ◌*◌, ◌/◌, ◌<◌, ◌≤◌, ◌^◌, arith, refl, sym, ◌∙◌, ℤ, pos, negsuc, ◌≤ℤ◌, ◌<ℤ◌, Some, None}
use Rattle.std.proofs.Math.Nat.{mul-le-mul_left}
use Rattle.std.proofs.lemmas.Int.{ints}
use Rattle.std.proofs.lemmas.Bool.Decides.{nat_tests}
use Rattle.sfc_tasks.specs.Multiples.{multiple, multiples_to, next_multiple, instant_at}
use Rattle.sfc_tasks.specs.Meaning.{IsNext}

-- the quotient says which multiples there are
pub up_to : (t m i : ℕ) → m * suc i ≤ t → m < t / suc i + 1
up_to t m i le = grind (arith, mul-le-mul_left)

pub up_to_back : (t m i : ℕ) → m < t / suc i + 1 → m * suc i ≤ t
up_to_back t m i lt = grind (arith, mul-le-mul_left)

after_all : (t m i : ℕ) → t < m * suc i → t / suc i + 1 ≤ m
after_all t m i lt = grind (arith, up_to_back)

after_all_back : (t m i : ℕ) → t / suc i + 1 ≤ m → t < m * suc i
after_all_back t m i le = grind (arith, up_to)

pub count_is : (i t : ℕ) → multiples_to (pos (suc i)) (pos t) ≡ t / suc i + 1
count_is i t = grind (arith, nat_tests)

pub none_before : (i t : ℕ) → multiples_to (pos (suc i)) (negsuc t) ≡ 0
none_before i t = grind (arith, nat_tests)

product_is : (m i : ℕ) → multiple (pos (suc i)) m ≡ pos (m * suc i)
product_is m i = refl

below_z : (a b : ℕ) → pos a ≤ℤ pos b → a ≤ b
below_z a b le = omega (arith, ints)

above_z : (a b : ℕ) → pos a <ℤ pos b → a < b
above_z a b lt = omega (arith, ints)

to_below_z : (a b : ℕ) → a ≤ b → pos a ≤ℤ pos b
to_below_z a b le = omega (arith, ints)

to_above_z : (a b : ℕ) → a < b → pos a <ℤ pos b
to_above_z a b lt = omega (arith, ints)

pub up_to_t : (interval t : ℤ) (m : ℕ) → pos 0 <ℤ interval → (multiple interval m ≤ℤ t) ↔ (m < multiples_to interval t)
up_to_t (pos zero) t m lt = absurd (omega (arith, ints))
up_to_t (negsuc i) t m lt = absurd (omega (arith, ints))
up_to_t (pos (suc i)) (negsuc t) m lt = ((λ le. absurd (omega (arith, ints))), λ over. absurd (omega (arith, none_before i t)))
up_to_t (pos (suc i)) (pos t) m lt = (
  (λ le. rw (count_is i t) (up_to t m i (below_z (m * suc i) t le))),
  λ over. to_below_z (m * suc i) t (up_to_back t m i (rw (count_is i t) at over)),
)

pub after_t : (interval t : ℤ) (m : ℕ) → pos 0 <ℤ interval → (t <ℤ multiple interval m) ↔ (multiples_to interval t ≤ m)
after_t (pos zero) t m lt = absurd (omega (arith, ints))
after_t (negsuc i) t m lt = absurd (omega (arith, ints))
after_t (pos (suc i)) (negsuc t) m lt = ((λ over. omega (arith, none_before i t)), λ le. omega (arith, ints))
after_t (pos (suc i)) (pos t) m lt = (
  (λ over. rw (count_is i t) (after_all t m i (above_z t (m * suc i) over))),
  λ le. to_above_z t (m * suc i) (after_all_back t m i (rw (count_is i t) at le)),
)

pub released_between : (interval last t : ℤ) (m : ℕ) → pos 0 <ℤ interval → ((last <ℤ multiple interval m) × (multiple interval m ≤ℤ t)) ↔ ((multiples_to interval last ≤ m) × (m < multiples_to interval t))
released_between interval last t m lt = (
  (λ both. ((after_t interval last m lt).0 both.0, (up_to_t interval t m lt).0 both.1)),
  λ both. ((after_t interval last m lt).1 both.0, (up_to_t interval t m lt).1 both.1),
)

next_is : (i : ℕ) (t : ℤ) → next_multiple (pos (suc i)) t ≡ instant_at (multiples_to (pos (suc i)) t * suc i)
next_is i t = grind (arith, nat_tests)

instant_found : (n : ℕ) (u : ℤ) → instant_at n ≡ Some u → (u ≡ pos n) × (n ≤ 2 ^ 62)
instant_found n u e = grind (arith, nat_tests)

instant_none : (n : ℕ) → instant_at n ≡ None → 2 ^ 62 < n
instant_none n e = grind (arith, nat_tests)

least_multiple : (n m i : ℕ) → n ≤ m → n * suc i ≤ m * suc i
least_multiple n m i le = grind (arith, mul-le-mul_left)

no_next : (interval t u : ℤ) {P : Type 0} → interval ≤ℤ pos 0 → next_multiple interval t ≡ Some u → P
no_next (pos zero) t u le e = absurd cc
no_next (negsuc i) t u le e = absurd cc
no_next (pos (suc i)) t u le e = absurd (omega (arith, ints))

pub next_found : (interval t u : ℤ) → next_multiple interval t ≡ Some u → IsNext interval t u
next_found (pos zero) t u e = no_next (pos zero) t u (omega (arith, ints)) e
next_found (negsuc i) t u e = no_next (negsuc i) t u (omega (arith, ints)) e
next_found (pos (suc i)) t u e =
    let lt : pos 0 <ℤ pos (suc i) = omega (arith, ints) in
    let n : ℕ = multiples_to (pos (suc i)) t in
    let found = instant_found (n * suc i) u (sym (next_is i t) ∙ e) in
    record {
      number = n;
      is_multiple = found.0;
      after = rw found.0 ((after_t (pos (suc i)) t n lt).1 (omega arith));
      instant = rw found.0 (to_below_z (n * suc i) (2 ^ 62) found.1);
      least = λ m over. rw found.0 (to_below_z (n * suc i) (m * suc i) (least_multiple n m i ((after_t (pos (suc i)) t m lt).0 over)));
    }

-- u is the multiple of one of the numbers that are counted
pub counted : (interval last t : ℤ) (m : ℕ) → pos 0 <ℤ interval → last <ℤ multiple interval m → multiple interval m ≤ℤ t
    → (multiples_to interval last ≤ m) × (m < multiples_to interval t)
counted interval last t m lt after until = (released_between interval last t m lt).0 (after, until)

-- where some multiple is counted there is an interval
pub some_interval : (interval t : ℤ) → 0 < multiples_to interval t → pos 0 <ℤ interval
some_interval (pos zero) t some = absurd (omega arith)
some_interval (negsuc i) t some = absurd (omega arith)
some_interval (pos (suc i)) t some = omega (arith, ints)

pub none_next : (interval t : ℤ) (m : ℕ) → pos 0 <ℤ interval → next_multiple interval t ≡ None → t <ℤ multiple interval m → pos (2 ^ 62) <ℤ multiple interval m
none_next (pos zero) t m lt e over = absurd (omega (arith, ints))
none_next (negsuc i) t m lt e over = absurd (omega (arith, ints))
none_next (pos (suc i)) t m lt e over =
    let n : ℕ = multiples_to (pos (suc i)) t in
    let past : 2 ^ 62 < n * suc i = instant_none (n * suc i) (sym (next_is i t) ∙ e) in
    let le : n * suc i ≤ m * suc i = least_multiple n m i ((after_t (pos (suc i)) t m lt).0 over) in
    to_above_z (2 ^ 62) (m * suc i) (omega arith)
