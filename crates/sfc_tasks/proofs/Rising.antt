-- The multiples between two instants, by their places.
use Rattle.std.proofs.Common.{◌≡◌, ℕ, zero, suc, ◌+◌, ◌-◌, ◌*◌, ◌<◌, arith, length, slice_index_or, ℤ, pos, negsuc, ◌≤ℤ◌, ◌<ℤ◌, Contains, All, AllPairs, refl, sym, ◌∙◌, ap, subst}
use Rattle.std.proofs.Math.Nat.{mul-le-mul_left}
use Rattle.std.proofs.lemmas.Int.{ints}
use Rattle.sfc_tasks.specs.Multiples.{multiple, multiples_to, multiples_from, multiples_between}
use Rattle.sfc_tasks.specs.Meaning.{IsMultipleBetween}
use Rattle.sfc_tasks.proofs.Gained.{length-multiples_from}
use Rattle.sfc_tasks.proofs.MultipleLemmas.{counted, released_between, some_interval}

multiple_at : (interval : ℤ) (m n k : ℕ) (d : ℤ) → k < n → slice_index_or (multiples_from interval m n) k d ≡ multiple interval (m + k)
multiple_at interval m zero k d lt = absurd (omega arith)
multiple_at interval m (suc n) zero d lt = ap (multiple interval) (omega arith)
multiple_at interval m (suc n) (suc k) d lt =
    multiple_at interval (suc m) n k d (omega arith) ∙ ap (multiple interval) (omega arith)

product_below : (m j i : ℕ) → m < j → m * suc i < j * suc i
product_below m j i lt = grind (arith, mul-le-mul_left)

multiple_below : (interval : ℤ) (m j : ℕ) → pos 0 <ℤ interval → m < j → multiple interval m <ℤ multiple interval j
multiple_below (pos zero) m j some lt = absurd (omega (arith, ints))
multiple_below (negsuc i) m j some lt = absurd (omega (arith, ints))
multiple_below (pos (suc i)) m j some lt =
    let below : m * suc i < j * suc i = product_below m j i lt in omega (arith, ints, below)

place_below : (interval last t : ℤ) (k : ℕ) → k < length (multiples_between interval last t)
    → k < multiples_to interval t - multiples_to interval last
place_below interval last t k lt =
    let n : ℕ = multiples_to interval t - multiples_to interval last in
    let l : length (multiples_between interval last t) ≡ n = length-multiples_from interval (multiples_to interval last) n in
    omega (arith, lt, l)

pub each_between : (interval last t : ℤ) → All (IsMultipleBetween interval last t) (multiples_between interval last t)
each_between interval last t k d lt =
    let n : ℕ = multiples_to interval t - multiples_to interval last in
    let below : k < n = place_below interval last t k lt in
    let number : ℕ = multiples_to interval last + k in
    let some : pos 0 <ℤ interval = some_interval interval t (omega arith) in
    let bounds = (released_between interval last t number some).1 (omega arith, omega arith) in
    let is : slice_index_or (multiples_between interval last t) k d ≡ multiple interval number =
    multiple_at interval (multiples_to interval last) n k d below in
    subst (λ (x : ℤ). IsMultipleBetween interval last t x) (sym is)
    (record { number = number; is_multiple = refl; positive = some; after = bounds.0; until = bounds.1 })

pub between_contained : (interval last t u : ℤ) → IsMultipleBetween interval last t u → Contains (multiples_between interval last t) u
between_contained interval last t u h =
    let n : ℕ = multiples_to interval t - multiples_to interval last in
    let m : ℕ = h.number in
    let after : last <ℤ multiple interval m = subst (λ (x : ℤ). last <ℤ x) h.is_multiple h.after in
    let until : multiple interval m ≤ℤ t = subst (λ (x : ℤ). x ≤ℤ t) h.is_multiple h.until in
    let bounds = counted interval last t m h.positive after until in
    let k : ℕ = m - multiples_to interval last in
    let below : k < n = omega (arith, bounds) in
    let same : multiples_to interval last + k ≡ m = omega (arith, bounds) in
    let l : length (multiples_between interval last t) ≡ n = length-multiples_from interval (multiples_to interval last) n in (
      k,
      omega (arith, below, l),
      multiple_at interval (multiples_to interval last) n k u below ∙ ap (multiple interval) same ∙ sym h.is_multiple,
    )

pub multiples_rise : (interval last t : ℤ) → AllPairs (λ u v. u <ℤ v) (multiples_between interval last t)
multiples_rise interval last t i j d lt within =
    let n : ℕ = multiples_to interval t - multiples_to interval last in
    let m : ℕ = multiples_to interval last in
    let below : j < n = place_below interval last t j within in
    let some : pos 0 <ℤ interval = some_interval interval t (omega arith) in
    let first : slice_index_or (multiples_between interval last t) i d ≡ multiple interval (m + i) =
    multiple_at interval m n i d (omega arith) in
    let second : slice_index_or (multiples_between interval last t) j d ≡ multiple interval (m + j) =
    multiple_at interval m n j d below in
    subst (λ (x : ℤ). x <ℤ slice_index_or (multiples_between interval last t) j d) (sym first)
    (subst (λ (x : ℤ). multiple interval (m + i) <ℤ x) (sym second)
    (multiple_below interval (m + i) (m + j) some (omega arith)))
