-- Which bit of the answer to a scan tells of which instance.
use Rattle.std.proofs.Common.{◌≡◌, ◌↔◌, ℕ, zero, suc, ◌+◌, ◌*◌, ◌^◌, ◌<◌, ◌≤◌, ◌==◌, arith, Bool, true, false, cond, ◌&&◌, List, [], ◌∷◌}
use Rattle.std.proofs.Common.{length, refl, sym, ◌∙◌, ap, ℤ, Some, slice_get, add_comm}
use Rattle.std.specs.Prelude.{take}
use Rattle.std.specs.Int.{bit_at}
use Rattle.std.proofs.Math.Nat.{add-mul, mul_assoc, pow-succ'}
use Rattle.std.proofs.lemmas.Bool.Decides.{nat_tests}
use Rattle.std.proofs.lemmas.Nat.{pow_pos}
use Rattle.std.proofs.lemmas.Nat.Bits.{bit_at-zero, bit_at-pow_same, bit_at_cat_low, bit_at_cat_high}
use Rattle.sfc_base.specs.declared.ids.TaskId.{TaskId}
use Rattle.sfc_plant.specs.declared.instance.Instance.{Instance}
use Rattle.sfc_plant.specs.Plants.{PlantData}
use Rattle.sfc_instance.specs.declared.scan_end.ScanEnd.{ScanEnd}
use Rattle.sfc_instance.specs.declared.scan_end.ScanEnd.TheVariants.{Ran, Faulted, Skipped}
use Rattle.sfc_instances.specs.PlantState.{PlantState, program_scan, after_instance, after_task}
use Rattle.sfc_instances.specs.Ends.{is_so, bits_of}

-- ---- one bit

abbrev bit_if : Bool → ℕ → ℕ
bit_if b k = cond b (2 ^ k) 0

abbrev one_if : Bool → ℕ
one_if b = cond b 1 0

bit_is : (b : Bool) (k : ℕ) → bit_at (bit_if b k) k ≡ one_if b
bit_is true k = bit_at-pow_same k
bit_is false k = bit_at-zero k

power_grows : (k : ℕ) → 2 ^ k < 2 ^ suc k
power_grows k = omega (arith, pow_pos k, pow-succ' 2 k)

bit_small : (b : Bool) (k : ℕ) → bit_if b k < 2 ^ suc k
bit_small true k = power_grows k
bit_small false k = pow_pos (suc k)

bit_times : (b : Bool) (k : ℕ) → bit_if b k ≡ one_if b * 2 ^ k
bit_times true k = omega arith
bit_times false k = omega arith

-- in front of a multiple of the next power
joined : (b : Bool) (k m : ℕ) → bit_if b k + m * 2 ^ suc k ≡ (one_if b + m * 2) * 2 ^ k
joined b k m =
    (λ i. bit_times b k i + m * pow-succ' 2 k i)
    ∙ (λ i. one_if b * 2 ^ k + sym (mul_assoc m 2 (2 ^ k)) i)
    ∙ sym (add-mul (one_if b) (m * 2) (2 ^ k))

both : (a b : Bool) (x : ℕ) → cond a (cond b x 0) 0 ≡ cond (a && b) x 0
both true b x = refl
both false b x = refl

-- ---- the bits of a task's instances

module _ (how : ScanEnd) (plant : PlantData) (task : TaskId) (t : ℤ) where
  -- instance n is of the task, and its scan ends so
  abbrev ends_so : ℕ → Instance → PlantState → Bool
  ends_so n instance state = (instance.task.0 == task.0) && is_so how (program_scan plant t n state).scan_end

  abbrev after : ℕ → Instance → PlantState → PlantState
  after k instance state = after_instance plant task t k instance state

  abbrev bits : ℕ → List Instance → PlantState → ℕ
  bits k instances state = bits_of how plant task t k instances state

  bits_first : (k : ℕ) (x : Instance) (xs : List Instance) (state : PlantState)
      → bits k (x ∷ xs) state ≡ bit_if (ends_so k x state) k + bits (suc k) xs (after k x state)
  bits_first k x xs state =
      ap (λ n. n + bits (suc k) xs (after k x state)) (both (x.task.0 == task.0) (is_so how (program_scan plant t k state).scan_end) (2 ^ k))

  multiple : (k : ℕ) (xs : List Instance) (state : PlantState) → (m : ℕ) × (bits k xs state ≡ m * 2 ^ k)
  multiple k [] state = (0, omega arith)
  multiple k (x ∷ xs) state =
      let rest = multiple (suc k) xs (after k x state) in
      let b = ends_so k x state in (
        one_if b + rest.0 * 2,
        bits_first k x xs state ∙ ap (λ n. bit_if b k + n) rest.1 ∙ joined b k rest.0,
      )

  -- a bit beyond the first is one of the rest
  later : (k n : ℕ) (x : Instance) (xs : List Instance) (state : PlantState) → suc k ≤ n
      → bit_at (bits k (x ∷ xs) state) n ≡ bit_at (bits (suc k) xs (after k x state)) n
  later k n x xs state le =
      let b = ends_so k x state in
      let rest = multiple (suc k) xs (after k x state) in
      let small = bit_small b k in
      let some : 0 < 2 ^ suc k = pow_pos (suc k) in
      let alone : bits (suc k) xs (after k x state) ≡ rest.0 * 2 ^ suc k + 0 = omega (arith, rest.1) in
      let both_of : bits k (x ∷ xs) state ≡ rest.0 * 2 ^ suc k + bit_if b k =
      bits_first k x xs state ∙ ap (λ m. bit_if b k + m) rest.1 ∙ add_comm (bit_if b k) (rest.0 * 2 ^ suc k) in
      ap (λ m. bit_at m n) both_of ∙ bit_at_cat_high rest.0 (suc k) (bit_if b k) n small le
      ∙ sym (ap (λ m. bit_at m n) alone ∙ bit_at_cat_high rest.0 (suc k) 0 n some le)

  first : (k : ℕ) (x : Instance) (xs : List Instance) (state : PlantState) → bit_at (bits k (x ∷ xs) state) k ≡ one_if (ends_so k x state)
  first k x xs state =
      let b = ends_so k x state in
      let rest = multiple (suc k) xs (after k x state) in
      let both_of : bits k (x ∷ xs) state ≡ rest.0 * 2 ^ suc k + bit_if b k =
      bits_first k x xs state ∙ ap (λ m. bit_if b k + m) rest.1 ∙ add_comm (bit_if b k) (rest.0 * 2 ^ suc k) in
      ap (λ m. bit_at m k) both_of ∙ bit_at_cat_low rest.0 (suc k) (bit_if b k) k (omega arith) ∙ bit_is b k

  -- the bit of instance n, where the first of these is instance k and i go before it
  bit_of_instance : (k i n : ℕ) (xs : List Instance) (state : PlantState) (x : Instance) → n ≡ k + i → slice_get xs i ≡ Some x
      → bit_at (bits k xs state) n ≡ one_if (ends_so n x (after_task plant task t k (take i xs) state))
  bit_of_instance k i n [] state x e is = absurd cc
  bit_of_instance k zero n (y ∷ xs) state x e is =
      let same : y ≡ x = cc in
      let here : n ≡ k = omega arith in
      ap (λ m. bit_at (bits k (y ∷ xs) state) m) here ∙ first k y xs state
      ∙ (λ i. one_if (ends_so (sym here i) (same i) state))
  bit_of_instance k (suc i) n (y ∷ xs) state x e is =
      later k n y xs state (omega arith) ∙ bit_of_instance (suc k) i n xs (after k y state) x (omega arith) is

  bit_beyond : (k i n : ℕ) (xs : List Instance) (state : PlantState) → n ≡ k + i → length xs ≤ i → bit_at (bits k xs state) n ≡ 0
  bit_beyond k i n [] state e le = bit_at-zero n
  bit_beyond k zero n (y ∷ xs) state e le = absurd (omega arith)
  bit_beyond k (suc i) n (y ∷ xs) state e le =
      later k n y xs state (omega arith) ∙ bit_beyond (suc k) i n xs (after k y state) (omega arith) (omega arith)

-- ---- what the flag says

is_so_same : (how scan_end : ScanEnd) → is_so how scan_end ≡ true → scan_end ≡ how
is_so_same Ran Ran e = refl
is_so_same Faulted Faulted e = refl
is_so_same Skipped Skipped e = refl
is_so_same Ran Faulted e = absurd cc
is_so_same Ran Skipped e = absurd cc
is_so_same Faulted Ran e = absurd cc
is_so_same Faulted Skipped e = absurd cc
is_so_same Skipped Ran e = absurd cc
is_so_same Skipped Faulted e = absurd cc

same_is_so : (how scan_end : ScanEnd) → scan_end ≡ how → is_so how scan_end ≡ true
same_is_so how scan_end e = ap (is_so how) e ∙ self how where
  self : (how : ScanEnd) → is_so how how ≡ true
  self Ran = refl
  self Faulted = refl
  self Skipped = refl

one_true : (b : Bool) → one_if b ≡ 1 → b ≡ true
one_true true e = refl
one_true false e = absurd (omega arith)

split : (a b : Bool) → (a && b) ≡ true → (a ≡ true) × (b ≡ true)
split true b e = (refl, e)
split false b e = absurd cc

pub bit_says : (how : ScanEnd) (plant : PlantData) (task : TaskId) (t : ℤ) (state : PlantState) (k : ℕ) (instance : Instance)
    → slice_get plant.instances k ≡ Some instance
    → (bit_at (bits_of how plant task t 0 plant.instances state) k ≡ 1)
    ↔ ((instance.task.0 ≡ task.0) × ((program_scan plant t k (after_task plant task t 0 (take k plant.instances) state)).scan_end ≡ how))
bit_says how plant task t state k instance is =
    let before = after_task plant task t 0 (take k plant.instances) state in
    let scan_end = (program_scan plant t k before).scan_end in
    let bit = bit_of_instance how plant task t 0 k k plant.instances state instance (omega arith) is in (
      λ e.
          let flags = split (instance.task.0 == task.0) (is_so how scan_end) (one_true _ (sym bit ∙ e)) in
          let own : (instance.task.0 == task.0) ≡ true = flags.0 in
          (grind (arith, nat_tests), is_so_same how scan_end flags.1),
      λ x.
          let own : (instance.task.0 == task.0) ≡ true = let same : instance.task.0 ≡ task.0 = x.0 in grind (arith, nat_tests) in
          bit ∙ (λ i. one_if (own i && same_is_so how scan_end x.1 i)),
    )

pub no_bit_beyond : (how : ScanEnd) (plant : PlantData) (task : TaskId) (t : ℤ) (state : PlantState) (k : ℕ) → length plant.instances ≤ k
    → bit_at (bits_of how plant task t 0 plant.instances state) k ≡ 0
no_bit_beyond how plant task t state k le = bit_beyond how plant task t 0 k k plant.instances state (omega arith) le
