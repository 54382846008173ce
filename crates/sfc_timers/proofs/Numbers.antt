-- The look-backs agree with their forms by the numbers of scans.
use Rattle.std.proofs.Common.{◌≡◌, ◌⊎◌, inl, inr, Bool, true, false, List, [], ◌∷◌, ℕ, suc, ◌-◌, ◌<◌, ◌≤◌, ◌==◌, length, arith, refl, ◌∙◌, ℤ, pos, ◌≤ℤ◌, int_le, sym, ap}
use Rattle.std.proofs.lemmas.Int.{ints}
use Rattle.std.proofs.lemmas.Bool.Decides.{nat_tests}
use Rattle.sfc_timers.specs.Timers.{Bistable, Reading, is_on, s_of, r_of, input_of, run_of, start_of, has_elapsed}
use Rattle.sfc_timers.specs.Numbered.{call_at, IsSetSince, reading_at, HasRunSince}

equal_or_below : (i n : ℕ) → i ≤ suc n → (i ≡ suc n) ⊎ (i ≤ n)
equal_or_below i n le = search (arith, nat_tests)

not_newest : (i n : ℕ) → i ≤ n → (i == suc n) ≡ false
not_newest i n le = grind (arith, nat_tests)

newest : (n : ℕ) → (suc n == suc n) ≡ true
newest n = grind (arith, nat_tests)

module _ {A : Type 0} (none : A) where
  at_newest : (x : A) (xs : List A) → call_at none (x ∷ xs) (suc (length xs)) ≡ x
  at_newest x xs = rw (newest (length xs)) refl

  at_before : (x : A) (xs : List A) (i : ℕ) → i ≤ length xs → call_at none (x ∷ xs) i ≡ call_at none xs i
  at_before x xs i le = rw (not_newest i (length xs) le) refl

  -- what holds of the newest and of all from number j on, holds with one more call
  from_more : (p : A → Bool) (b : Bool) (x : A) (xs : List A) (j : ℕ) → p x ≡ b → ((k : ℕ) → j ≤ k → k ≤ length xs → p (call_at none xs k) ≡ b)
      → (k : ℕ) → j ≤ k → k ≤ length (x ∷ xs) → p (call_at none (x ∷ xs) k) ≡ b
  from_more p b x xs j now all k le top = elim (equal_or_below k (length xs) top) [
    | inl last ↦ rw last (ap p (at_newest x xs) ∙ now)
    | inr below ↦ ap p (at_before x xs k below) ∙ all k le below
  ]

  -- and back
  from_less : (p : A → Bool) (b : Bool) (x : A) (xs : List A) (j : ℕ) → ((k : ℕ) → j ≤ k → k ≤ length (x ∷ xs) → p (call_at none (x ∷ xs) k) ≡ b)
      → (k : ℕ) → j ≤ k → k ≤ length xs → p (call_at none xs k) ≡ b
  from_less p b x xs j all k le top = sym (ap p (at_before x xs k top)) ∙ all k le (omega arith)

  -- what holds of the newest alone
  of_newest : (p : A → Bool) (b : Bool) (x : A) (xs : List A) → p x ≡ b → (k : ℕ) → suc (length xs) ≤ k → k ≤ length (x ∷ xs) → p (call_at none (x ∷ xs) k) ≡ b
  of_newest p b x xs now k le top =
      let last : k ≡ suc (length xs) = omega arith in rw last (ap p (at_newest x xs) ∙ now)

-- ---- flip-flop

abbrev off : Bistable
off = (false, false)

pub set_since : (h : List Bistable) → is_on h ≡ true → (j : ℕ) × IsSetSince h j
set_since [] e = absurd (cc)
set_since ((s, true) ∷ h) e = absurd (cc)
set_since ((true, false) ∷ h) e =
    (suc (length h), record { number = omega arith; is_set = ap s_of (at_newest off (true, false) h); unreset = of_newest off r_of false (true, false) h refl })
set_since ((false, false) ∷ h) e =
    let (j, since) = set_since h e in (
      j,
      record {
        number = omega (arith, since.number);
        is_set = ap s_of (at_before off (false, false) h j since.number) ∙ since.is_set;
        unreset = from_more off r_of false (false, false) h j refl since.unreset;
      },
    )

not_both : {b : Bool} → b ≡ true → b ≡ false → ⊥
not_both e f = let bad : true ≡ false = sym e ∙ f in cc

pub on_since : (h : List Bistable) (j : ℕ) → IsSetSince h j → is_on h ≡ true
on_since [] j since = absurd (let bad : false ≡ true = since.is_set in cc)
on_since ((s, true) ∷ h) j since =
    absurd (not_both (ap r_of (at_newest off (s, true) h)) (since.unreset (suc (length h)) since.number (omega arith)))
on_since ((true, false) ∷ h) j since = refl
on_since ((false, false) ∷ h) j since = elim (equal_or_below j (length h) since.number) [
  | inl last ↦ absurd (not_both since.is_set (rw last (ap s_of (at_newest off (false, false) h))))
  | inr below ↦ on_since h j record {
    number = below;
    is_set = sym (ap s_of (at_before off (false, false) h j below)) ∙ since.is_set;
    unreset = from_less off r_of false (false, false) h j since.unreset;
  }
]

-- ---- on-delay

abbrev quiet : Reading
quiet = (false, pos 0, pos 0)

-- the input rises at number m, and is true from there on
record IsRun (h : List Reading) (m : ℕ) : Type 0 where
  after_none : 0 < m
  number : m ≤ length h
  rises : input_of (reading_at h (m - 1)) ≡ false
  runs : (k : ℕ) → m ≤ k → k ≤ length h → input_of (reading_at h k) ≡ true

-- the newest call of a run, at its number
newest_input_at : (x : Reading) (h : List Reading) → input_of (reading_at (x ∷ h) (suc (length h))) ≡ input_of x
newest_input_at x h = ap input_of (at_newest quiet x h)

run_start : (x : Reading) (h : List Reading) → input_of x ≡ true → (m : ℕ) × (IsRun (x ∷ h) m × (reading_at (x ∷ h) m ≡ start_of x (run_of h)))
run_start x [] now =
    (1, (record { after_none = omega arith; number = omega arith; rises = refl; runs = of_newest quiet input_of true x [] now }, refl))
run_start x ((false, p, t) ∷ h) now =
    let y : Reading = (false, p, t) in
    let before : input_of (reading_at (x ∷ y ∷ h) (suc (suc (length h)) - 1)) ≡ false =
    let n : suc (suc (length h)) - 1 ≡ suc (length h) = omega arith in
    rw n (ap input_of (at_before quiet x (y ∷ h) (suc (length h)) (omega arith)) ∙ newest_input_at y h) in (
      suc (suc (length h)),
      (
        record {
          after_none = omega arith;
          number = omega arith;
          rises = before;
          runs = of_newest quiet input_of true x (y ∷ h) now;
        },
        at_newest quiet x (y ∷ h),
      ),
    )
run_start x ((true, p, t) ∷ h) now =
    let y : Reading = (true, p, t) in
    let (m, (run, at)) = run_start y h refl in (
      m,
      (
        record {
          after_none = run.after_none;
          number = omega (arith, run.number);
          rises = ap input_of (at_before quiet x (y ∷ h) (m - 1) (omega (arith, run.number))) ∙ run.rises;
          runs = from_more quiet input_of true x (y ∷ h) m now run.runs;
        },
        at_before quiet x (y ∷ h) m run.number ∙ at,
      ),
    )

run_is : (x : Reading) (h : List Reading) (m : ℕ) → IsRun (x ∷ h) m → reading_at (x ∷ h) m ≡ start_of x (run_of h)
run_is x [] m run = let one : m ≡ 1 = omega (arith, run.number, run.after_none) in rw one refl
run_is x ((false, p, t) ∷ h) m run =
    let y : Reading = (false, p, t) in
    elim (equal_or_below m (suc (length h)) run.number) [
      | inl last ↦ rw last (at_newest quiet x (y ∷ h))
      | inr below ↦ absurd (not_both (run.runs (suc (length h)) below (omega arith))
          (ap input_of (at_before quiet x (y ∷ h) (suc (length h)) (omega arith)) ∙ newest_input_at y h))
    ]
run_is x ((true, p, t) ∷ h) m run =
    let y : Reading = (true, p, t) in
    elim (equal_or_below m (suc (length h)) run.number) [
      | inl last ↦
          let n : m - 1 ≡ suc (length h) = omega arith in
          absurd (not_both (rw n (ap input_of (at_before quiet x (y ∷ h) (suc (length h)) (omega arith)) ∙ newest_input_at y h)) run.rises)
      | inr below ↦ at_before quiet x (y ∷ h) m below ∙ run_is y h m record {
        after_none = run.after_none;
        number = below;
        rises = sym (ap input_of (at_before quiet x (y ∷ h) (m - 1) (omega arith))) ∙ run.rises;
        runs = from_less quiet input_of true x (y ∷ h) m run.runs;
      }
    ]

le_from : (a b : ℤ) → int_le a b ≡ true → a ≤ℤ b
le_from a b e = grind (arith, ints)

le_to : (a b : ℤ) → a ≤ℤ b → int_le a b ≡ true
le_to a b e = grind (arith, ints)

pub run_since : (h : List Reading) → has_elapsed h ≡ true → (m : ℕ) × HasRunSince h m
run_since [] e = absurd (cc)
run_since ((false, p, t) ∷ h) e = absurd (cc)
run_since ((true, p, t) ∷ h) e =
    let (m, (run, at)) = run_start (true, p, t) h refl in
    let last = at_newest quiet (true, p, t) h in (
      m,
      record {
        after_none = run.after_none;
        number = run.number;
        rises = run.rises;
        runs = run.runs;
        lasts = rw (at, last) (le_from _ _ e);
      },
    )

pub elapsed_since : (h : List Reading) (m : ℕ) → HasRunSince h m → has_elapsed h ≡ true
elapsed_since [] m since = absurd (omega (arith, since.number, since.after_none))
elapsed_since ((false, p, t) ∷ h) m since =
    absurd (not_both (since.runs (suc (length h)) since.number (omega arith)) (newest_input_at (false, p, t) h))
elapsed_since ((true, p, t) ∷ h) m since =
    let at : reading_at ((true, p, t) ∷ h) m ≡ start_of (true, p, t) (run_of h) =
    run_is (true, p, t) h m record { after_none = since.after_none; number = since.number; rises = since.rises; runs = since.runs } in
    let last = at_newest quiet (true, p, t) h in
    le_to _ _ (rw (at, last) at since.lasts)
