-- SD, DS and SL by the numbers of scans.
use Rattle.std.proofs.Common.{◌≡◌, ◌⊎◌, inl, inr, Bool, true, false, not, ◌&&◌, ◌||◌, List, [], ◌∷◌}
use Rattle.std.proofs.Common.{ℕ, zero, suc, ◌+◌, ◌-◌, ◌<◌, ◌≤◌, ◌==◌, length, arith, refl, ◌∙◌, sym, subst}
use Rattle.std.proofs.lemmas.Bool.Decides.{nat_tests}
use Rattle.sfc_timers.specs.Numbered.{IsSetSince, HasRunSince}
use Rattle.sfc_tables.specs.Tables.{Tabled}
use Rattle.sfc_action.specs.ActionControl.{Scan, Letter, R, DS, input, stored, delayed}
use Rattle.sfc_action.specs.ScanNumbers.{value_at, HasBeenStoredSince, IsStoredOnceDelayed}
use Rattle.sfc_action.proofs.Elapsed.{is_on_next}
use Rattle.sfc_action.proofs.Numbers.{calls, size, sets_at, resets_at}
use Rattle.sfc_action.proofs.Numbers.{reads, reads_size, inputs_at, presets_at, instants_at, newest_at}

equal_or_below : (i n : ℕ) → i ≤ suc n → (i ≡ suc n) ⊎ (i ≤ n)
equal_or_below i n le = search (arith, nat_tests)

not_newest : (i n : ℕ) → i ≤ n → (i == suc n) ≡ false
not_newest i n le = grind (arith, nat_tests)

newest : (n : ℕ) → (suc n == suc n) ≡ true
newest n = grind (arith, nat_tests)

-- ---- a value at the newest scan, and at those before

module _ (value : List Scan → Bool) where
  at_newest : (scan : Scan) (h : List Scan) → value_at value (scan ∷ h) (suc (length h)) ≡ value (scan ∷ h)
  at_newest scan h = rw (newest (length h)) refl

  at_before : (scan : Scan) (h : List Scan) (i : ℕ) → i ≤ length h → value_at value (scan ∷ h) i ≡ value_at value h i
  at_before scan h i le = rw (not_newest i (length h) le) refl

  at_last : value [] ≡ false → (h : List Scan) → value_at value h (length h) ≡ value h
  at_last e [] = sym e
  at_last e (scan ∷ h) = at_newest scan h

  at_none : (h : List Scan) → value_at value h 0 ≡ false
  at_none [] = refl
  at_none (scan ∷ h) = at_before scan h 0 (omega arith) ∙ at_none h

  numbered : (h : List Scan) (i : ℕ) → value_at value h i ≡ true → 0 < i
  numbered h zero e = let bad : true ≡ false = sym e ∙ at_none h in absurd cc
  numbered h (suc i) e = omega arith

-- ---- what a flip-flop has by what it had, what sets it and what resets it

set_by : (was sets resets : Bool) → ((was || sets) && not resets) ≡ true → was ≡ false → sets ≡ true
set_by true sets resets on off = absurd cc
set_by false true resets on off = refl
set_by false false resets on off = absurd cc

unreset_by : (was sets resets : Bool) → ((was || sets) && not resets) ≡ true → resets ≡ false
unreset_by was sets false on = refl
unreset_by true sets true on = absurd cc
unreset_by false true true on = absurd cc
unreset_by false false true on = absurd cc

on_by : (was sets resets : Bool) → sets ≡ true → resets ≡ false → ((was || sets) && not resets) ≡ true
on_by true true false e f = refl
on_by false true false e f = refl
on_by was false resets e f = absurd cc
on_by was sets true e f = absurd cc

kept_by : (was sets resets : Bool) → was ≡ true → resets ≡ false → ((was || sets) && not resets) ≡ true
kept_by true sets false e f = refl
kept_by false sets resets e f = absurd cc
kept_by was sets true e f = absurd cc

-- ---- being stored, and for how long

module _ (tables : Tabled) (a : ℕ) (letter : Letter) where
  abbrev pub is_stored : List Scan → Bool
  is_stored h = stored tables a letter h

  abbrev sets : List Scan → Bool
  sets h = input tables a letter h

  abbrev resets : List Scan → Bool
  resets h = input tables a R h

  -- at a scan, by the scan before
  stored_at : (h : List Scan) (i : ℕ) → 0 < i → i ≤ length h
      → value_at is_stored h i ≡ ((value_at is_stored h (i - 1) || value_at sets h i) && not (value_at resets h i))
  stored_at [] i lt le = absurd (omega arith)
  stored_at (scan ∷ h) i lt le = elim (equal_or_below i (length h) le) [
    | inl last ↦ (
        let before : i - 1 ≡ length h = omega arith in
        let was : value_at is_stored (scan ∷ h) (length h) ≡ is_stored h =
        at_before is_stored scan h (length h) (omega arith) ∙ at_last is_stored refl h in
        rw before (rw last (
        at_newest is_stored scan h ∙ is_on_next (sets (scan ∷ h)) (resets (scan ∷ h)) _
        ∙ sym (λ k. (was k || at_newest sets scan h k) && not (at_newest resets scan h k)))))
    | inr below ↦ (
        let was = at_before is_stored scan h (i - 1) (omega arith) in
        at_before is_stored scan h i below ∙ stored_at h i lt below
        ∙ sym (λ k. (was k || at_before sets scan h i below k) && not (at_before resets scan h i below k)))
  ]

  pub been_stored : (h : List Scan) (m : ℕ) → HasRunSince (reads tables a is_stored h) m → HasBeenStoredSince tables a letter h m
  been_stored h m since =
      let number : m ≤ length h = subst (λ n. m ≤ n) (reads_size tables a is_stored h) since.number in
      let before : value_at is_stored h (m - 1) ≡ false = sym (inputs_at tables a is_stored h (m - 1)) ∙ since.rises in
      let on : (k : ℕ) → m ≤ k → k ≤ length h → value_at is_stored h k ≡ true =
      λ k le top. sym (inputs_at tables a is_stored h k)
      ∙ since.runs k le (subst (λ n. k ≤ n) (sym (reads_size tables a is_stored h)) top) in
      record {
        stored_since = record {
          number = number;
          comes = set_by (value_at is_stored h (m - 1)) (value_at sets h m) (value_at resets h m)
              (sym (stored_at h m since.after_none number) ∙ on m (omega arith) number) before;
          unreset = λ k le top. unreset_by (value_at is_stored h (k - 1)) (value_at sets h k) (value_at resets h k)
              (sym (stored_at h k (omega (arith, since.after_none)) top) ∙ on k le top);
        };
        rises = before;
        lasts =
            rw (← presets_at tables a is_stored h m, ← newest_at tables a is_stored h, ← instants_at tables a is_stored h m)
            since.lasts;
      }

  module _ (h : List Scan) (m : ℕ) (since : HasBeenStoredSince tables a letter h m) where
    first : 0 < m
    first = numbered sets h m since.stored_since.comes

    stays : (d i : ℕ) → i ≡ m + d → i ≤ length h → value_at is_stored h i ≡ true
    stays zero i e le =
        let same : m ≡ i = omega arith in
        let positive = first in
        stored_at h i (omega arith) le
        ∙ on_by (value_at is_stored h (i - 1)) (value_at sets h i) (value_at resets h i)
        (subst (λ n. value_at sets h n ≡ true) same since.stored_since.comes) (since.stored_since.unreset i (omega arith) le)
    stays (suc d) i e le =
        stored_at h i (omega arith) le
        ∙ kept_by (value_at is_stored h (i - 1)) (value_at sets h i) (value_at resets h i)
        (stays d (i - 1) (omega arith) (omega arith)) (since.stored_since.unreset i (omega arith) le)

    pub runs_since : HasRunSince (reads tables a is_stored h) m
    runs_since = record {
      after_none = first;
      number = subst (λ n. m ≤ n) (sym (reads_size tables a is_stored h)) since.stored_since.number;
      rises = inputs_at tables a is_stored h (m - 1) ∙ since.rises;
      runs = λ k le top.
          inputs_at tables a is_stored h k
          ∙ stays (k - m) k (omega arith) (subst (λ n. k ≤ n) (reads_size tables a is_stored h) top);
      lasts = rw (presets_at tables a is_stored h m, newest_at tables a is_stored h, instants_at tables a is_stored h m) since.lasts;
    }

-- ---- once delayed, stored

module _ (tables : Tabled) (a : ℕ) (h : List Scan) (j : ℕ) where
  abbrev pub is_delayed : List Scan → Bool
  is_delayed scans = delayed tables a DS scans

  pub once_delayed : IsSetSince (calls tables a is_delayed h) j → IsStoredOnceDelayed tables a h j
  once_delayed since = record {
    number = subst (λ n. j ≤ n) (size tables a is_delayed h) since.number;
    elapsed = sym (sets_at tables a is_delayed h j) ∙ since.is_set;
    unreset = λ k le top. sym (resets_at tables a is_delayed h k)
        ∙ since.unreset k le (subst (λ n. k ≤ n) (sym (size tables a is_delayed h)) top);
  }

  pub delayed_once : IsStoredOnceDelayed tables a h j → IsSetSince (calls tables a is_delayed h) j
  delayed_once since = record {
    number = subst (λ n. j ≤ n) (sym (size tables a is_delayed h)) since.number;
    is_set = sets_at tables a is_delayed h j ∙ since.elapsed;
    unreset = λ k le top. resets_at tables a is_delayed h k ∙ since.unreset k le (subst (λ n. k ≤ n) (size tables a is_delayed h) top);
  }
