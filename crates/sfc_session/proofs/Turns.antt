-- Tasks that are gone through by their numbers.
use Rattle.std.proofs.Common.{◌≡◌, ◌∙◌, ap, ℕ, suc, ◌+◌, ◌-◌, ◌<◌, ◌≤◌, arith, Bool, true, false, not, cond, List, [], ◌∷◌, length, Option, Some, None, ℤ}
use Rattle.std.specs.List.{range_with_len}
use Rattle.sfc_output.specs.sfc_debug.Histories.{CommandHistory}
use Rattle.sfc_output.specs.sfc_debug.Steered.{Steered}
use Rattle.sfc_session.specs.Scanning.{earlier, is_out_of_turn, next_among, release_in, scan_verdict, tasks_of, turn_among}

-- ---- numbers

unrolled : (k n : ℕ) → k < n → range_with_len k (n - k) ≡ k ∷ range_with_len (k + 1) (n - (k + 1))
unrolled k n less =
    let e : n - k ≡ suc (n - (k + 1)) = omega arith in
    ap (range_with_len k) e

none_left : (k n : ℕ) → n ≤ k → range_with_len k (n - k) ≡ []
none_left k n all =
    let e : n - k ≡ 0 = omega arith in
    ap (range_with_len k) e

-- ---- tasks

module _ (st : Steered) (h : CommandHistory) (raw : ℤ) where
  abbrev n : ℕ
  n = length st.plant.tasks

  -- those from a number on
  abbrev pub from : ℕ → List ℕ
  from k = range_with_len k (length st.plant.tasks - k)

  pub begins : from 0 ≡ tasks_of st
  begins = ap (range_with_len 0) (omega arith)

  by_turn : (rest : List ℕ) (k : ℕ) (b : Bool) → is_out_of_turn (scan_verdict st h raw k) ≡ b → turn_among st h raw (k ∷ rest)
      ≡ cond (not b) (Some k) (turn_among st h raw rest)
  unfolding turn_among
  by_turn rest k b e = ap (λ b. cond (not b) (Some k) (turn_among st h raw rest)) e

  -- it isn't the turn of this one
  pub turn_later : (k : ℕ) → k < n → is_out_of_turn (scan_verdict st h raw k) ≡ true → turn_among st h raw (from k) ≡ turn_among st h raw (from (k + 1))
  turn_later k less out = ap (turn_among st h raw) (unrolled k n less) ∙ by_turn (from (k + 1)) k true out

  pub turn_here : (k : ℕ) → k < n → is_out_of_turn (scan_verdict st h raw k) ≡ false → turn_among st h raw (from k) ≡ Some k
  turn_here k less turn = ap (turn_among st h raw) (unrolled k n less) ∙ by_turn (from (k + 1)) k false turn

  pub turn_none : (k : ℕ) → n ≤ k → turn_among st h raw (from k) ≡ None
  unfolding turn_among
  turn_none k all = ap (turn_among st h raw) (none_left k n all)

  pub next_later : (first : Option ℤ) (k : ℕ) → k < n → next_among st h raw first (from k)
      ≡ next_among st h raw (earlier first (release_in (scan_verdict st h raw k))) (from (k + 1))
  unfolding next_among
  next_later first k less = ap (next_among st h raw first) (unrolled k n less)

  pub next_none : (first : Option ℤ) (k : ℕ) → n ≤ k → next_among st h raw first (from k) ≡ first
  unfolding next_among
  next_none first k all = ap (next_among st h raw first) (none_left k n all)
