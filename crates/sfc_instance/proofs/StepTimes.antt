-- The times of steps lie in the range of TIME.
use Rattle.std.proofs.Common.{◌≡◌, ◌≤ℤ◌, ◌^◌, ◌-ℤ◌, ◌&&◌, not, int_le, neg_ℤ, arith, ℤ, pos, Bool, true, false, cond}
use Rattle.std.proofs.Common.{List, [], ◌∷◌, All, find, slice_index_or, Option, Some, None, IfSome, refl}
use Rattle.std.specs.List.{range_with_len}
use Rattle.std.proofs.lemmas.Int.{ints}
use Rattle.std.proofs.lemmas.List.Elements.{All-nil, All-cons, All-head, All-tail, All-map}
use Rattle.sfc_base.specs.Leading.{leading}
use Rattle.sfc_base.specs.Values.{is_in_range}
use Rattle.sfc_base.specs.declared.var_type.VarType.TheVariants as types
use Rattle.sfc_tables.specs.Tables.{Tabled}
use Rattle.sfc_evolve.specs.Lookback.{or_else, oldest, time_from}
use Rattle.sfc_evolve.specs.Clearing.{step_count}
use Rattle.sfc_evolve.specs.Evolution as evolution
use Rattle.sfc_image.specs.Types.{AreTimes}
use Rattle.sfc_instance.specs.Life.{Life, Row, evolution_rows}
use Rattle.sfc_instance.specs.ProgramScan.{step_times}
use Rattle.sfc_instance.specs.Types.{IsInstant, AreInstants}

-- ---- rows that are found

module _ {A : Type 0} (P : A → Type 0) where
  chosen : (b : Bool) (x : A) (other : Option A) → P x → IfSome other P → IfSome (cond b (Some x) other) P
  chosen true x other h g = h
  chosen false x other h g = g

  kept : (b : Bool) (x : A) (xs : List A) → P x → All P xs → All P (cond b (x ∷ xs) [])
  kept true x xs h all = All-cons P x xs h all
  kept false x xs h all = All-nil P

  either : (one other : Option A) → IfSome one P → IfSome other P → IfSome (or_else one other) P
  either (Some x) other h g = h
  either None other h g = g

  found : (p : A → Bool) (xs : List A) → All P xs → IfSome (find p xs) P
  found p [] all = tt
  found p (x ∷ xs) all = chosen (p x) x (find p xs) (All-head P x xs all) (found p xs (All-tail P x xs all))

  front : (p : A → Bool) (xs : List A) → All P xs → All P (leading p xs)
  front p [] all = All-nil P
  front p (x ∷ xs) all = kept (p x) x (leading p xs) (All-head P x xs all) (front p xs (All-tail P x xs all))

  first : (p : A → Bool) (xs : List A) → All P xs → IfSome (oldest p xs) P
  first p [] all = tt
  first p (x ∷ xs) all =
      either (oldest p xs) (cond (p x) (Some x) None) (first p xs (All-tail P x xs all)) (chosen (p x) x None (All-head P x xs all) tt)

-- ---- a time between two instants

low_by : (low n : ℤ) → low ≤ℤ n → int_le low n ≡ true
low_by low n le = grind (arith, ints)

both : (a b : Bool) → a ≡ true → b ≡ true → (a && b) ≡ true
both true true e f = refl
both true false e f = absurd cc
both false b e f = absurd cc

between : (s t : ℤ) → IsInstant s → IsInstant t → is_in_range types.Time (t -ℤ s) ≡ true
between s t from to =
    both (int_le (neg_ℤ (pos (2 ^ 62))) (t -ℤ s)) (int_le (t -ℤ s) (pos (2 ^ 62)))
    (low_by (neg_ℤ (pos (2 ^ 62))) (t -ℤ s) (omega (arith, ints, from.0, from.1, to.0, to.1)))
    (low_by (t -ℤ s) (pos (2 ^ 62)) (omega (arith, ints, from.0, from.1, to.0, to.1)))

time_of : {A : Type 0} (at : A → ℤ) (now : ℤ) (on off : Option A) → IsInstant now → IfSome on (λ row. IsInstant (at row))
    → IfSome off (λ row. IsInstant (at row)) → is_in_range types.Time (time_from at now on off) ≡ true
time_of at now None off here from to = refl
time_of at now (Some on) None here from to = between (at on) now from here
time_of at now (Some on) (Some off) here from to = between (at on) (at off) from to

-- ---- the times of the steps of a life

rows_at : (tables : Tabled) (life : Life) → AreInstants life
    → All (λ (row : evolution.Row). IsInstant row.at) (evolution_rows tables life)
rows_at tables [] all = All-nil (λ (row : evolution.Row). IsInstant row.at)
rows_at tables (row ∷ life) all =
    All-cons (λ (x : evolution.Row). IsInstant x.at) _ (evolution_rows tables life)
    (All-head (λ (x : Row). IsInstant x.at) row life all) (rows_at tables life (All-tail (λ (x : Row). IsInstant x.at) row life all))

pub times_in_range : (tables : Tabled) (life : Life) (t : ℤ) → AreInstants life → IsInstant t → AreTimes (step_times tables life t)
times_in_range tables life t all here =
    let rows = evolution_rows tables life in
    let each = rows_at tables life all in
    All-map (λ (x : ℤ). is_in_range types.Time x ≡ true) (λ s. evolution.step_time tables rows s t) (range_with_len 0 (step_count tables))
    (λ k d lt.
    let s = slice_index_or (range_with_len 0 (step_count tables)) k d in
    time_of (λ (row : evolution.Row). row.at) t (find (evolution.is_activated tables s) rows)
    (oldest (evolution.is_deactivated tables s) (leading (λ row. not (evolution.is_activated tables s row)) rows)) here
    (found (λ (row : evolution.Row). IsInstant row.at) (evolution.is_activated tables s) rows each)
    (first (λ (row : evolution.Row). IsInstant row.at) (evolution.is_deactivated tables s)
    (leading (λ row. not (evolution.is_activated tables s row)) rows)
    (front (λ (row : evolution.Row). IsInstant row.at) (λ row. not (evolution.is_activated tables s row)) rows each)))
