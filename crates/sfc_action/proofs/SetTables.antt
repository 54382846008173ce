-- How words hold sets of actions.
use Rattle.std.proofs.Common.{◌≡◌, ℕ, ◌≤◌, ◌<◌, ◌==◌, Bool, true, false, cond, List, length, get_or, arith, ◌∙◌, ap, refl, sym, inl, inr, eq-eqb}
use Rattle.std.specs.Prelude.{All, slice_set, replicate}
use Rattle.std.specs.Int.{div_ceil}
use Rattle.std.proofs.lemmas.Bool.{cases_eq, ne_eqb}
use Rattle.std.proofs.lemmas.List.{get_or-set_same, get_or-set_other, length-set}
use Rattle.sfc_base.specs.declared.qualifier.TimedQualifier.{TimedQualifier}
use Rattle.sfc_base.specs.declared.qualifier.TimedQualifier.TheVariants.{Limited, Delayed, StoredDelayed, DelayedStored, StoredLimited}
use Rattle.sfc_plant.specs.declared.association.Qualifier.{Qualifier}
use Rattle.sfc_plant.specs.declared.association.Qualifier.TheVariants.{NonStored, Reset, Set, Pulse, RisingPulse, FallingPulse, Timed}
use Rattle.sfc_flags.specs.Flags.{flag}
use Rattle.sfc_flags.specs.Words.{word_of}
use Rattle.sfc_action.specs.declared.timed_words.TimedWords.{TimedWords}
use Rattle.sfc_action.specs.declared.store_words.StoreWords.{StoreWords}
use Rattle.sfc_action.specs.declared.input_words.InputWords.{InputWords}
use Rattle.sfc_action.specs.declared.kept_words.KeptWords.{KeptWords}
use Rattle.sfc_action.specs.Private.Sets.{TimedSets, StoreSets, InputSets, KeptSets}
use Rattle.sfc_action.specs.Private.RowTables.{row_at}
use Rattle.sfc_action.specs.Private.SetTables.{timed_by_rows, stores_by_rows, inputs_by_rows, kept_by_rows}
use Rattle.sfc_action.specs.Private.SetTables.{timed_of, stores_of, inputs_of, kept_of}
use Rattle.sfc_action.specs.Private.SetTables.{IsTimedTable, IsStoreTable, IsInputTable, IsKeptTable}
use Rattle.sfc_action.specs.Private.TimedSets.{AreAll, none, with_action, by}
use Rattle.sfc_action.specs.Private.Storing.{AreStores, no_stores, IsKept, none_kept}
use Rattle.sfc_action.specs.Private.Marking.{AreSized, cleared, marked}
use Rattle.sfc_action.specs.Private.Marks.{timed_by, with_timed, with_input}
use Rattle.sfc_action.specs.Private.Rows.{TimedRow, StoreRow, InputRow, KeptRow, timed_row, store_row, input_row, kept_row}
use Rattle.sfc_action.specs.Private.Rows.{timed_in, stores_in, inputs_in, kept_in, no_times, no_store, no_inputs, nothing_kept}
use Rattle.sfc_action.proofs.Sizes.{all_added, all_none, sized_marked, sized_cleared, sized_stores, sized_kept}
use Rattle.sfc_action.proofs.Rows.{same_timed, same_stores, same_inputs, same_kept, none_rows, no_store_rows, cleared_rows, none_kept_rows}
use Rattle.sfc_action.proofs.RowTables.{set_length, set_flag, row_here, row_set, row_none, table_none, all_equal, table_put}

-- ---- sets by rows

timed_sized_by : (n : ℕ) (row : ℕ → TimedRow) → AreAll n (timed_by_rows n row)
timed_sized_by n row = record {
  limited = set_length n (λ a. (row a).limited);
  delayed = set_length n (λ a. (row a).delayed);
  stored_delayed = set_length n (λ a. (row a).stored_delayed);
  delayed_stored = set_length n (λ a. (row a).delayed_stored);
  stored_limited = set_length n (λ a. (row a).stored_limited);
}

timed_rows_by : (n : ℕ) (row : ℕ → TimedRow) → ((a : ℕ) → n ≤ a → row a ≡ no_times) → (a : ℕ) → timed_row (timed_by_rows n row) a ≡ row a
timed_rows_by n row blank a = λ i. record {
  limited = set_flag n (λ b. (row b).limited) (λ b le. ap (λ r. r.limited) (blank b le)) a i;
  delayed = set_flag n (λ b. (row b).delayed) (λ b le. ap (λ r. r.delayed) (blank b le)) a i;
  stored_delayed = set_flag n (λ b. (row b).stored_delayed) (λ b le. ap (λ r. r.stored_delayed) (blank b le)) a i;
  delayed_stored = set_flag n (λ b. (row b).delayed_stored) (λ b le. ap (λ r. r.delayed_stored) (blank b le)) a i;
  stored_limited = set_flag n (λ b. (row b).stored_limited) (λ b le. ap (λ r. r.stored_limited) (blank b le)) a i;
}

stores_sized_by : (n : ℕ) (row : ℕ → StoreRow) → AreStores n (stores_by_rows n row)
stores_sized_by n row = record {
  set = set_length n (λ a. (row a).set);
  stored_delayed = set_length n (λ a. (row a).stored_delayed);
  stored_limited = set_length n (λ a. (row a).stored_limited);
}

stores_rows_by : (n : ℕ) (row : ℕ → StoreRow) → ((a : ℕ) → n ≤ a → row a ≡ no_store) → (a : ℕ) → store_row (stores_by_rows n row) a ≡ row a
stores_rows_by n row blank a = λ i. record {
  set = set_flag n (λ b. (row b).set) (λ b le. ap (λ r. r.set) (blank b le)) a i;
  stored_delayed = set_flag n (λ b. (row b).stored_delayed) (λ b le. ap (λ r. r.stored_delayed) (blank b le)) a i;
  stored_limited = set_flag n (λ b. (row b).stored_limited) (λ b le. ap (λ r. r.stored_limited) (blank b le)) a i;
}

inputs_sized_by : (n : ℕ) (row : ℕ → InputRow) → AreSized n (inputs_by_rows n row)
inputs_sized_by n row = record {
  non_stored = set_length n (λ a. (row a).non_stored);
  reset = set_length n (λ a. (row a).reset);
  set = set_length n (λ a. (row a).set);
  pulse = set_length n (λ a. (row a).pulse);
  rising_pulse = set_length n (λ a. (row a).rising_pulse);
  falling_pulse = set_length n (λ a. (row a).falling_pulse);
  any_time = set_length n (λ a. (row a).any_time);
  more_times = set_length n (λ a. (row a).more_times);
  timed = timed_sized_by n (λ a. (row a).timed);
}

inputs_rows_by : (n : ℕ) (row : ℕ → InputRow) → ((a : ℕ) → n ≤ a → row a ≡ no_inputs) → (a : ℕ) → input_row (inputs_by_rows n row) a ≡ row a
inputs_rows_by n row blank a = λ i. record {
  non_stored = set_flag n (λ b. (row b).non_stored) (λ b le. ap (λ r. r.non_stored) (blank b le)) a i;
  reset = set_flag n (λ b. (row b).reset) (λ b le. ap (λ r. r.reset) (blank b le)) a i;
  set = set_flag n (λ b. (row b).set) (λ b le. ap (λ r. r.set) (blank b le)) a i;
  pulse = set_flag n (λ b. (row b).pulse) (λ b le. ap (λ r. r.pulse) (blank b le)) a i;
  rising_pulse = set_flag n (λ b. (row b).rising_pulse) (λ b le. ap (λ r. r.rising_pulse) (blank b le)) a i;
  falling_pulse = set_flag n (λ b. (row b).falling_pulse) (λ b le. ap (λ r. r.falling_pulse) (blank b le)) a i;
  any_time = set_flag n (λ b. (row b).any_time) (λ b le. ap (λ r. r.any_time) (blank b le)) a i;
  more_times = set_flag n (λ b. (row b).more_times) (λ b le. ap (λ r. r.more_times) (blank b le)) a i;
  timed = timed_rows_by n (λ b. (row b).timed) (λ b le. ap (λ r. r.timed) (blank b le)) a i;
}

kept_sized_by : (n : ℕ) (row : ℕ → KeptRow) → IsKept n (kept_by_rows n row)
kept_sized_by n row = record {
  pulse = set_length n (λ a. (row a).pulse);
  rising_pulse = set_length n (λ a. (row a).rising_pulse);
  falling_pulse = set_length n (λ a. (row a).falling_pulse);
  stores = stores_sized_by n (λ a. (row a).stores);
  delayed_stored = set_length n (λ a. (row a).delayed_stored);
}

kept_rows_by : (n : ℕ) (row : ℕ → KeptRow) → ((a : ℕ) → n ≤ a → row a ≡ nothing_kept) → (a : ℕ) → kept_row (kept_by_rows n row) a ≡ row a
kept_rows_by n row blank a = λ i. record {
  pulse = set_flag n (λ b. (row b).pulse) (λ b le. ap (λ r. r.pulse) (blank b le)) a i;
  rising_pulse = set_flag n (λ b. (row b).rising_pulse) (λ b le. ap (λ r. r.rising_pulse) (blank b le)) a i;
  falling_pulse = set_flag n (λ b. (row b).falling_pulse) (λ b le. ap (λ r. r.falling_pulse) (blank b le)) a i;
  stores = stores_rows_by n (λ b. (row b).stores) (λ b le. ap (λ r. r.stores) (blank b le)) a i;
  delayed_stored = set_flag n (λ b. (row b).delayed_stored) (λ b le. ap (λ r. r.delayed_stored) (blank b le)) a i;
}

-- ---- sets by the qualifiers with a time

pub timed_sized : (n : ℕ) (words : List TimedWords) → AreAll n (timed_of n words)
unfolding timed_of
timed_sized n words = timed_sized_by n (row_at timed_in no_times words)

pub timed_rows : (n : ℕ) (words : List TimedWords) → IsTimedTable n words → (a : ℕ) → timed_row (timed_of n words) a ≡ row_at timed_in no_times words a
unfolding timed_of
timed_rows n words t a = timed_rows_by n (row_at timed_in no_times words) t.blank a

-- the row of an action in its word
pub timed_word : (n : ℕ) (words : List TimedWords) (sets : TimedSets) → IsTimedTable n words → timed_of n words ≡ sets
    → (k a : ℕ) (d : TimedWords) → word_of a ≡ k → k < length words → timed_in (get_or words k d) a ≡ timed_row sets a
timed_word n words sets t e k a d at lt =
    sym (row_here timed_in no_times words k a d at lt) ∙ sym (timed_rows n words t a) ∙ ap (λ (s : TimedSets). timed_row s a) e

-- as many words as the sets take
pub timed_size : (n : ℕ) (words : List TimedWords) (sets : TimedSets) → IsTimedTable n words → timed_of n words ≡ sets
    → (length words ≡ div_ceil (length sets.limited) 64) × (n ≡ length sets.limited)
timed_size n words sets t e =
    let size : length sets.limited ≡ n = ap (λ (s : TimedSets). length s.limited) (sym e) ∙ (timed_sized n words).limited in
    (omega (arith, t.sized, size), sym size)

pub timed_clear : (n : ℕ) (words : List TimedWords) → length words ≡ div_ceil n 64
    → All (λ (word : TimedWords). (a : ℕ) → timed_in word a ≡ no_times) words → IsTimedTable n words × (timed_of n words ≡ none n)
timed_clear n words size all =
    let t : IsTimedTable n words = table_none timed_in no_times n words size all in (
      t,
      same_timed n (timed_of n words) (none n) (timed_sized n words) (all_none n)
          (λ a. timed_rows n words t a ∙ row_none timed_in no_times words all a ∙ sym (none_rows n a)),
    )

pub timed_new : (n : ℕ) (word : TimedWords) (words : List TimedWords) → ((a : ℕ) → timed_in word a ≡ no_times)
    → words ≡ replicate (div_ceil n 64) word → IsTimedTable n words × (timed_of n words ≡ none n)
timed_new n word words clear e = let all = all_equal timed_in no_times n word words clear e in timed_clear n words all.0 all.1

pub timed_put : (n : ℕ) (words : List TimedWords) (sets : TimedSets) (k : ℕ) (w : TimedWords) → IsTimedTable n words → timed_of n words ≡ sets → k < length words
    → ((a : ℕ) → word_of a ≡ k → n ≤ a → timed_in w a ≡ no_times) → (a : ℕ)
    → timed_row (timed_of n (slice_set words k w)) a ≡ cond (word_of a == k) (timed_in w a) (timed_row sets a)
timed_put n words sets k w t e lt past a =
    timed_rows n (slice_set words k w) (table_put timed_in no_times n words k w t lt past) a ∙ row_set timed_in no_times words k a w lt
    ∙ ap (λ r. cond (word_of a == k) (timed_in w a) r) (sym (timed_rows n words t a) ∙ ap (λ (s : TimedSets). timed_row s a) e)

-- ---- flip-flops

pub stores_sized : (n : ℕ) (words : List StoreWords) → AreStores n (stores_of n words)
unfolding stores_of
stores_sized n words = stores_sized_by n (row_at stores_in no_store words)

pub stores_rows : (n : ℕ) (words : List StoreWords) → IsStoreTable n words → (a : ℕ) → store_row (stores_of n words) a ≡ row_at stores_in no_store words a
unfolding stores_of
stores_rows n words t a = stores_rows_by n (row_at stores_in no_store words) t.blank a

-- the row of an action in its word
pub stores_word : (n : ℕ) (words : List StoreWords) (sets : StoreSets) → IsStoreTable n words → stores_of n words ≡ sets
    → (k a : ℕ) (d : StoreWords) → word_of a ≡ k → k < length words → stores_in (get_or words k d) a ≡ store_row sets a
stores_word n words sets t e k a d at lt =
    sym (row_here stores_in no_store words k a d at lt) ∙ sym (stores_rows n words t a) ∙ ap (λ (s : StoreSets). store_row s a) e

-- as many words as the sets take
pub stores_size : (n : ℕ) (words : List StoreWords) (sets : StoreSets) → IsStoreTable n words → stores_of n words ≡ sets
    → (length words ≡ div_ceil (length sets.set) 64) × (n ≡ length sets.set)
stores_size n words sets t e =
    let size : length sets.set ≡ n = ap (λ (s : StoreSets). length s.set) (sym e) ∙ (stores_sized n words).set in
    (omega (arith, t.sized, size), sym size)

pub stores_clear : (n : ℕ) (words : List StoreWords) → length words ≡ div_ceil n 64
    → All (λ (word : StoreWords). (a : ℕ) → stores_in word a ≡ no_store) words → IsStoreTable n words × (stores_of n words ≡ no_stores n)
stores_clear n words size all =
    let t : IsStoreTable n words = table_none stores_in no_store n words size all in (
      t,
      same_stores n (stores_of n words) (no_stores n) (stores_sized n words) (sized_stores n)
          (λ a. stores_rows n words t a ∙ row_none stores_in no_store words all a ∙ sym (no_store_rows n a)),
    )

pub stores_new : (n : ℕ) (word : StoreWords) (words : List StoreWords) → ((a : ℕ) → stores_in word a ≡ no_store)
    → words ≡ replicate (div_ceil n 64) word → IsStoreTable n words × (stores_of n words ≡ no_stores n)
stores_new n word words clear e = let all = all_equal stores_in no_store n word words clear e in stores_clear n words all.0 all.1

pub stores_put : (n : ℕ) (words : List StoreWords) (sets : StoreSets) (k : ℕ) (w : StoreWords) → IsStoreTable n words → stores_of n words ≡ sets → k < length words
    → ((a : ℕ) → word_of a ≡ k → n ≤ a → stores_in w a ≡ no_store) → (a : ℕ)
    → store_row (stores_of n (slice_set words k w)) a ≡ cond (word_of a == k) (stores_in w a) (store_row sets a)
stores_put n words sets k w t e lt past a =
    stores_rows n (slice_set words k w) (table_put stores_in no_store n words k w t lt past) a ∙ row_set stores_in no_store words k a w lt
    ∙ ap (λ r. cond (word_of a == k) (stores_in w a) r) (sym (stores_rows n words t a) ∙ ap (λ (s : StoreSets). store_row s a) e)

-- ---- what is kept from scan to scan

pub kept_sized : (n : ℕ) (words : List KeptWords) → IsKept n (kept_of n words)
unfolding kept_of
kept_sized n words = kept_sized_by n (row_at kept_in nothing_kept words)

pub kept_rows : (n : ℕ) (words : List KeptWords) → IsKeptTable n words → (a : ℕ) → kept_row (kept_of n words) a ≡ row_at kept_in nothing_kept words a
unfolding kept_of
kept_rows n words t a = kept_rows_by n (row_at kept_in nothing_kept words) t.blank a

-- the row of an action in its word
pub kept_word : (n : ℕ) (words : List KeptWords) (sets : KeptSets) → IsKeptTable n words → kept_of n words ≡ sets
    → (k a : ℕ) (d : KeptWords) → word_of a ≡ k → k < length words → kept_in (get_or words k d) a ≡ kept_row sets a
kept_word n words sets t e k a d at lt =
    sym (row_here kept_in nothing_kept words k a d at lt) ∙ sym (kept_rows n words t a) ∙ ap (λ (s : KeptSets). kept_row s a) e

-- as many words as the sets take
pub kept_size : (n : ℕ) (words : List KeptWords) (sets : KeptSets) → IsKeptTable n words → kept_of n words ≡ sets
    → (length words ≡ div_ceil (length sets.pulse) 64) × (n ≡ length sets.pulse)
kept_size n words sets t e =
    let size : length sets.pulse ≡ n = ap (λ (s : KeptSets). length s.pulse) (sym e) ∙ (kept_sized n words).pulse in
    (omega (arith, t.sized, size), sym size)

pub kept_clear : (n : ℕ) (words : List KeptWords) → length words ≡ div_ceil n 64
    → All (λ (word : KeptWords). (a : ℕ) → kept_in word a ≡ nothing_kept) words → IsKeptTable n words × (kept_of n words ≡ none_kept n)
kept_clear n words size all =
    let t : IsKeptTable n words = table_none kept_in nothing_kept n words size all in (
      t,
      same_kept n (kept_of n words) (none_kept n) (kept_sized n words) (sized_kept n)
          (λ a. kept_rows n words t a ∙ row_none kept_in nothing_kept words all a ∙ sym (none_kept_rows n a)),
    )

pub kept_new : (n : ℕ) (word : KeptWords) (words : List KeptWords) → ((a : ℕ) → kept_in word a ≡ nothing_kept)
    → words ≡ replicate (div_ceil n 64) word → IsKeptTable n words × (kept_of n words ≡ none_kept n)
kept_new n word words clear e = let all = all_equal kept_in nothing_kept n word words clear e in kept_clear n words all.0 all.1

pub kept_put : (n : ℕ) (words : List KeptWords) (sets : KeptSets) (k : ℕ) (w : KeptWords) → IsKeptTable n words → kept_of n words ≡ sets → k < length words
    → ((a : ℕ) → word_of a ≡ k → n ≤ a → kept_in w a ≡ nothing_kept) → (a : ℕ)
    → kept_row (kept_of n (slice_set words k w)) a ≡ cond (word_of a == k) (kept_in w a) (kept_row sets a)
kept_put n words sets k w t e lt past a =
    kept_rows n (slice_set words k w) (table_put kept_in nothing_kept n words k w t lt past) a ∙ row_set kept_in nothing_kept words k a w lt
    ∙ ap (λ r. cond (word_of a == k) (kept_in w a) r) (sym (kept_rows n words t a) ∙ ap (λ (s : KeptSets). kept_row s a) e)

-- ---- inputs

pub inputs_sized : (n : ℕ) (words : List InputWords) → AreSized n (inputs_of n words)
unfolding inputs_of
inputs_sized n words = inputs_sized_by n (row_at inputs_in no_inputs words)

pub inputs_rows : (n : ℕ) (words : List InputWords) → IsInputTable n words → (a : ℕ) → input_row (inputs_of n words) a ≡ row_at inputs_in no_inputs words a
unfolding inputs_of
inputs_rows n words t a = inputs_rows_by n (row_at inputs_in no_inputs words) t.blank a

-- the row of an action in its word
pub inputs_word : (n : ℕ) (words : List InputWords) (sets : InputSets) → IsInputTable n words → inputs_of n words ≡ sets
    → (k a : ℕ) (d : InputWords) → word_of a ≡ k → k < length words → inputs_in (get_or words k d) a ≡ input_row sets a
inputs_word n words sets t e k a d at lt =
    sym (row_here inputs_in no_inputs words k a d at lt) ∙ sym (inputs_rows n words t a) ∙ ap (λ (s : InputSets). input_row s a) e

-- as many words as the sets take
pub inputs_size : (n : ℕ) (words : List InputWords) (sets : InputSets) → IsInputTable n words → inputs_of n words ≡ sets
    → (length words ≡ div_ceil (length sets.any_time) 64) × (n ≡ length sets.any_time)
inputs_size n words sets t e =
    let size : length sets.any_time ≡ n = ap (λ (s : InputSets). length s.any_time) (sym e) ∙ (inputs_sized n words).any_time in
    (omega (arith, t.sized, size), sym size)

pub inputs_clear : (n : ℕ) (words : List InputWords) → length words ≡ div_ceil n 64
    → All (λ (word : InputWords). (a : ℕ) → inputs_in word a ≡ no_inputs) words → IsInputTable n words × (inputs_of n words ≡ cleared n)
inputs_clear n words size all =
    let t : IsInputTable n words = table_none inputs_in no_inputs n words size all in (
      t,
      same_inputs n (inputs_of n words) (cleared n) (inputs_sized n words) (sized_cleared n)
          (λ a. inputs_rows n words t a ∙ row_none inputs_in no_inputs words all a ∙ sym (cleared_rows n a)),
    )

pub inputs_new : (n : ℕ) (word : InputWords) (words : List InputWords) → ((a : ℕ) → inputs_in word a ≡ no_inputs)
    → words ≡ replicate (div_ceil n 64) word → IsInputTable n words × (inputs_of n words ≡ cleared n)
inputs_new n word words clear e = let all = all_equal inputs_in no_inputs n word words clear e in inputs_clear n words all.0 all.1

-- ---- one input more

module _ (n a b : ℕ) where
  set_here : (xs : List Bool) → length xs ≡ n → a < n → b ≡ a → flag (slice_set xs a true) b ≡ true
  set_here xs e lt same = rw same (get_or-set_same xs a true false (omega arith))

  set_there : (xs : List Bool) → (b ≡ a → ⊥) → flag (slice_set xs a true) b ≡ flag xs b
  set_there xs apart = get_or-set_other xs a b true false apart

  more_here : (m : Bool) (xs : List Bool) → length xs ≡ n → a < n → b ≡ a → flag (cond m (slice_set xs a true) xs) b ≡ cond m true (flag xs b)
  more_here true xs e lt same = set_here xs e lt same
  more_here false xs e lt same = refl

  more_there : (m : Bool) (xs : List Bool) → (b ≡ a → ⊥) → flag (cond m (slice_set xs a true) xs) b ≡ flag xs b
  more_there true xs apart = set_there xs apart
  more_there false xs apart = refl

  timed_here : (q : TimedQualifier) (sets : TimedSets) → AreAll n sets → a < n → b ≡ a
      → timed_row (with_action q a sets) b ≡ with_timed q (timed_row sets b)
  timed_here Limited sets h lt same = λ i. record (timed_row sets b) { limited = set_here sets.limited h.limited lt same i }
  timed_here Delayed sets h lt same = λ i. record (timed_row sets b) { delayed = set_here sets.delayed h.delayed lt same i }
  timed_here StoredDelayed sets h lt same = λ i. record (timed_row sets b) { stored_delayed = set_here sets.stored_delayed h.stored_delayed lt same i }
  timed_here DelayedStored sets h lt same = λ i. record (timed_row sets b) { delayed_stored = set_here sets.delayed_stored h.delayed_stored lt same i }
  timed_here StoredLimited sets h lt same = λ i. record (timed_row sets b) { stored_limited = set_here sets.stored_limited h.stored_limited lt same i }

  timed_there : (q : TimedQualifier) (sets : TimedSets) → (b ≡ a → ⊥) → timed_row (with_action q a sets) b ≡ timed_row sets b
  timed_there Limited sets apart = λ i. record (timed_row sets b) { limited = set_there sets.limited apart i }
  timed_there Delayed sets apart = λ i. record (timed_row sets b) { delayed = set_there sets.delayed apart i }
  timed_there StoredDelayed sets apart = λ i. record (timed_row sets b) { stored_delayed = set_there sets.stored_delayed apart i }
  timed_there DelayedStored sets apart = λ i. record (timed_row sets b) { delayed_stored = set_there sets.delayed_stored apart i }
  timed_there StoredLimited sets apart = λ i. record (timed_row sets b) { stored_limited = set_there sets.stored_limited apart i }

  added_row : (q : TimedQualifier) (sets : TimedSets) → AreAll n sets → a < n
      → timed_row (with_action q a sets) b ≡ cond (b == a) (with_timed q (timed_row sets b)) (timed_row sets b)
  added_row q sets h lt = elim (cases_eq b a) [
    | inl e ↦ rw (eq-eqb b a e) (timed_here q sets h lt e)
    | inr d ↦ rw (ne_eqb b a d) (timed_there q sets d)
  ]

  more_marked : (sets : InputSets) → AreSized n sets → a < n → b ≡ a
      → flag (cond (flag sets.any_time a) (slice_set sets.more_times a true) sets.more_times) b ≡ cond (flag sets.any_time b) true (flag sets.more_times b)
  more_marked sets h lt same =
      more_here (flag sets.any_time a) sets.more_times h.more_times lt same
      ∙ ap (λ c. cond (flag sets.any_time c) true (flag sets.more_times b)) (sym same)

  marked_here : (q : Qualifier) (sets : InputSets) → AreSized n sets → a < n → b ≡ a
      → input_row (marked q a sets) b ≡ with_input q (input_row sets b)
  marked_here NonStored sets h lt same = λ i. record (input_row sets b) { non_stored = set_here sets.non_stored h.non_stored lt same i }
  marked_here Reset sets h lt same = λ i. record (input_row sets b) { reset = set_here sets.reset h.reset lt same i }
  marked_here Set sets h lt same = λ i. record (input_row sets b) { set = set_here sets.set h.set lt same i }
  marked_here Pulse sets h lt same = λ i. record (input_row sets b) { pulse = set_here sets.pulse h.pulse lt same i }
  marked_here RisingPulse sets h lt same = λ i. record (input_row sets b) { rising_pulse = set_here sets.rising_pulse h.rising_pulse lt same i }
  marked_here FallingPulse sets h lt same = λ i. record (input_row sets b) { falling_pulse = set_here sets.falling_pulse h.falling_pulse lt same i }
  marked_here (Timed q time) sets h lt same = λ i. record (input_row sets b) {
    timed = timed_here q sets.timed h.timed lt same i;
    any_time = set_here sets.any_time h.any_time lt same i;
    more_times = more_marked sets h lt same i;
  }

  marked_there : (q : Qualifier) (sets : InputSets) → (b ≡ a → ⊥) → input_row (marked q a sets) b ≡ input_row sets b
  marked_there NonStored sets apart = λ i. record (input_row sets b) { non_stored = set_there sets.non_stored apart i }
  marked_there Reset sets apart = λ i. record (input_row sets b) { reset = set_there sets.reset apart i }
  marked_there Set sets apart = λ i. record (input_row sets b) { set = set_there sets.set apart i }
  marked_there Pulse sets apart = λ i. record (input_row sets b) { pulse = set_there sets.pulse apart i }
  marked_there RisingPulse sets apart = λ i. record (input_row sets b) { rising_pulse = set_there sets.rising_pulse apart i }
  marked_there FallingPulse sets apart = λ i. record (input_row sets b) { falling_pulse = set_there sets.falling_pulse apart i }
  marked_there (Timed q time) sets apart = λ i. record (input_row sets b) {
    timed = timed_there q sets.timed apart i;
    any_time = set_there sets.any_time apart i;
    more_times = more_there (flag sets.any_time a) sets.more_times apart i;
  }

  pub marked_row : (q : Qualifier) (sets : InputSets) → AreSized n sets → a < n
      → input_row (marked q a sets) b ≡ cond (b == a) (with_input q (input_row sets b)) (input_row sets b)
  marked_row q sets h lt = elim (cases_eq b a) [
    | inl e ↦ rw (eq-eqb b a e) (marked_here q sets h lt e)
    | inr d ↦ rw (ne_eqb b a d) (marked_there q sets d)
  ]

-- the word of action a is replaced by one in which it is in one set more
module _ (n a : ℕ) (q : TimedQualifier) (words : List TimedWords) (d new : TimedWords) (t : IsTimedTable n words) (lt : a < n)
    (put : (b : ℕ) → word_of b ≡ word_of a → timed_in new b
    ≡ cond (b == a) (with_timed q (timed_in (get_or words (word_of a) d) b)) (timed_in (get_or words (word_of a) d) b)) where
  timed_within : word_of a < length words
  timed_within = omega (arith, t.sized, lt)

  timed_row_put : (b : ℕ) → row_at timed_in no_times (slice_set words (word_of a) new) b
      ≡ cond (b == a) (with_timed q (row_at timed_in no_times words b)) (row_at timed_in no_times words b)
  timed_row_put b = row_set timed_in no_times words (word_of a) b new timed_within ∙ elim (cases_eq (word_of b) (word_of a)) [
    | inl e ↦ rw (eq-eqb (word_of b) (word_of a) e)
        (put b e ∙ ap (λ r. cond (b == a) (with_timed q r) r) (sym (row_here timed_in no_times words (word_of a) b d e timed_within)))
    | inr apart ↦ (let other : (b == a) ≡ false = ne_eqb b a (λ same. apart (ap word_of same)) in
        rw (ne_eqb (word_of b) (word_of a) apart, other) refl)
  ]

  pub timed_more_table : IsTimedTable n (slice_set words (word_of a) new)
  timed_more_table = record {
    sized = length-set words (word_of a) new ∙ t.sized;
    blank = λ b le. timed_row_put b ∙ rw (ne_eqb b a (λ same. omega (arith, same, le, lt))) (t.blank b le);
  }

  pub timed_more : timed_of n (slice_set words (word_of a) new) ≡ with_action q a (timed_of n words)
  timed_more =
      same_timed n (timed_of n (slice_set words (word_of a) new)) (with_action q a (timed_of n words)) (timed_sized n (slice_set words (word_of a) new))
      (all_added n q a (timed_of n words) (timed_sized n words))
      (λ b. timed_rows n (slice_set words (word_of a) new) timed_more_table b ∙ timed_row_put b
      ∙ ap (λ r. cond (b == a) (with_timed q r) r) (sym (timed_rows n words t b))
      ∙ sym (added_row n a b q (timed_of n words) (timed_sized n words) lt))

-- the same of inputs
module _ (n a : ℕ) (q : Qualifier) (words : List InputWords) (d new : InputWords) (t : IsInputTable n words) (lt : a < n)
    (put : (b : ℕ) → word_of b ≡ word_of a → inputs_in new b
    ≡ cond (b == a) (with_input q (inputs_in (get_or words (word_of a) d) b)) (inputs_in (get_or words (word_of a) d) b)) where
  inputs_within : word_of a < length words
  inputs_within = omega (arith, t.sized, lt)

  inputs_row_put : (b : ℕ) → row_at inputs_in no_inputs (slice_set words (word_of a) new) b
      ≡ cond (b == a) (with_input q (row_at inputs_in no_inputs words b)) (row_at inputs_in no_inputs words b)
  inputs_row_put b = row_set inputs_in no_inputs words (word_of a) b new inputs_within ∙ elim (cases_eq (word_of b) (word_of a)) [
    | inl e ↦ rw (eq-eqb (word_of b) (word_of a) e)
        (put b e ∙ ap (λ r. cond (b == a) (with_input q r) r) (sym (row_here inputs_in no_inputs words (word_of a) b d e inputs_within)))
    | inr apart ↦ (let other : (b == a) ≡ false = ne_eqb b a (λ same. apart (ap word_of same)) in
        rw (ne_eqb (word_of b) (word_of a) apart, other) refl)
  ]

  pub inputs_more_table : IsInputTable n (slice_set words (word_of a) new)
  inputs_more_table = record {
    sized = length-set words (word_of a) new ∙ t.sized;
    blank = λ b le. inputs_row_put b ∙ rw (ne_eqb b a (λ same. omega (arith, same, le, lt))) (t.blank b le);
  }

  pub inputs_more : inputs_of n (slice_set words (word_of a) new) ≡ marked q a (inputs_of n words)
  inputs_more =
      same_inputs n (inputs_of n (slice_set words (word_of a) new)) (marked q a (inputs_of n words)) (inputs_sized n (slice_set words (word_of a) new))
      (sized_marked n q a (inputs_of n words) (inputs_sized n words))
      (λ b. inputs_rows n (slice_set words (word_of a) new) inputs_more_table b ∙ inputs_row_put b
      ∙ ap (λ r. cond (b == a) (with_input q r) r) (sym (inputs_rows n words t b))
      ∙ sym (marked_row n a b q (inputs_of n words) (inputs_sized n words) lt))

-- an input with a time, in a row and in the sets
pub timed_flag : (q : TimedQualifier) (sets : TimedSets) (a : ℕ) → timed_by q (timed_row sets a) ≡ flag (by q sets) a
timed_flag Limited sets a = refl
timed_flag Delayed sets a = refl
timed_flag StoredDelayed sets a = refl
timed_flag DelayedStored sets a = refl
timed_flag StoredLimited sets a = refl
