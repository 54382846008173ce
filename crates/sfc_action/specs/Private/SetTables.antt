-- How words hold sets of actions.
use Rattle.std.specs.Prelude.{ℕ, List}
use Rattle.sfc_action.specs.declared.timed_words.TimedWords.{TimedWords}
use Rattle.sfc_action.specs.declared.store_words.StoreWords.{StoreWords}
use Rattle.sfc_action.specs.declared.input_words.InputWords.{InputWords}
use Rattle.sfc_action.specs.declared.kept_words.KeptWords.{KeptWords}
use Rattle.sfc_action.specs.Private.Sets.{TimedSets, StoreSets, InputSets, KeptSets}
use Rattle.sfc_action.specs.Private.WordRows.{TimedRow, StoreRow, InputRow, KeptRow, timed_in, stores_in, inputs_in, kept_in}
use Rattle.sfc_action.specs.Private.WordRows.{no_times, no_store, no_inputs, nothing_kept}
use Rattle.sfc_action.specs.Private.RowTables.{row_at, IsTable, set_of}

-- ---- the sets of n actions with these rows

abbrev pub timed_by_rows : ℕ → (ℕ → TimedRow) → TimedSets
timed_by_rows n row = record {
  limited = set_of n (λ a. (row a).limited);
  delayed = set_of n (λ a. (row a).delayed);
  stored_delayed = set_of n (λ a. (row a).stored_delayed);
  delayed_stored = set_of n (λ a. (row a).delayed_stored);
  stored_limited = set_of n (λ a. (row a).stored_limited);
}

abbrev pub stores_by_rows : ℕ → (ℕ → StoreRow) → StoreSets
stores_by_rows n row = record {
  set = set_of n (λ a. (row a).set);
  stored_delayed = set_of n (λ a. (row a).stored_delayed);
  stored_limited = set_of n (λ a. (row a).stored_limited);
}

abbrev pub inputs_by_rows : ℕ → (ℕ → InputRow) → InputSets
inputs_by_rows n row = record {
  non_stored = set_of n (λ a. (row a).non_stored);
  reset = set_of n (λ a. (row a).reset);
  set = set_of n (λ a. (row a).set);
  pulse = set_of n (λ a. (row a).pulse);
  rising_pulse = set_of n (λ a. (row a).rising_pulse);
  falling_pulse = set_of n (λ a. (row a).falling_pulse);
  any_time = set_of n (λ a. (row a).any_time);
  more_times = set_of n (λ a. (row a).more_times);
  timed = timed_by_rows n (λ a. (row a).timed);
}

abbrev pub kept_by_rows : ℕ → (ℕ → KeptRow) → KeptSets
kept_by_rows n row = record {
  pulse = set_of n (λ a. (row a).pulse);
  rising_pulse = set_of n (λ a. (row a).rising_pulse);
  falling_pulse = set_of n (λ a. (row a).falling_pulse);
  stores = stores_by_rows n (λ a. (row a).stores);
  delayed_stored = set_of n (λ a. (row a).delayed_stored);
}

-- ---- and with these words

abbrev pub IsTimedTable : ℕ → List TimedWords → Type 0
IsTimedTable n words = IsTable timed_in no_times n words

abbrev pub IsStoreTable : ℕ → List StoreWords → Type 0
IsStoreTable n words = IsTable stores_in no_store n words

abbrev pub IsInputTable : ℕ → List InputWords → Type 0
IsInputTable n words = IsTable inputs_in no_inputs n words

abbrev pub IsKeptTable : ℕ → List KeptWords → Type 0
IsKeptTable n words = IsTable kept_in nothing_kept n words

unfoldable pub timed_of : ℕ → List TimedWords → TimedSets
timed_of n words = timed_by_rows n (row_at timed_in no_times words)

unfoldable pub stores_of : ℕ → List StoreWords → StoreSets
stores_of n words = stores_by_rows n (row_at stores_in no_store words)

unfoldable pub inputs_of : ℕ → List InputWords → InputSets
inputs_of n words = inputs_by_rows n (row_at inputs_in no_inputs words)

unfoldable pub kept_of : ℕ → List KeptWords → KeptSets
kept_of n words = kept_by_rows n (row_at kept_in nothing_kept words)
