-- What contracts see of a history.
use Rattle.std.specs.Prelude.{ℕ, List}
use Rattle.sfc_control.specs.declared.entry.Entry.{Entry}
use Rattle.sfc_control.specs.declared.history.History.{History}

-- all entries since the first, the oldest first, also those that were dropped since
abbrev pub whole : History → List Entry
whole history = history.accepted.entries

-- those that are held
abbrev pub held : History → List Entry
held history = history.entries.items

-- the index of the first that is held, where the first of all has index 1
abbrev pub first_of : History → ℕ
first_of history = history.first

abbrev pub limit_of : History → ℕ
limit_of history = history.limit
