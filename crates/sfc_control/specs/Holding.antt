-- Which entries of a list are held: those since the latest epoch, which is the first of them.
use Rattle.std.specs.Prelude.{ℕ, ◌+◌, ◌-◌, ◌==◌, nat_le, Bool, List, [], ◌∷◌, ◌++◌, count_by, length, reverse}
use Rattle.sfc_events.specs.declared.command.Command.{Command}
use Rattle.sfc_events.specs.declared.command.Command.TheVariants.{Epoch}
use Rattle.sfc_control.specs.declared.entry.Entry.{Entry}

-- how many are held of so many, where the first has this index
abbrev pub held_number : ℕ → ℕ → ℕ
held_number first count = count + 1 - first

-- No entry more may be held. An epoch needs no room beside the others, since these are dropped.
abbrev pub is_full : ℕ → ℕ → Command → Bool
is_full limit held Epoch = limit == 0
is_full limit held _ = nat_le limit held

-- what is held after an accepted command, whose entry stands at this index
abbrev pub held_after : Command → List Entry → Entry → List Entry
held_after Epoch es e = e ∷ []
held_after _ es e = es ++ e ∷ []

abbrev pub first_after : Command → ℕ → ℕ → ℕ
first_after Epoch first index = index
first_after _ first index = first

-- Where a history is cut, its entries the newest first: at its latest epoch, whose index is one more than there are entries before it; at 1
-- where it has none.
abbrev pub first_newest : List Entry → ℕ
first_newest [] = 1
first_newest (e ∷ es) = first_after e.command (first_newest es) (length es + 1)

-- Where a history is cut, its entries the oldest first: the index of the first entry that is held.
unfoldable pub first_in : List Entry → ℕ
first_in es = first_newest (reverse es)

-- how many entries stand under a seat's number
abbrev pub calls_in : List Entry → ℕ → ℕ
calls_in es number = count_by (λ e. e.seat == number) es
