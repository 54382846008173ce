-- What is done with an image (2.4). Changes are listed newest first.
use Rattle.std.specs.Prelude.{List, [], ◌∷◌, ◌++◌, Option, Some, None}
use Rattle.sfc_base.specs.declared.ids.VarId.{VarId}
use Rattle.sfc_base.specs.declared.ids.ProgId.{ProgId}
use Rattle.sfc_base.specs.declared.value.Value.{Value}

pub data Change : Type 0 where
  -- the variable is given a value
  Stored : VarId → Value → Change
  -- the variable is forced: it reads this value until it is released
  Forced : VarId → Value → Change
  Released : VarId → Change
  -- the locals of the instance begin anew
  Reset : ProgId → Change

-- What was done: what is committed, and, where a transaction is open, what was done since it was opened, which may
-- still be undone.
pub record Changes : Type 0 where
  pub committed : List Change
  pub tried : Option (List Change)

-- no transaction is open
abbrev pub settled : List Change → Changes
settled committed = record { committed = committed; tried = None }

-- a transaction is open
abbrev pub trying : List Change → List Change → Changes
trying committed tried = record { committed = committed; tried = Some tried }

abbrev pub changes_in : Option (List Change) → List Change
changes_in None = []
changes_in (Some tried) = tried

-- what was done since the transaction was opened
abbrev pub tried_of : Changes → List Change
tried_of changes = changes_in changes.tried

-- all that was done, what is tried included
abbrev pub all_of : Changes → List Change
all_of changes = tried_of changes ++ changes.committed

abbrev pub tried_more : Change → Option (List Change) → List Change → Changes
tried_more change None committed = settled (change ∷ committed)
tried_more change (Some tried) committed = trying committed (change ∷ tried)

-- one change more; an open transaction takes it
abbrev pub with_change : Change → Changes → Changes
with_change change changes = tried_more change changes.tried changes.committed
