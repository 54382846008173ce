-- The on-delays that have their input.
use Rattle.std.specs.Prelude.{ℕ, ◌≡◌, ◌<◌, Bool, true, ◌||◌, List, length, slice_index_or}
use Rattle.sfc_base.specs.declared.qualifier.TimedQualifier.{TimedQualifier}
use Rattle.sfc_flags.specs.Flags.{flag}
use Rattle.sfc_action.specs.declared.inputs.Inputs.{Inputs}
use Rattle.sfc_action.specs.declared.stores.Stores.{Stores}
use Rattle.sfc_action.specs.declared.blocks.Block.{Block}
use Rattle.sfc_action.specs.Private.Delays.{input_of}
use Rattle.sfc_action.specs.Private.Rows.{InputRow, StoreRow}

-- an action with these inputs and flip-flops has an on-delay that has its input
abbrev pub called_of : InputRow → StoreRow → Bool
called_of i s = i.timed.limited || i.timed.delayed || i.timed.delayed_stored || s.stored_delayed || s.stored_limited

-- each action with an on-delay that has its input is among these
abbrev pub AreCalled : Inputs → Stores → List Bool → Type 0
AreCalled inputs stores called =
    (qualifier : TimedQualifier) (a : ℕ) → flag (input_of qualifier inputs stores) a ≡ true → flag called a ≡ true

-- those that have their input are live
abbrev pub AreAwake : Inputs → Stores → List Block → List Bool → Type 0
AreAwake inputs stores blocks live = (k : ℕ) (d : Block) → k < length blocks →
    let block = slice_index_or blocks k d in flag (input_of block.qualifier inputs stores) block.action.0 ≡ true → flag live k ≡ true
