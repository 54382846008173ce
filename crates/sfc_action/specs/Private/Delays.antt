-- On-delays of actions.
use Rattle.std.specs.Prelude.{ℕ, ◌≡◌, ◌<◌, Bool, cond, List, [], ◌∷◌, length, slice_index_or, All, ℤ, pos}
use Rattle.sfc_base.specs.declared.qualifier.TimedQualifier.{TimedQualifier}
use Rattle.sfc_base.specs.declared.qualifier.TimedQualifier.TheVariants.{Limited, Delayed, StoredDelayed}
use Rattle.sfc_base.specs.declared.qualifier.TimedQualifier.TheVariants.{DelayedStored, StoredLimited}
use Rattle.sfc_flags.specs.Flags.{flag}
use Rattle.sfc_timers.specs.Timers.{Reading, has_elapsed}
use Rattle.sfc_timers.specs.Agreement.{OnDelayAgrees}
use Rattle.sfc_action.specs.declared.timed.Timed.{Timed}
use Rattle.sfc_action.specs.declared.inputs.Inputs.{Inputs}
use Rattle.sfc_action.specs.declared.stores.Stores.{Stores}
use Rattle.sfc_action.specs.declared.blocks.Block.{Block}
use Rattle.sfc_action.specs.Private.TimedSets.{with_action}

-- the actions whose on-delay by this qualifier has its input
abbrev pub input_of : TimedQualifier → Inputs → Stores → List Bool
input_of Limited inputs stores = inputs.timed.limited
input_of Delayed inputs stores = inputs.timed.delayed
input_of DelayedStored inputs stores = inputs.timed.delayed_stored
input_of StoredDelayed inputs stores = stores.stored_delayed
input_of StoredLimited inputs stores = stores.stored_limited

abbrev pub preset_of : Inputs → List ℤ → ℕ → ℤ
preset_of inputs presets a = cond (flag inputs.any_time a) (slice_index_or presets a (pos 0)) (pos 0)

-- the on-delay was called with this input, PT and instant
pub record IsStepped (input : Bool) (pt t : ℤ) (old new : Block) : Type 0 where
  pub action : new.action ≡ old.action
  pub qualifier : new.qualifier ≡ old.qualifier
  pub agrees : (h : List Reading) → OnDelayAgrees old.delay h → OnDelayAgrees new.delay ((input, pt, t) ∷ h)
  pub answer : (h : List Reading) → OnDelayAgrees old.delay h → new.elapsed ≡ has_elapsed ((input, pt, t) ∷ h)

-- each was called with what its action has
abbrev pub AreStepped : Inputs → Stores → List ℤ → ℤ → List Block → List Block → Type 0
AreStepped inputs stores presets t old new = (k : ℕ) (d : Block) → k < length old →
    let block = slice_index_or old k d in
    IsStepped (flag (input_of block.qualifier inputs stores) block.action.0) (preset_of inputs presets block.action.0) t
    block (slice_index_or new k d)

-- each is of one of n actions
abbrev pub AreOf : ℕ → List Block → Type 0
AreOf n blocks = All (λ (block : Block). block.action.0 < n) blocks

-- the sets with the actions whose on-delays have elapsed
abbrev pub gathered : List Block → Timed → Timed
gathered [] sets = sets
gathered (block ∷ blocks) sets =
    gathered blocks (cond block.elapsed (with_action block.qualifier block.action.0 sets) sets)
