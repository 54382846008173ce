-- Which on-delays there are.
use Rattle.std.specs.Prelude.{ℕ, ◌≡◌, ◌+◌, ◌<◌, ◌≤◌, false, List, [], length, map, All}
use Rattle.std.specs.List.{list_any}
use Rattle.sfc_base.specs.declared.qualifier.TimedQualifier.{TimedQualifier}
use Rattle.sfc_flags.specs.Flags.{flag}
use Rattle.sfc_timers.specs.Agreement.{OnDelayAgrees}
use Rattle.sfc_tables.specs.declared.step_action.StepAction.{StepAction}
use Rattle.sfc_action.specs.declared.timed.Timed.{Timed}
use Rattle.sfc_action.specs.declared.blocks.Block.{Block}
use Rattle.sfc_action.specs.Private.DelayLists.{with_delays}
use Rattle.sfc_action.specs.Private.TimedSets.{AreAll, by}
use Rattle.sfc_action.specs.Private.Delays.{AreOf}
use Rattle.sfc_action.specs.Private.Keeping.{delay_of, is_of, IsCovered}

-- an on-delay that has seen no call
pub record IsNew (block : Block) : Type 0 where
  pub delay : OnDelayAgrees block.delay []
  pub elapsed : block.elapsed ≡ false

-- the on-delays so far, of n actions; `seen` tells which those are
pub record IsListing (n : ℕ) (seen : Timed) (blocks : List Block) : Type 0 where
  pub sized : AreAll n seen
  pub actions : AreOf n blocks
  pub listed : (qualifier : TimedQualifier) (a : ℕ) → a < n
      → flag (by qualifier seen) a ≡ list_any (is_of a qualifier) blocks
  pub fresh : All IsNew blocks

-- by one at most, and no on-delay is gone
pub record IsLonger (old new : List Block) : Type 0 where
  pub few : length new ≤ length old + 1
  pub covered : (x : StepAction) → IsCovered old x → IsCovered new x

-- all on-delays of these associations
pub record IsList (n : ℕ) (associations : List StepAction) (blocks : List Block) : Type 0 where
  pub actions : AreOf n blocks
  pub few : length blocks ≤ length associations
  pub delays : map delay_of blocks ≡ with_delays [] associations
  pub covered : All (IsCovered blocks) associations
  pub fresh : All IsNew blocks
