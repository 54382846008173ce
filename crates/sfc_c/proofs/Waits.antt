-- Breakpoints that wait for what a text is.
use Rattle.std.proofs.Common.{◌≡◌, subst, ℕ, ℤ, List, Option, inl}
use Rattle.sfc_base.specs.declared.ids.ProgId.{ProgId}
use Rattle.sfc_events.specs.declared.command.Point.{Point}
use Rattle.sfc_replay.specs.sfc_debug.declared.break_condition.BreakCondition.{BreakCondition}
use Rattle.sfc_replay.specs.sfc_debug.Histories.{CommandHistory}
use Rattle.sfc_replay.specs.sfc_debug.Steered.{Steered}
use Rattle.sfc_replay.specs.sfc_script.Scripts.{ConditionReads}
use Rattle.sfc_c.specs.declared.plc.Plc.{Plc}
use Rattle.sfc_c.specs.declared.waiting.Found.{Found}
use Rattle.sfc_c.specs.Waiting.{Sets, WaitsOr, added_by}

-- what the text was found to be adds this, and that is what the breakpoint waits for
pub sets_found : (s : Steered) (h : CommandHistory) (p : ProgId) (placed : Point × ℤ) (text : List ℕ) (found : Found)
    (added : Option (List BreakCondition)) (new : Option Plc) (result : ℤ) → added_by found ≡ added
    → ConditionReads s.plant 0 p text (added_by found) → WaitsOr s h p placed added new result → Sets s h p placed text new result
sets_found s h p placed text found added new result e reads waits =
    inl (added, subst (λ (a : Option (List BreakCondition)). ConditionReads s.plant 0 p text a) e reads, waits)
