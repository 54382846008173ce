use Rattle.std.proofs.Common.{◌≡◌, ◌∙◌, ℕ, ℤ, Option, Some, None, Err, w64, SFits, to_z-of_z, rules}
use Rattle.std.specs.Prelude.{unwrap_or}
use Rattle.sfc_events.specs.declared.command.Command.TheVariants.{BreakIf}
use Rattle.sfc_events.specs.declared.refusal.Refusal.{Refusal}
use Rattle.sfc_core.specs.Verdict.{or_then}
use Rattle.sfc_debug.specs.declared.run_clock.RunClock.{RunClock}
use Rattle.sfc_debug.specs.Agreement.{Agrees, plant_of, table_of}
use Rattle.sfc_debug.specs.Private.Ranges.{granted}
use Rattle.sfc_debug.specs.RunClock.{run_instant}
use Rattle.sfc_debug.specs.Verdict.{end_refusal, clock_refusal, unnumbered}
use Rattle.sfc_debug.proofs.debugger.Debugger.refuse_unnumbered.Goals as goal

-- what is refused is the refusal
first : (refusal : Option Refusal) (t : ℤ) (why other : Refusal) → Err why ≡ granted refusal t → why ≡ unwrap_or refusal other
first (Some r) t why other is = search rules
first None t why other is = search rules

pub returns-in-Err : goal.returns-in-Err
unfolding Agrees plant_of table_of
returns-in-Err c h a =
    let s = c.args.self.now in
    let fits : SFits w64 c.args.raw = c.ranges.raw in
    let command = BreakIf c.args.program c.args.point (record { 0 = 0 }) in
    let other : Refusal = unnumbered (plant_of s) c.args.program c.args.point in
    let refused : RunClock → ℕ → Option Refusal =
    λ clock count. or_then (end_refusal clock.mode count) (clock_refusal clock command c.args.raw) in
    let t = run_instant s.clock command c.args.raw in
    let is : Err c.in-Err.refusal ≡ granted (refused s.clock s.accepted) t = simp (to_z-of_z, fits) at c.in-Err.ensures.value in
    first (refused s.clock s.accepted) t c.in-Err.refusal other is
    ∙ (λ i. unwrap_or (refused (a.clock i) (a.accepted i)) other)
