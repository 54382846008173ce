use Rattle.std.proofs.Common.{◌≡◌, ◌<◌, ◌≤◌, ◌+◌, ◌-◌, ℕ, drop, length, false, true}
use Rattle.sfc_flags.specs.Flags.{flag, places_from}
use Rattle.sfc_evolve.specs.Agreement.{StepsAgree}
use Rattle.sfc_evolve.specs.Private.Proposing.{at_places}
use Rattle.sfc_instance.specs.Life.{Life, evolution_scans}
use Rattle.sfc_instance.specs.ProgramScan.{condition_fault, condition_flag}
use Rattle.sfc_instance.specs.Work.{condition_work}
use Rattle.sfc_instance.specs.Private.Evaluating.{is_among}
use Rattle.sfc_instance.specs.Private.Holding.{AreHeld, IsReady}
use Rattle.sfc_instance.proofs.conditions.evaluate_all.Given as goal

abbrev pub invariant-candidates : goal.invariant-candidates
invariant-candidates g l =
    let tables = l.context.tables.now in
    let chart = l.context.chart.now in
    let env = g.V.View.environment l.view in
    record {
      len : length l.conditions ≡ length l.initial.conditions;
      faults : (life : Life) → StepsAgree tables l.steps (evolution_scans life) →
          condition_fault tables chart env life tables.ranked
          ≡ condition_fault tables chart env life (at_places tables.ranked (places_from l.candidates l.at));
      flags : (life : Life) → StepsAgree tables l.steps (evolution_scans life) → (tr : ℕ) → tr < length tables.sides →
          is_among (at_places tables.ranked (places_from l.candidates l.at)) tr ≡ false →
          flag l.conditions tr ≡ condition_flag tables chart env life tr;
      sound : (life : Life) → StepsAgree tables l.steps (evolution_scans life) → (tr : ℕ) → flag l.conditions tr ≡ true →
          condition_flag tables chart env life tr ≡ true;
      held : AreHeld (length l.initial.conditions) l.holding l.conditions;
      ready : IsReady tables l.steps l.holding;
      within : l.at ≤ length l.candidates;
      rises : l.initial.ticks.count ≤ l.ticks.count;
      ticks : l.ticks.count + condition_work tables chart (drop l.at tables.ranked)
          ≤ l.initial.ticks.count + condition_work tables chart tables.ranked;
    }

abbrev pub decreases-candidates : goal.decreases-candidates
decreases-candidates g l = length l.candidates - l.at
