use Rattle.std.proofs.Common.{rules, ◌≡◌, ◌∙◌, sym, ap, subst, true, false, ℕ, ℤ, List, Option, Some, None, w64, SFits, to_z, of_z, to_z-of_z}
use Rattle.std.specs.Prelude.{IfNone}
use Rattle.sfc_replay.specs.sfc_debug.Steered.{Steered}
use Rattle.sfc_cases.specs.declared.joined.Condition.{Condition}
use Rattle.sfc_judge.specs.declared.given.Given.{Given}
use Rattle.sfc_cases.specs.declared.line.Line.{Line}
use Rattle.sfc_judge.specs.Moments.{Moment, Step, behind_step}
use Rattle.sfc_judge.specs.Running.Benches.{GivesStep, IsGiven, Stands, steered_in}
use Rattle.sfc_judge.specs.Running.Cases.{lines_in}
use Rattle.sfc_judge.specs.Running.Watching.{ChecksStep, Held, Runs, held_in, run_end}
use Rattle.sfc_judge.specs.Scans.{is_met, next_step, step_wanted}
use Rattle.sfc_judge.proofs.Running.{breaks, ends_by, ends_here, goes_on, met_end, met_if, none_given, some_given, stands_by, stops, unwanted, wanted}
use Rattle.sfc_judge.proofs.judge.run.Goals as goal

pub returns-then-is_met-clause-runs : goal.returns-then-is_met-clause-runs
returns-then-is_met-clause-runs c = λ m stands.
    let st : Steered = steered_in c.args.bench.now in
    let fits : SFits w64 c.args.limit = search rules in
    let limit : ℤ = to_z w64 (of_z w64 c.args.limit) in
    let until : Option Condition = c.args.until.now in
    let lines : List Line = lines_in c.args.behind in
    let old : List Held = held_in c.args.pending.now in
    let now : List Held = held_in c.scans.pending in
    let k : ℕ = c.scans._scan in
    let running = c.scans.invariant.running m stands in
    let at : Moment = running.0 in
    let same = c.scans.invariant.steered in
    let met : c.is_met.result ≡ is_met st until at = c.is_met.ensures at running.1 ∙ ap (λ (s : Steered). is_met s until at) same in
    let is : is_met st until at ≡ true = sym met ∙ c.if-is_met.true in
    subst (λ (l : ℤ). Runs {X = ℕ} st until l m lines old now None) (to_z-of_z fits)
    (stops st until limit m lines old now k at running.2 (unwanted st until limit at is) c.scans-test.true (met_if st until at is))

pub returns-then-is_met-clause-stands : goal.returns-then-is_met-clause-stands
returns-then-is_met-clause-stands c = λ m stands.
    let st : Steered = steered_in c.args.bench.now in
    let fits : SFits w64 c.args.limit = search rules in
    let limit : ℤ = to_z w64 (of_z w64 c.args.limit) in
    let until : Option Condition = c.args.until.now in
    let lines : List Line = lines_in c.args.behind in
    let old : List Held = held_in c.args.pending.now in
    let now : List Held = held_in c.scans.pending in
    let k : ℕ = c.scans._scan in
    let running = c.scans.invariant.running m stands in
    let at : Moment = running.0 in
    let same = c.scans.invariant.steered in
    let met : c.is_met.result ≡ is_met st until at = c.is_met.ensures at running.1 ∙ ap (λ (s : Steered). is_met s until at) same in
    let is : is_met st until at ≡ true = sym met ∙ c.if-is_met.true in
    let ends = ends_here st until limit m lines old now k at running.2 (unwanted st until limit at is) in
    subst (λ (l : ℤ). Stands c.scans.bench (run_end st until l m)) (to_z-of_z fits)
    (subst (λ (x : Moment). Stands c.scans.bench x) (sym (met_end st until limit m at is ends)) running.1)

pub returns-in_default-clause-runs : goal.returns-in_default-clause-runs
returns-in_default-clause-runs c = λ m stands.
    let st : Steered = steered_in c.args.bench.now in
    let fits : SFits w64 c.args.limit = search rules in
    let limit : ℤ = to_z w64 (of_z w64 c.args.limit) in
    let until : Option Condition = c.args.until.now in
    let lines : List Line = lines_in c.args.behind in
    let old : List Held = held_in c.args.pending.now in
    let now : List Held = held_in c.scans.pending in
    let k : ℕ = c.scans._scan in
    let running = c.scans.invariant.running m stands in
    let at : Moment = running.0 in
    let same = c.scans.invariant.steered in
    let met : c.is_met.result ≡ is_met st until at = c.is_met.ensures at running.1 ∙ ap (λ (s : Steered). is_met s until at) same in
    let unmet : is_met st until at ≡ false = sym met ∙ c.if-is_met.false in
    let given : GivesStep st at (next_step st limit at) None c.next.new.self =
    subst (λ (r : Option Given). GivesStep st at (next_step st limit at) r c.next.new.self) c.in_default.is
    (subst (λ (s : Steered). GivesStep s at (next_step s limit at) c.next.result c.next.new.self) same (c.next.ensures.gives at running.1)) in
    let none = none_given st at (next_step st limit at) c.next.new.self given in
    let ended : step_wanted st until limit at ≡ None = wanted st until limit at unmet ∙ none.0 in
    subst (λ (l : ℤ). Runs st until l m lines old now c.end.result) (to_z-of_z fits)
    (ends_by st until limit m lines old now k at running.2 ended c.scans-test.true unmet c.end.result c.end.ensures.wrong)

pub returns-in_default-clause-stands : goal.returns-in_default-clause-stands
returns-in_default-clause-stands c = λ m stands.
    let st : Steered = steered_in c.args.bench.now in
    let fits : SFits w64 c.args.limit = search rules in
    let limit : ℤ = to_z w64 (of_z w64 c.args.limit) in
    let until : Option Condition = c.args.until.now in
    let lines : List Line = lines_in c.args.behind in
    let old : List Held = held_in c.args.pending.now in
    let now : List Held = held_in c.scans.pending in
    let k : ℕ = c.scans._scan in
    let running = c.scans.invariant.running m stands in
    let at : Moment = running.0 in
    let same = c.scans.invariant.steered in
    let met : c.is_met.result ≡ is_met st until at = c.is_met.ensures at running.1 ∙ ap (λ (s : Steered). is_met s until at) same in
    let unmet : is_met st until at ≡ false = sym met ∙ c.if-is_met.false in
    let given : GivesStep st at (next_step st limit at) None c.next.new.self =
    subst (λ (r : Option Given). GivesStep st at (next_step st limit at) r c.next.new.self) c.in_default.is
    (subst (λ (s : Steered). GivesStep s at (next_step s limit at) c.next.result c.next.new.self) same (c.next.ensures.gives at running.1)) in
    let none = none_given st at (next_step st limit at) c.next.new.self given in
    let ended : step_wanted st until limit at ≡ None = wanted st until limit at unmet ∙ none.0 in
    let ends = ends_here st until limit m lines old now k at running.2 ended in
    subst (λ (l : ℤ). IfNone c.end.result (Stands c.end.new.bench (run_end st until l m))) (to_z-of_z fits)
    (stands_by st until limit m at c.end.new.bench ends c.end.result c.end.ensures.wrong (c.end.ensures.stands at none.1))

pub returns-in-Some-check-clause-runs : goal.returns-in-Some-check-clause-runs
returns-in-Some-check-clause-runs c = λ m stands.
    let st : Steered = steered_in c.args.bench.now in
    let fits : SFits w64 c.args.limit = search rules in
    let limit : ℤ = to_z w64 (of_z w64 c.args.limit) in
    let until : Option Condition = c.args.until.now in
    let lines : List Line = lines_in c.args.behind in
    let old : List Held = held_in c.args.pending.now in
    let now : List Held = held_in c.scans.pending in
    let k : ℕ = c.scans._scan in
    let running = c.scans.invariant.running m stands in
    let at : Moment = running.0 in
    let same = c.scans.invariant.steered in
    let met : c.is_met.result ≡ is_met st until at = c.is_met.ensures at running.1 ∙ ap (λ (s : Steered). is_met s until at) same in
    let unmet : is_met st until at ≡ false = sym met ∙ c.if-is_met.false in
    let given : GivesStep st at (next_step st limit at) (Some c.in-Some.given) c.next.new.self =
    subst (λ (r : Option Given). GivesStep st at (next_step st limit at) r c.next.new.self) c.in-Some.is
    (subst (λ (s : Steered). GivesStep s at (next_step s limit at) c.next.result c.next.new.self) same (c.next.ensures.gives at running.1)) in
    let some = some_given st at (next_step st limit at) c.in-Some.given c.next.new.self given in
    let step : Step = some.0 in
    let goes : step_wanted st until limit at ≡ Some step = wanted st until limit at unmet ∙ some.1 in
    let now_same = c.next.ensures.steered ∙ same in
    let checks : ChecksStep st at step lines now (held_in c.check.new.pending) c.check.result =
    subst (λ (s : Steered). ChecksStep s at step lines now (held_in c.check.new.pending) c.check.result) now_same
    (c.check.ensures at step (subst (λ (s : Steered). IsGiven s at step.timed c.in-Some.given) (sym now_same) some.2.0)
    (subst (λ (s : Steered). Stands c.next.new.self (behind_step s at step)) (sym now_same) some.2.1)) in
    subst (λ (l : ℤ). Runs st until l m lines old (held_in c.check.new.pending) (Some c.in-Some-check.wrong)) (to_z-of_z fits)
    (breaks st until limit m lines old now k at running.2 step (held_in c.check.new.pending) c.scans-test.true goes c.in-Some-check.wrong
    (subst (λ w. ChecksStep st at step lines now (held_in c.check.new.pending) w) c.in-Some-check.is checks))

pub scans-preserved : goal.scans-preserved
scans-preserved c = record {
  ready = λ r. c.next.ensures.ready (c.scans.invariant.ready r);
  steered = c.next.ensures.steered ∙ c.scans.invariant.steered;
  running = λ m stands.
      let st : Steered = steered_in c.args.bench.now in
      let fits : SFits w64 c.args.limit = search rules in
      let limit : ℤ = to_z w64 (of_z w64 c.args.limit) in
      let until : Option Condition = c.args.until.now in
      let lines : List Line = lines_in c.args.behind in
      let old : List Held = held_in c.args.pending.now in
      let now : List Held = held_in c.scans.pending in
      let k : ℕ = c.scans._scan in
      let running = c.scans.invariant.running m stands in
      let at : Moment = running.0 in
      let same = c.scans.invariant.steered in
      let met : c.is_met.result ≡ is_met st until at = c.is_met.ensures at running.1 ∙ ap (λ (s : Steered). is_met s until at) same in
      let unmet : is_met st until at ≡ false = sym met ∙ c.if-is_met.false in
      let given : GivesStep st at (next_step st limit at) (Some c.in-Some.given) c.next.new.self =
      subst (λ (r : Option Given). GivesStep st at (next_step st limit at) r c.next.new.self) c.in-Some.is
      (subst (λ (s : Steered). GivesStep s at (next_step s limit at) c.next.result c.next.new.self) same (c.next.ensures.gives at running.1)) in
      let some = some_given st at (next_step st limit at) c.in-Some.given c.next.new.self given in
      let step : Step = some.0 in
      let goes : step_wanted st until limit at ≡ Some step = wanted st until limit at unmet ∙ some.1 in
      let now_same = c.next.ensures.steered ∙ same in
      let checks : ChecksStep st at step lines now (held_in c.check.new.pending) c.check.result =
      subst (λ (s : Steered). ChecksStep s at step lines now (held_in c.check.new.pending) c.check.result) now_same
      (c.check.ensures at step (subst (λ (s : Steered). IsGiven s at step.timed c.in-Some.given) (sym now_same) some.2.0)
      (subst (λ (s : Steered). Stands c.next.new.self (behind_step s at step)) (sym now_same) some.2.1)) in
      let fine = subst (λ w. ChecksStep st at step lines now (held_in c.check.new.pending) w) c.in_default-check.is checks in (
        behind_step st at step,
        some.2.1,
        goes_on st until limit m lines old now k at running.2 step (held_in c.check.new.pending) c.scans-test.true goes fine.0 fine.1,
      );
}
