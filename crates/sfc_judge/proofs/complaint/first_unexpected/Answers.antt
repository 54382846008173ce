use Rattle.std.proofs.Common.{◌≡◌, ◌∙◌, ◌<◌, ◌||◌, not, sym, ap, subst, ℕ, Bool, List, length}
use Rattle.sfc_events.specs.InstanceSets.{has}
use Rattle.sfc_plant.specs.Plants.{PlantData}
use Rattle.sfc_plant.specs.declared.instance.Instance.{Instance}
use Rattle.sfc_replay.specs.sfc_core.Agreement.{plant_of}
use Rattle.sfc_judge.specs.Holding.{expects_fault}
use Rattle.sfc_judge.specs.Running.Cases.{lines_in}
use Rattle.sfc_judge.proofs.Active.{all_but, none_of}
use Rattle.sfc_judge.proofs.complaint.first_unexpected.Goals as goal

pub returns-then-not-is_expected : goal.returns-then-not-is_expected
returns-then-not-is_expected c =
    let f : ℕ → Bool = λ (k : ℕ). not (has c.args.faulted k) || expects_fault (lines_in c.args.behind) (record { 0 = k }) in
    let k : ℕ = c.instances.number in
    let n : ℕ = length (plant_of c.args.resource.now).instances in
    let less : k < n = subst (λ (is : List Instance). k < length is)
    (c.instances-number-end.ensures.value ∙ ap (λ (p : PlantData). p.instances) c.plant.ensures) c.instances-test.true in
    sym (c.instances.invariant ∙ none_of f k n less (sym c.is_expected.ensures ∙ c.if-not-is_expected.true))

pub instances-preserved : goal.instances-preserved
instances-preserved c =
    let f : ℕ → Bool = λ (k : ℕ). not (has c.args.faulted k) || expects_fault (lines_in c.args.behind) (record { 0 = k }) in
    let k : ℕ = c.instances.number in
    let n : ℕ = length (plant_of c.args.resource.now).instances in
    let less : k < n = subst (λ (is : List Instance). k < length is)
    (c.instances-number-end.ensures.value ∙ ap (λ (p : PlantData). p.instances) c.plant.ensures) c.instances-test.true in
    c.instances.invariant ∙ all_but f k n less (sym c.is_expected.ensures ∙ c.if-not-is_expected.false)
