use Rattle.std.proofs.Common.{◌≡◌, ◌||◌, not, refl, sym, ap, ℕ, Bool, length}
use Rattle.sfc_events.specs.InstanceSets.{has}
use Rattle.sfc_replay.specs.sfc_core.Agreement.{plant_of}
use Rattle.sfc_judge.specs.Holding.{expects_fault}
use Rattle.sfc_judge.specs.Running.Cases.{lines_in}
use Rattle.sfc_judge.proofs.Tests.{all_so}
use Rattle.sfc_judge.proofs.complaint.unexpected.Goals as goal

pub returns-in-None : goal.returns-in-None
returns-in-None c =
    let expects : ℕ → Bool = λ (k : ℕ). expects_fault (lines_in c.args.behind) (record { 0 = k }) in
    let f : ℕ → Bool = λ (k : ℕ). not (has c.args.faulted k) || expects k in
    sym (all_so f (λ (k : ℕ). ap (λ t. not t || expects k) (c.in-None.ensures.none refl k)) 0 (length (plant_of c.args.resource.now).instances))
