use Rattle.std.proofs.Common.{rules, ◌≡◌, ◌∙◌, sym, ap, subst, ℤ, Option, Some, None, w64, SFits, to_z, of_z, to_z-of_z}
use Rattle.sfc_replay.specs.sfc_debug.Steered.{Steered}
use Rattle.sfc_judge.specs.declared.bench.Bench.{Bench}
use Rattle.sfc_judge.specs.declared.due.Due.{Due}
use Rattle.sfc_judge.specs.declared.given.Given.{Given}
use Rattle.sfc_judge.specs.Running.Benches.{GivesScan, GivesStep, Stands, steered_in}
use Rattle.sfc_judge.specs.Scans.{before, next_scan}
use Rattle.sfc_judge.specs.Dues.{due_by, given_at, later, stimulus_step}
use Rattle.sfc_judge.proofs.Stirring.{none_before, scan_first, stirred, without}
use Rattle.sfc_judge.proofs.bench.Bench.next.Goals as goal

pub returns-in_default-clause-gives : goal.returns-in_default-clause-gives
returns-in_default-clause-gives c = λ m stands.
    let st : Steered = steered_in c.args.self.now in
    let fits : SFits w64 c.args.limit = search rules in
    let new : Bench = c.next_scan.new.self in
    let none : due_by m c.args.limit ≡ None = ap (due_by m) (sym (to_z-of_z fits)) ∙ sym (c.due_by.ensures m stands) ∙ c.in_default.is in
    without st m c.args.limit c.next_scan.result new none
    (subst (λ (l : ℤ). GivesScan st m (next_scan st l m) c.next_scan.result new) (to_z-of_z fits) (c.next_scan.ensures.gives m stands))

pub returns-in-Some-next_scan-clause-gives : goal.returns-in-Some-next_scan-clause-gives
unfolding Stands
returns-in-Some-next_scan-clause-gives c = λ m stands.
    let st : Steered = steered_in c.args.self.now in
    let due : Due = c.in-Some.due in
    let fits : SFits w64 c.args.limit = search rules in
    let fits_clock : SFits w64 c.args.self.now.clock = search rules in
    let fits_instant : SFits w64 due.instant = search rules in
    let fits_later : SFits w64 c.later.result = search rules in
    let fits_before : SFits w64 c.before-2.result = search rules in
    let new : Bench = c.next_scan-2.new.self in
    let comes : due_by m c.args.limit ≡ Some due = ap (due_by m) (sym (to_z-of_z fits)) ∙ sym (c.due_by.ensures m stands) ∙ c.in-Some.is in
    let at : to_z w64 (of_z w64 c.before-2.result) ≡ before (given_at m due) =
    to_z-of_z fits_before ∙ c.before-2.ensures
    ∙ ap before (to_z-of_z fits_later ∙ c.later.ensures ∙ ap (λ t. later t (to_z w64 (of_z w64 due.instant))) (to_z-of_z fits_clock ∙ stands.clock)
    ∙ ap (λ t. later m.clock t) (to_z-of_z fits_instant)) in
    scan_first st m c.args.limit due comes c.in-Some-next_scan.given new
    (subst (λ (l : ℤ). GivesScan st m (next_scan st l m) (Some c.in-Some-next_scan.given) new) at
    (subst (λ (r : Option Given). GivesScan st m (next_scan st (to_z w64 (of_z w64 c.before-2.result)) m) r new) c.in-Some-next_scan.is
    (c.next_scan-2.ensures.gives m stands)))

pub returns-in-None-clause-gives : goal.returns-in-None-clause-gives
unfolding Stands
returns-in-None-clause-gives c = λ m stands.
    let st : Steered = steered_in c.args.self.now in
    let due : Due = c.in-Some.due in
    let fits : SFits w64 c.args.limit = search rules in
    let fits_clock : SFits w64 c.args.self.now.clock = search rules in
    let fits_instant : SFits w64 due.instant = search rules in
    let fits_later : SFits w64 c.later.result = search rules in
    let fits_before : SFits w64 c.before-2.result = search rules in
    let old : Bench = c.next_scan-2.new.self in
    let comes : due_by m c.args.limit ≡ Some due = ap (due_by m) (sym (to_z-of_z fits)) ∙ sym (c.due_by.ensures m stands) ∙ c.in-Some.is in
    let at : to_z w64 (of_z w64 c.before-2.result) ≡ before (given_at m due) =
    to_z-of_z fits_before ∙ c.before-2.ensures
    ∙ ap before (to_z-of_z fits_later ∙ c.later.ensures ∙ ap (λ t. later t (to_z w64 (of_z w64 due.instant))) (to_z-of_z fits_clock ∙ stands.clock)
    ∙ ap (λ t. later m.clock t) (to_z-of_z fits_instant)) in
    let gives : GivesScan st m (next_scan st (before (given_at m due)) m) None old =
    subst (λ (l : ℤ). GivesScan st m (next_scan st l m) None old) at
    (subst (λ (r : Option Given). GivesScan st m (next_scan st (to_z w64 (of_z w64 c.before-2.result)) m) r old) c.in-None.is
    (c.next_scan-2.ensures.gives m stands)) in
    stirred st m c.args.limit due comes old c.stir.new.self c.stir.result gives
    (subst (λ (s : Steered). GivesStep s m (Some (stimulus_step m due)) (Some c.stir.result) c.stir.new.self) c.next_scan-2.ensures.steered
    (c.stir.ensures.gives m (none_before st m c.args.limit due comes old gives)))
