use Rattle.std.proofs.Common.{rules, ◌≡◌, ◌∙◌, sym, ap, subst, ℕ, ◌+◌, ◌<◌, ◌≤◌, ℤ, List, Option, w64, SFits, to_z, of_z, to_z-of_z, length}
use Rattle.sfc_plant.specs.Plants.{PlantData}
use Rattle.sfc_plant.specs.declared.task.Task.{Task}
use Rattle.sfc_output.specs.sfc_debug.Histories.{CommandHistory}
use Rattle.sfc_output.specs.Output.{Verdict}
use Rattle.sfc_session.specs.declared.scanning.Tried.TheVariants.{Answered, NoTurn}
use Rattle.sfc_session.specs.declared.session.Session.{Session}
use Rattle.sfc_session.specs.Scanning.{earlier, release_in}
use Rattle.sfc_session.specs.Sessions.{HasSaid, steered_in}
use Rattle.sfc_session.specs.Trying.{TriesAll}
use Rattle.sfc_session.proofs.Trying.{GoesThrough, through_all, through_here, through_more}
use Rattle.sfc_session.proofs.scanning.try_tasks.Goals as goal

pub returns-then-not-is_out_of_turn-clause-tried : goal.returns-then-not-is_out_of_turn-clause-tried
returns-then-not-is_out_of_turn-clause-tried c h lines said =
    let a : Session = c.args.session.now in
    let x : List ℕ = c.args.out.now.items in
    let d : Session = c.try_scan.new.session in
    let z : List ℕ = c.try_scan.new.out.items in
    let fits : SFits w64 c.args.raw = search rules in
    let raw : ℤ = to_z w64 (of_z w64 c.args.raw) in
    let v : Verdict = c.in_ok-answer.answer in
    let through = c.tasks.invariant.through h lines said in
    let less : c.tasks.number < length (steered_in a).plant.tasks =
    subst (λ (ts : List Task). c.tasks.number < length ts)
    (c.tasks-tasks.ensures.value ∙ ap (λ (p : PlantData). p.tasks) c.plant.ensures) c.tasks-test.true in
    subst (λ (r : ℤ). TriesAll a d x z h lines r (Answered v)) (to_z-of_z fits)
    (through_here a c.tasks.session d x c.tasks.out.items z v h lines raw c.tasks.number c.tasks.earliest less through
    (c.in_ok-answer.ensures.tried h lines through.stays.said)
    (sym c.is_out_of_turn.ensures ∙ c.if-not-is_out_of_turn.true))

pub tasks-preserved : goal.tasks-preserved
tasks-preserved c =
    let a : Session = c.args.session.now in
    let x : List ℕ = c.args.out.now.items in
    let d : Session = c.try_scan.new.session in
    let z : List ℕ = c.try_scan.new.out.items in
    let raw : ℤ = to_z w64 (of_z w64 c.args.raw) in
    let v : Verdict = c.in_ok-answer.answer in
    let less : c.tasks.number < length (steered_in a).plant.tasks =
    subst (λ (ts : List Task). c.tasks.number < length ts)
    (c.tasks-tasks.ensures.value ∙ ap (λ (p : PlantData). p.tasks) c.plant.ensures) c.tasks-test.true in
    let earliest : earlier c.tasks.earliest (release_in v) ≡ c.earlier-earliest.result =
    sym (c.earlier-earliest.ensures ∙ ap (earlier c.tasks.earliest) c.release_in.ensures) in
    record {
      steered = c.try_scan.ensures.steered ∙ c.tasks.invariant.steered;
      through = λ (h : CommandHistory) (lines : List ℕ) (said : HasSaid a h lines).
          let through = c.tasks.invariant.through h lines said in
          subst (λ (o : Option ℤ). GoesThrough a d x z h lines raw (c.tasks.number + 1) o) earliest
          (through_more a c.tasks.session d x c.tasks.out.items z v h lines raw c.tasks.number c.tasks.earliest less through
          (c.in_ok-answer.ensures.tried h lines through.stays.said)
          (sym c.is_out_of_turn.ensures ∙ c.if-not-is_out_of_turn.false));
    }

pub returns-clause-tried : goal.returns-clause-tried
returns-clause-tried c h lines said =
    let a : Session = c.args.session.now in
    let fits : SFits w64 c.args.raw = search rules in
    let all : length (steered_in a).plant.tasks ≤ c.tasks.number =
    subst (λ (ts : List Task). length ts ≤ c.tasks.number)
    (c.tasks-tasks.ensures.value ∙ ap (λ (p : PlantData). p.tasks) c.plant.ensures) c.tasks-test.false in
    subst (λ (r : ℤ). TriesAll a c.tasks.session c.args.out.now.items c.tasks.out.items h lines r (NoTurn c.tasks.earliest)) (to_z-of_z fits)
    (through_all a c.tasks.session c.args.out.now.items c.tasks.out.items h lines (to_z w64 (of_z w64 c.args.raw)) c.tasks.number
    c.tasks.earliest all (c.tasks.invariant.through h lines said))
