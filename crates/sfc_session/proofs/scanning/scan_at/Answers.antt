use Rattle.std.proofs.Common.{rules, ◌∙◌, sym, ap, subst, ℕ, ℤ, List, Option, w64, SFits, to_z, of_z, to_z-of_z}
use Rattle.sfc_events.specs.declared.command.Command.TheVariants.{Scan}
use Rattle.sfc_output.specs.Output.{Verdict}
use Rattle.sfc_output.specs.sfc_debug.Steered.{Steered}
use Rattle.sfc_session.specs.declared.scanning.Tried.{Tried}
use Rattle.sfc_session.specs.declared.scanning.Tried.TheVariants.{NoTurn}
use Rattle.sfc_session.specs.declared.session.Session.{Session}
use Rattle.sfc_session.specs.Scanning.{scan_at, turn_scan}
use Rattle.sfc_session.specs.Sessions.{IsTaken, steered_in}
use Rattle.sfc_session.specs.Trying.{TriesAll}
use Rattle.sfc_session.proofs.Given.{ok_behind}
use Rattle.sfc_session.proofs.Trying.{turn_taken}
use Rattle.sfc_session.proofs.scanning.scan_at.Goals as goal

pub returns-in-Answered-clause-taken : goal.returns-in-Answered-clause-taken
returns-in-Answered-clause-taken c h lines said =
    let a : Session = c.args.session.now in
    let d : Session = c.try_tasks.new.session in
    let x : List ℕ = c.args.out.now.items in
    let z : List ℕ = c.try_tasks.new.out.items in
    let fits : SFits w64 c.args.raw = search rules in
    let raw : ℤ = to_z w64 (of_z w64 c.args.raw) in
    let v : Verdict = c.in-Answered.answer in
    subst (λ (r : ℤ). IsTaken a d x z v h lines (scan_at (steered_in a) h r)) (to_z-of_z fits)
    (turn_taken a d x z v h lines raw
    (subst (λ (t : Tried). TriesAll a d x z h lines raw t) c.in-Answered.is (c.in_ok-answer.ensures.tried h lines said)))

pub returns-in-NoTurn-clause-taken : goal.returns-in-NoTurn-clause-taken
returns-in-NoTurn-clause-taken c h lines said =
    let a : Session = c.args.session.now in
    let d : Session = c.try_tasks.new.session in
    let x : List ℕ = c.args.out.now.items in
    let z : List ℕ = c.try_tasks.new.out.items in
    let st : Steered = steered_in a in
    let fits : SFits w64 c.args.raw = search rules in
    let raw : ℤ = to_z w64 (of_z w64 c.args.raw) in
    let tries : TriesAll a d x z h lines raw (NoTurn c.in-NoTurn.field-0) =
    subst (λ (t : Tried). TriesAll a d x z h lines raw t) c.in-NoTurn.is (c.in_ok-answer.ensures.tried h lines said) in
    ok_behind c.scan_then.result a d c.scan_then.new.session x z c.scan_then.new.out.items h lines
    (Scan (record { 0 = 0 }), raw) (scan_at st h c.args.raw) tries.2 tries.3
    (ap (λ (o : Option ℕ). turn_scan o raw) (sym tries.0) ∙ ap (scan_at st h) (to_z-of_z fits))
    (c.scan_then.ensures.taken h lines tries.2.said)
