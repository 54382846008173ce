use Rattle.std.proofs.Common.{◌≡◌, true, false, sym, ◌∙◌, to_z-of_z}
use Rattle.sfc_instance.specs.ProgramScan.{after_actions}
use Rattle.sfc_instance.specs.Private.Acting.{HasActed}
use Rattle.sfc_instance.proofs.Left.{given_up, hold_ok, kept_so, left_there, none_ok}
use Rattle.sfc_instance.proofs.Scanned.{moved_ok, moved_err}
use Rattle.sfc_instance.proofs.scan_run.ScanRun.finish.Goals as goal

pub returns-then-is_err-clause-now : goal.returns-then-is_err-clause-now
returns-then-is_err-clause-now c life h =
    moved_err c.args.context.tables.now life c.act_or_undo-answer.result c.args.self.now.spare c.swap.new.x
    (sym c.is_err.ensures.value ∙ c.if-is_err.true) c.swap.ensures.x_after

pub returns-else-is_err-clause-now : goal.returns-else-is_err-clause-now
returns-else-is_err-clause-now c life h =
    moved_ok c.args.context.tables.now life c.act_or_undo-answer.result c.args.self.now.spare c.args.self.now.now
    (sym c.is_err.ensures.value ∙ c.if-is_err.false) h

pub returns-then-is_err-clause-agrees : goal.returns-then-is_err-clause-agrees
returns-then-is_err-clause-agrees c plant life changes context state h =
    let acted : HasActed plant changes c.act_or_undo-answer.new.image c.act_or_undo-answer.result
    (after_actions plant c.args.context.instance life c.args.t 0 c.args.context.tables.now.actions changes) =
    simp (to_z-of_z, c.ranges.t) at (c.act_or_undo-answer.ensures.agrees plant life changes context state h) in
    let on = sym c.is_err.ensures.value ∙ c.if-is_err.true in
    let before = given_up plant changes c.act_or_undo-answer.new.image c.act_or_undo-answer.result _ acted on in
    kept_so plant changes c.find_place-self.new.image _ c.act_or_undo-answer.result c.find_place-self.result
    (left_there plant changes c.act_or_undo-answer.new.image c.find_place-self.new.image c.act_or_undo-answer.result _ acted on
    (c.find_place-self.ensures.unchanged plant life changes context state before))
    (λ _. simp (to_z-of_z, c.ranges.t) at (c.find_place-self.ensures.place plant life changes context state before))

pub returns-else-is_err-clause-agrees : goal.returns-else-is_err-clause-agrees
returns-else-is_err-clause-agrees c plant life changes context state h =
    let acted : HasActed plant changes c.act_or_undo-answer.new.image c.act_or_undo-answer.result
    (after_actions plant c.args.context.instance life c.args.t 0 c.args.context.tables.now.actions changes) =
    simp (to_z-of_z, c.ranges.t) at (c.act_or_undo-answer.ensures.agrees plant life changes context state h) in
    let off = sym c.is_err.ensures.value ∙ c.if-is_err.false in
    kept_so plant changes c.act_or_undo-answer.new.image _ c.act_or_undo-answer.result c.args.self.now.place acted
    (λ on. absurd (let bad : false ≡ true = sym off ∙ on in cc))

pub returns-then-is_err-clause-good : goal.returns-then-is_err-clause-good
returns-then-is_err-clause-good c = none_ok c.act_or_undo-answer.result _ (sym c.is_err.ensures.value ∙ c.if-is_err.true)

pub returns-else-is_err-clause-good : goal.returns-else-is_err-clause-good
returns-else-is_err-clause-good c = hold_ok c.act_or_undo-answer.result _ c.act_or_undo-answer.ensures.ticks
