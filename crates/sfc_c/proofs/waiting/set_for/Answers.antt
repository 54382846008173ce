use Rattle.std.proofs.Common.{rules, ◌∙◌, ap, sym, subst, ℤ, [], ◌∷◌, Some, inl, w32, w64, SFits, to_z, of_z, to_z-of_z}
use Rattle.sfc_replay.specs.sfc_debug.Steered.{Steered}
use Rattle.sfc_c.specs.declared.plc.Plc.{Plc}
use Rattle.sfc_c.specs.Codes.{code_of}
use Rattle.sfc_c.specs.Resources.{steered_in}
use Rattle.sfc_c.specs.Waiting.{Sets, added_by}
use Rattle.sfc_c.proofs.Waits.{sets_found}
use Rattle.sfc_c.proofs.waiting.set_for.Goals as goal

pub returns-in-Ok-Condition-clause-set : goal.returns-in-Ok-Condition-clause-set
returns-in-Ok-Condition-clause-set c h accepted stands =
    let st : Steered = steered_in c.args.plc.now in
    let place = c.args.place in
    let text = c.args.text.now in
    let fits : SFits w64 c.args.t = search rules in
    let at : ℤ = to_z w64 (of_z w64 c.args.t) in
    let new : Plc = c.set_waiting.new.plc in
    let found = c.in-Ok-Condition in
    let fits_code : SFits w32 c.set_waiting.result = search rules in
    subst (λ (n : ℤ). Sets st h place.program (place.point, c.args.t) text (Some new) n) (sym (to_z-of_z fits_code))
    (subst (λ (t : ℤ). Sets st h place.program (place.point, t) text (Some new) c.set_waiting.result) (to_z-of_z fits)
    (sets_found st h place.program (place.point, at) text found.field-0 (Some (found.condition ∷ [])) (Some new) c.set_waiting.result
    (ap added_by found.field-0-is) found.ensures (c.set_waiting.ensures.set h accepted stands)))

pub returns-in-Ok-NoProgram-clause-set : goal.returns-in-Ok-NoProgram-clause-set
returns-in-Ok-NoProgram-clause-set c h accepted stands =
    let st : Steered = steered_in c.args.plc.now in
    let place = c.args.place in
    let text = c.args.text.now in
    let fits : SFits w64 c.args.t = search rules in
    let at : ℤ = to_z w64 (of_z w64 c.args.t) in
    let new : Plc = c.obey.new.self in
    let found = c.in-Ok-NoProgram in
    let fits_code : SFits w32 c.code.result = search rules in
    subst (λ (n : ℤ). Sets st h place.program (place.point, c.args.t) text (Some new) n) (sym (to_z-of_z fits_code))
    (subst (λ (t : ℤ). Sets st h place.program (place.point, t) text (Some new) c.code.result) (to_z-of_z fits)
    (sets_found st h place.program (place.point, at) text found.field-0 (Some []) (Some new) c.code.result
    (ap added_by found.field-0-is) found.ensures
    (inl (c.code.ensures ∙ ap code_of (c.obey.ensures.answer h stands), (c.obey.ensures.steered, c.obey.ensures.stands h stands)))))
