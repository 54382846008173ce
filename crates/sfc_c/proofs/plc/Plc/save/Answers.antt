use Rattle.std.proofs.Common.{◌≡◌, arith, length, List, rules, subst, sym}
use Rattle.std.specs.List.{slice_get}
use Rattle.sfc_replay.specs.sfc_debug.Steered.{Steered}
use Rattle.sfc_c.specs.declared.saved.Saved.{Saved}
use Rattle.sfc_c.specs.Resources.{IsSaved, slots_in, steered_in}
use Rattle.sfc_c.proofs.Saves.{pushed_there}
use Rattle.sfc_c.proofs.plc.Plc.save.Goals as goal

pub returns-clause-saved : goal.returns-clause-saved
returns-clause-saved c h stands zero =
    let st : Steered = steered_in c.args.self.now in
    let old : List Saved = slots_in c.args.self.now in
    let one : c.len.result ≡ length old = search rules in
    let two : c.len-2.result ≡ length old = search rules in
    let next : c.args.number ≡ length old = omega (arith, c.if-number-len.false, c.if-number-len-2.false, one, two) in
    subst (λ (slots : List Saved). IsSaved st h (slice_get slots c.args.number)) (sym c.in-Ok-push.ensures.items)
    (pushed_there st h old c.args.number c.in-Ok.saved next (c.in-Ok.ensures.past h stands))
