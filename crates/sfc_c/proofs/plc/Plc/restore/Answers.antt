use Rattle.std.proofs.Common.{◌≡◌, ◌∙◌, ◌<◌, arith, length, List, refl, rules, w64, SFits, to_z-of_z}
use Rattle.sfc_replay.specs.sfc_debug.Steered.{Steered}
use Rattle.sfc_c.specs.declared.saved.Saved.{Saved}
use Rattle.sfc_c.specs.Resources.{slots_in, steered_in}
use Rattle.sfc_c.proofs.Saves.{past_there, something_there}
use Rattle.sfc_c.proofs.plc.Plc.restore.Goals as goal

pub returns-clause-restored : goal.returns-clause-restored
returns-clause-restored c h saved =
    let st : Steered = steered_in c.args.self.now in
    let old : List Saved = slots_in c.args.self.now in
    let long : c.len.result ≡ length old = search rules in
    let less : c.args.number < length old = omega (arith, c.if-number-len.false, long) in
    let one : Saved = c.index.result.now in
    let other : Saved = c.index-2.result.now in
    let fits : SFits w64 other.instant = search rules in (
      refl,
      (
        c.restore.ensures.restored h (past_there st h old c.args.number one less c.index.ensures saved).0,
        to_z-of_z fits ∙ (past_there st h old c.args.number other less c.index-2.ensures saved).1,
      ),
    )

pub returns-clause-unknown : goal.returns-clause-unknown
returns-clause-unknown c h stands none =
    let old : List Saved = slots_in c.args.self.now in
    let long : c.len.result ≡ length old = search rules in
    let less : c.args.number < length old = omega (arith, c.if-number-len.false, long) in
    absurd (something_there old c.args.number c.index.result.now less c.index.ensures none)
