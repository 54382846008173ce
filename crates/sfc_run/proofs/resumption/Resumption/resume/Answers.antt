use Rattle.std.proofs.Common.{◌≡◌, ◌∙◌, ℕ, Bool, false, Option, Some, sym, subst}
use Rattle.std.specs.Bool.{OnTrue}
use Rattle.std.specs.Prelude.{IfSome}
use Rattle.sfc_control.specs.LegalHistory.{commands_of}
use Rattle.sfc_control.specs.sfc_debug.declared.opening.DebugOpening.{DebugOpening}
use Rattle.sfc_run.specs.Following.{is_level, newest_in, steered_in}
use Rattle.sfc_run.specs.Resuming.{IsSavedBehind, behind_in, opening_in}
use Rattle.sfc_run.proofs.Resuming.{opening_is}
use Rattle.sfc_run.proofs.RowLines.{hears_set}
use Rattle.sfc_run.proofs.Showing.{on_ok}
use Rattle.sfc_run.proofs.resumption.Resumption.resume.Goals as goal

pub returns-clause-hears : goal.returns-clause-hears
returns-clause-hears c =
    let old = c.args.alarms.now in
    let self = c.args.self.now in
    let st = steered_in old.follower in
    let due : behind_in self ≡ Some c.newest.result =
    subst (λ (b : Bool). OnTrue b (behind_in self ≡ Some c.newest.result)) c.if-not-is_due.false c.is_due.ensures.due in
    let waits : IsSavedBehind st (opening_in self) c.newest.result =
    subst (λ (o : Option ℕ). IfSome o (IsSavedBehind st (opening_in self))) due c.requires.ready.saved in
    let same : opening_in self ≡ c.is_due.new.self.opening = sym c.is_due.ensures.opening ∙ opening_is c.is_due.new.self in
    let saved : IsSavedBehind st c.is_due.new.self.opening (newest_in old.follower) =
    subst (λ (o : DebugOpening). IsSavedBehind st o (newest_in old.follower)) same
    (subst (λ (n : ℕ). IsSavedBehind st (opening_in self) n) c.newest.ensures waits) in
    let level : is_level old.follower ≡ false = sym c.is_level.ensures ∙ c.if-is_level.false in
    on_ok c.go_on.result
    (λ s. hears_set old c.go_on.new.alarms c.args.told.now c.go_on.new.told (commands_of saved.0) s.0 s.1 s.2 s.3 s.4 s.5)
    (c.go_on.ensures.set saved.0 level saved.1)
