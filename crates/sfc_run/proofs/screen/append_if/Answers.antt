use Rattle.std.proofs.Common.{◌≡◌, ◌++◌, [], Bool, OnOk, append-nil, sym, subst}
use Rattle.sfc_control.specs.sfc_debug.Steered.{steered_by}
use Rattle.sfc_run.specs.Screens.{again_by}
use Rattle.sfc_run.proofs.screen.append_if.Goals as goal

pub returns-then-not-is_on-clause-adds : goal.returns-then-not-is_on-clause-adds
returns-then-not-is_on-clause-adds c = ([], sym (append-nil c.args.out.now.items))

pub returns-then-not-is_on-clause-shown : goal.returns-then-not-is_on-clause-shown
returns-then-not-is_on-clause-shown c h behind alike one two =
    subst (λ (b : Bool). c.args.out.now.items ≡ c.args.out.now.items
    ++ again_by b c.args.shows.now.panel (steered_by c.args.between.1.now) c.args.count h behind) (sym c.if-not-is_on.true)
    (sym (append-nil c.args.out.now.items))

pub returns-clause-shown : goal.returns-clause-shown
returns-clause-shown c h behind alike one two =
    subst (λ (b : Bool). OnOk c.append_again.result (c.append_again.new.out.items ≡ c.args.out.now.items
    ++ again_by b c.args.shows.now.panel (steered_by c.args.between.1.now) c.args.count h behind)) (sym c.if-not-is_on.false)
    (c.append_again.ensures.shown h behind alike one two)
