use Rattle.std.proofs.Common.{◌≡◌, ◌++◌, length, w64, ap, ◌∙◌, sym, arith}
use Rattle.std.specs.Option.{option_to_list}
use Rattle.std.proofs.lemmas.Int.{to_z-of_z}
use Rattle.sfc_script.proofs.Adding.{adds_breakpoint}
use Rattle.sfc_script.proofs.Said.{append_nothing}
use Rattle.sfc_script.proofs.script.Script.add_breakpoint.Goals as goal

pub returns-in_ok-push-2 : goal.returns-in_ok-push-2
returns-in_ok-push-2 c =
    let here : c.len-id.result ≡ length c.args.self.now.conditions.items = omega (arith, c.args.self.now.conditions.ok.0, c.len-id.ensures) in
    adds_breakpoint c.args.place c.args.t _ c.args.condition c.args.number c.len-id.result c.args.self.now (record { commands = c.push.new.self; conditions = c.push-in-Some.new.self })
    here c.if-id-ge-CONDITIONS.false (to_z-of_z w64 c.args.t c.ranges.t) c.in_ok-push.ensures.items
    (c.in_ok-push-2.ensures.items ∙ ap (λ o. c.args.self.now.conditions.items ++ option_to_list o) (sym c.in-Some.is))

pub returns-in_default : goal.returns-in_default
returns-in_default c =
    let here : c.len-id.result ≡ length c.args.self.now.conditions.items = omega (arith, c.args.self.now.conditions.ok.0, c.len-id.ensures) in
    adds_breakpoint c.args.place c.args.t _ c.args.condition c.args.number c.len-id.result c.args.self.now (record { commands = c.push.new.self; conditions = c.args.self.now.conditions })
    here c.if-id-ge-CONDITIONS.false (to_z-of_z w64 c.args.t c.ranges.t) c.in_ok-push.ensures.items
    (sym (append_nothing c.args.self.now.conditions.items) ∙ ap (λ o. c.args.self.now.conditions.items ++ option_to_list o) (sym c.in_default.is))
