use Rattle.std.proofs.Common.{rules, ◌≡◌, length, Some, refl, SFits, w64, subst, arith}
use Rattle.std.specs.Option.{option_to_list}
use Rattle.std.proofs.lemmas.Int.{to_z-of_z}
use Rattle.sfc_debug.specs.sfc_core.Agreement.{plant_of}
use Rattle.sfc_script.specs.Scripts.{ConditionReads}
use Rattle.sfc_script.specs.Private.Adding.{AddsCondition}
use Rattle.sfc_script.proofs.Adding.{adds_nothing, adds_plain, adds_when}
use Rattle.sfc_script.proofs.script.Script.add.Goals as goal

pub returns-in-Skipped : goal.returns-in-Skipped
returns-in-Skipped c = adds_nothing (plant_of c.args.resource.now) c.args.number c.args.line c.args.self.now c.in-Skipped.is

pub returns-in_ok-push-in-Plain : goal.returns-in_ok-push-in-Plain
returns-in_ok-push-in-Plain c =
    let fits : SFits w64 c.in-Plain.t = search rules in
    adds_plain (plant_of c.args.resource.now) c.args.number c.args.line c.in-Plain.command c.in-Plain.t _ c.args.self.now (record { commands = c.push.new.self; conditions = c.args.self.now.conditions })
    c.in-Plain.is (to_z-of_z w64 c.in-Plain.t fits) c.in_ok-push-in-Plain.ensures.items refl

pub returns-in_ok-condition-in-When : goal.returns-in_ok-condition-in-When
returns-in_ok-condition-in-When c =
    let fits : SFits w64 c.in-When.t = search rules in
    let here : c.len-k.result ≡ length c.args.self.now.conditions.items = omega (arith, c.args.self.now.conditions.ok.0, c.len-k.ensures) in
    adds_when (plant_of c.args.resource.now) c.args.number c.args.line c.in-When.conditional c.in-When.t c.in_ok-condition-in-When.condition c.args.self.now c.add_breakpoint.new.self c.add_breakpoint.result
    c.in-When.is
    (subst (λ k. ConditionReads (plant_of c.args.resource.now) k c.in-When.conditional.place.program c.in-When.conditional.text.now (Some (option_to_list c.in_ok-condition-in-When.condition))) here
    (subst (λ plant. ConditionReads plant c.len-k.result c.in-When.conditional.place.program c.in-When.conditional.text.now (Some (option_to_list c.in_ok-condition-in-When.condition))) c.plant.ensures
    c.in_ok-condition-in-When.ensures))
    (subst (λ t. AddsCondition c.in-When.conditional.place t c.in_ok-condition-in-When.condition c.args.number c.args.self.now c.add_breakpoint.new.self c.add_breakpoint.result)
    (to_z-of_z w64 c.in-When.t fits) c.add_breakpoint.ensures)
