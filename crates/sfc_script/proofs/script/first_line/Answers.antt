use Rattle.std.proofs.Common.{arith, rules, sym, subst, SFits, w64}
use Rattle.std.proofs.lemmas.Int.{to_z-of_z}
use Rattle.sfc_debug.specs.sfc_core.Agreement.{plant_of}
use Rattle.sfc_script.specs.Commands.{Plain}
use Rattle.sfc_script.specs.Private.Repeating.{Begins}
use Rattle.sfc_script.proofs.FirstLines.{plain_first}
use Rattle.sfc_script.proofs.PlainInstants.{instant_is}
use Rattle.sfc_script.proofs.script.first_line.Goals as goal

pub returns-in-Some-command_behind-clause-line : goal.returns-in-Some-command_behind-clause-line
returns-in-Some-command_behind-clause-line c =
    let fits : SFits w64 c.in-Some.t = search rules in (
      subst (λ z. Begins (plant_of c.args.resource.now) c.args.bytes.now (Plain c.in-Some-command_behind.command z) c.in-Some-command_behind.rest.now) (sym (to_z-of_z w64 c.in-Some.t fits))
          (plain_first (plant_of c.args.resource.now) c.args.bytes.now c.in-Some.t c.in-Some.behind.now c.in-Some-command_behind.command c.in-Some-command_behind.rest.now
          (instant_is c.args.bytes.now (c.in-Some.t, c.in-Some.behind.now) c.in-Some.ensures.value) c.in-Some-command_behind.ensures.command),
      omega (arith, c.in-Some.ensures.shorter, c.in-Some-command_behind.ensures.shorter),
    )
