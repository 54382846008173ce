use Rattle.std.proofs.Common.{Some}
use Rattle.std.proofs.lemmas.Bool.Decides.{Decides-eqb}
use Rattle.std.proofs.lemmas.Slice.Eq.{strip_prefix_is}
use Rattle.sfc_debug.specs.sfc_core.Agreement.{plant_of}
use Rattle.sfc_script.proofs.FirstLines.{command_again, rest_shorter}
use Rattle.sfc_script.proofs.repeated.command_behind.Goals as goal

pub returns-in-Some-strip_prefix-clause-command : goal.returns-in-Some-strip_prefix-clause-command
returns-in-Some-strip_prefix-clause-command c =
    command_again (plant_of c.args.resource.now) c.args.last.now c.in-Some.repeated c.args.behind.now c.in-Some-strip_prefix.rest.now c.in-Some.is c.requires
    (strip_prefix_is Decides-eqb c.args.behind.now c.in-Some.repeated.tail.now (Some c.in-Some-strip_prefix.rest) c.in-Some-strip_prefix.ensures.cases)

pub returns-in-Some-strip_prefix-clause-shorter : goal.returns-in-Some-strip_prefix-clause-shorter
returns-in-Some-strip_prefix-clause-shorter c =
    rest_shorter (plant_of c.args.resource.now) c.args.last.now c.in-Some.repeated c.args.behind.now c.in-Some-strip_prefix.rest.now c.in-Some.is c.requires
    (strip_prefix_is Decides-eqb c.args.behind.now c.in-Some.repeated.tail.now (Some c.in-Some-strip_prefix.rest) c.in-Some-strip_prefix.ensures.cases)
