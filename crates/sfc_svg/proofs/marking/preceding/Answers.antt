use Rattle.sfc_replay.specs.sfc_instance.Views.{tables_in}
use Rattle.sfc_svg.proofs.Befores.{within}
use Rattle.sfc_svg.proofs.marking.preceding.Goals as goal

pub returns-clause-within : goal.returns-clause-within
returns-clause-within c =
    within c.tables-tables.result.now (tables_in c.args.view.now) c.args.transition c.preceding.result.now c.steps-steps.ensures.tables c.tables-tables.ensures
    c.requires c.preceding.ensures
