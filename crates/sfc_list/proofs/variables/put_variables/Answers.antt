use Rattle.sfc_list.specs.Private.Parts.{variable_line}
use Rattle.sfc_list.proofs.Sunk.{puts_item}
use Rattle.sfc_list.proofs.variables.put_variables.Goals as goal

pub loop-variable-preserved : goal.loop-variable-preserved
loop-variable-preserved g c =
    puts_item g.W.Write.contents _ _ _ (variable_line c.args.level) c.args.variables.now c.loop-variable.variable-index c.variable-item.result
    c.loop-variable-test.true c.variable-item.is c.loop-variable.invariant c.put_variable_line.ensures
