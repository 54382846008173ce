use Rattle.sfc_list.specs.Listing.{program_text}
use Rattle.sfc_list.proofs.Sunk.{puts_item}
use Rattle.sfc_list.proofs.list.put_programs.Goals as goal

pub loop-program-preserved : goal.loop-program-preserved
loop-program-preserved g c =
    puts_item g.W.Write.contents _ _ _ (program_text c.args.globals.now) c.args.types.now c.loop-program.program-index c.program-item.result
    c.loop-program-test.true c.program-item.is c.loop-program.invariant c.put_program.ensures
