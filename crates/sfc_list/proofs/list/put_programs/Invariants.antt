use Rattle.std.proofs.Common.{take, flat_map}
use Rattle.sfc_list.specs.Listing.{program_text}
use Rattle.sfc_list.specs.Private.Sinking.{Puts}
use Rattle.sfc_list.proofs.list.put_programs.Given as goal

abbrev pub invariant-loop-program : goal.invariant-loop-program
invariant-loop-program g l = Puts g.W.Write.contents l.initial.out l.out (flat_map (program_text l.globals) (take l.program-index l.types))
