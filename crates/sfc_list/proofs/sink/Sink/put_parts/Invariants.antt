use Rattle.std.proofs.Common.{[], take}
use Rattle.sfc_list.specs.Private.Sinking.{Puts, joined}
use Rattle.sfc_list.proofs.sink.Sink.put_parts.Given as goal

abbrev pub invariant-loop-part : goal.invariant-loop-part
invariant-loop-part g l = Puts g.W.Write.contents l.initial.self l.self (joined [] (take l.part-index l.parts))
