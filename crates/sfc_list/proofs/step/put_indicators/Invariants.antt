use Rattle.std.proofs.Common.{take, flat_map}
use Rattle.sfc_list.specs.Private.Parts.{indicator_text}
use Rattle.sfc_list.specs.Private.Sinking.{Puts}
use Rattle.sfc_list.proofs.step.put_indicators.Given as goal

abbrev pub invariant-loop-indicator : goal.invariant-loop-indicator
invariant-loop-indicator g l = Puts g.W.Write.contents l.initial.out l.out (flat_map (indicator_text l.names) (take l.indicator-index l.indicators))
