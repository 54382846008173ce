use Rattle.std.proofs.Common.{◌≡◌, ◌++◌, Some, map}
use Rattle.sfc_panel.specs.Watched.{named_to}
use Rattle.sfc_panel.proofs.watched.push_named.Given as goal

abbrev pub invariant-loop-k : goal.invariant-loop-k
invariant-loop-k l = map Some l.ids.items ≡ map Some l.initial.ids.items ++ named_to l.plant l.names l.k
