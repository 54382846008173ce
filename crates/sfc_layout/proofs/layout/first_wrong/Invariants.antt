use Rattle.std.proofs.Common.{◌<◌, ℕ, get_or}
use Rattle.sfc_layout.specs.declared.chart.Link.{Link}
use Rattle.sfc_layout.specs.Links.{IsLink}
use Rattle.sfc_layout.proofs.layout.first_wrong.Given as goal

abbrev pub invariant-loop-number : goal.invariant-loop-number
invariant-loop-number l = (k : ℕ) (d : Link) → k < l.number → IsLink l.steps l.transitions (get_or l.links k d)
