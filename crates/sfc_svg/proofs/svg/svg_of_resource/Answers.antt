use Rattle.std.proofs.Common.{ℕ, List, Bor, option_map}
use Rattle.sfc_svg.proofs.svg.svg_of_resource.Goals as goal

pub returns-clause-undrawn : goal.returns-clause-undrawn
returns-clause-undrawn c = c.svg_of_wanted.ensures.undrawn (option_map (λ (x : Bor (List ℕ)). x.now) c.args.name)
