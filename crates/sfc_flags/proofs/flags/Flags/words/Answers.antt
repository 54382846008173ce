use Rattle.std.proofs.Common.{length, ap, arith}
use Rattle.sfc_flags.proofs.Views.{length_of}
use Rattle.sfc_flags.proofs.flags.Flags.words.Goals as goal

pub returns : goal.returns
returns c = omega (arith, length_of c.self.inside.count c.self.inside.words.items, ap length c.self.view_is, c.self.invariant.table.sized)
