use Rattle.std.proofs.Common.{length, ◌∙◌, ap, sym}
use Rattle.sfc_flags.proofs.Views.{length_of}
use Rattle.sfc_flags.proofs.flags.Flags.count.Goals as goal

pub returns : goal.returns
returns c = sym (length_of c.self.inside.count c.self.inside.words.items) ∙ ap length c.self.view_is
