use Rattle.std.proofs.Common.{sym}
use Rattle.sfc_flags.proofs.Apart.{get_or-apart}
use Rattle.sfc_flags.proofs.words.difference.Goals as goal

pub returns : goal.returns
returns c = sym (get_or-apart c.args.words.now c.args.other.now c.requires.len c.args.k)
