use Rattle.std.proofs.Common.{refl, arith}
use Rattle.sfc_flags.proofs.Nexts.{alone_found, alone_none}
use Rattle.sfc_flags.proofs.words.next_in_one.Goals as goal

pub returns-then-rest-ne0-clause-some : goal.returns-then-rest-ne0-clause-some
returns-then-rest-ne0-clause-some c = alone_found c.args.words.now c.args.from _ c.requires.within (omega (arith, c.type_inv.words 0)) refl (omega arith)

pub returns-else-rest-ne0-clause-none : goal.returns-else-rest-ne0-clause-none
returns-else-rest-ne0-clause-none c none j le = alone_none c.args.words.now c.args.from _ c.requires.within c.requires.one refl (omega arith) j le
