use Rattle.std.proofs.Common.{◌/◌, ◌^◌, ap, arith}
use Rattle.sfc_flags.specs.Private.Bits.{apart}
use Rattle.sfc_flags.proofs.Apart.{length-apart}
use Rattle.sfc_flags.proofs.Nexts.{alone_found, alone_none}
use Rattle.sfc_flags.proofs.words.next_difference_in_one.Goals as goal

pub returns-then-differing-ne0-clause-some : goal.returns-then-differing-ne0-clause-some
returns-then-differing-ne0-clause-some c =
    alone_found (apart c.args.words.now c.args.other.now) c.args.from _ c.requires.within (omega (arith, c.difference.ensures))
    (ap (λ w. w / 2 ^ c.args.from) c.difference.ensures) (omega arith)

pub returns-else-differing-ne0-clause-none : goal.returns-else-differing-ne0-clause-none
returns-else-differing-ne0-clause-none c none j le =
    alone_none (apart c.args.words.now c.args.other.now) c.args.from _ c.requires.within
    (omega (arith, length-apart c.args.words.now c.args.other.now c.requires.len))
    (ap (λ w. w / 2 ^ c.args.from) c.difference.ensures) (omega arith) j le

pub returns-else-differing-ne0-clause-ticks : goal.returns-else-differing-ne0-clause-ticks
returns-else-differing-ne0-clause-ticks c =
    let same = length-apart c.args.words.now c.args.other.now c.requires.len in
    (omega arith, omega (arith, same))
