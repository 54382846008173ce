use Rattle.std.proofs.Common.{◌/◌, ◌%◌, ◌^◌, ◌∙◌, ap, sym, arith}
use Rattle.sfc_flags.specs.Private.Bits.{apart}
use Rattle.sfc_flags.proofs.Apart.{length-apart}
use Rattle.sfc_flags.proofs.Nexts.{found, found_behind, none_behind}
use Rattle.sfc_flags.proofs.words.next_difference.Goals as goal

pub overflow_add-result : goal.overflow_add-result
overflow_add-result c =
    omega (
      arith,
      (found (apart c.args.words.now c.args.other.now) c.args.from _ (omega (arith, c.difference.ensures))
          (ap (λ w. w / 2 ^ (c.args.from % 64)) c.difference.ensures) (omega arith)).1,
    )

pub returns-then-differing-ne0-clause-some : goal.returns-then-differing-ne0-clause-some
returns-then-differing-ne0-clause-some c =
    (found (apart c.args.words.now c.args.other.now) c.args.from _ (omega (arith, c.difference.ensures))
    (ap (λ w. w / 2 ^ (c.args.from % 64)) c.difference.ensures) (omega arith)).0

pub returns-then-k-words-clause-some : goal.returns-then-k-words-clause-some
returns-then-k-words-clause-some c =
    let some = c.first_apart-k.ensures.some (omega (arith, length-apart c.args.words.now c.args.other.now c.requires.len)) in
    found_behind (apart c.args.words.now c.args.other.now) c.args.from _ c.first_apart-k.result
    (ap (λ w. w / 2 ^ (c.args.from % 64)) c.difference.ensures) (omega arith) c.first_apart-k.ensures.none
    _ c.difference-then-k-words.ensures (omega arith) (omega arith) (λ zero. some (sym c.difference-then-k-words.ensures ∙ zero))

pub returns-else-k-words-clause-none : goal.returns-else-k-words-clause-none
returns-else-k-words-clause-none c none j le =
    none_behind (apart c.args.words.now c.args.other.now) c.args.from _ c.first_apart-k.result
    (ap (λ w. w / 2 ^ (c.args.from % 64)) c.difference.ensures) (omega arith) c.first_apart-k.ensures.none
    (omega (arith, length-apart c.args.words.now c.args.other.now c.requires.len)) j le

pub returns-else-k-words-clause-ticks : goal.returns-else-k-words-clause-ticks
returns-else-k-words-clause-ticks c =
    let same = length-apart c.args.words.now c.args.other.now c.requires.len in
    (omega arith, omega (arith, same))
