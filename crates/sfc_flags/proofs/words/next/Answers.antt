use Rattle.std.proofs.Common.{◌/◌, refl, arith}
use Rattle.sfc_flags.proofs.Nexts.{found, found_behind, none_behind}
use Rattle.sfc_flags.proofs.words.next.Goals as goal

pub overflow_add-result : goal.overflow_add-result
overflow_add-result c = omega (arith, (found c.args.words.now c.args.from _ (omega (arith, c.type_inv.words (c.args.from / 64))) refl (omega arith)).1)

pub returns-then-rest-ne0-clause-some : goal.returns-then-rest-ne0-clause-some
returns-then-rest-ne0-clause-some c = (found c.args.words.now c.args.from _ (omega (arith, c.type_inv.words (c.args.from / 64))) refl (omega arith)).0

pub returns-then-k-words-clause-some : goal.returns-then-k-words-clause-some
returns-then-k-words-clause-some c =
    found_behind c.args.words.now c.args.from _ c.first_word-k.result refl (omega arith) c.first_word-k.ensures.none
    _ refl (omega arith) (omega (arith, c.type_inv.words c.first_word-k.result)) (c.first_word-k.ensures.some (omega arith))

pub returns-else-k-words-clause-none : goal.returns-else-k-words-clause-none
returns-else-k-words-clause-none c none j le =
    none_behind c.args.words.now c.args.from _ c.first_word-k.result refl (omega arith) c.first_word-k.ensures.none (omega arith) j le
