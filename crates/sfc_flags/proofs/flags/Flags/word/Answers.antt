use Rattle.std.proofs.Common.{length, ◌∙◌, ◌%◌, ◌==◌, ap, arith, get_or}
use Rattle.std.specs.Int.{bit_at}
use Rattle.sfc_flags.specs.Flags.{flag}
use Rattle.sfc_flags.specs.Words.{has}
use Rattle.sfc_flags.proofs.Views.{length_of}
use Rattle.sfc_flags.proofs.Has.{word_shows}
use Rattle.sfc_flags.proofs.flags.Flags.word.Goals as goal

pub word-requires : goal.word-requires
word-requires c =
    omega (arith, length_of c.self.inside.count c.self.inside.words.items, ap length c.self.view_is, ap length c.deref.ensures.value, c.self.invariant.table.sized)

pub returns : goal.returns
unfolding has
returns c place e =
    ap (λ w. bit_at w (place % 64) == 1) (c.word.ensures ∙ ap (λ ws. get_or ws c.args.number 0) c.deref.ensures.value)
    ∙ word_shows c.self.inside.count c.self.inside.words.items c.self.invariant.table c.args.number place e ∙ ap (λ f. flag f place) c.self.view_is
