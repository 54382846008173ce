use Rattle.std.proofs.Common.{length, ◌∙◌, ap, sym, arith}
use Rattle.sfc_flags.specs.Flags.{flag}
use Rattle.sfc_flags.specs.Private.Bits.{bit}
use Rattle.sfc_flags.proofs.Views.{length_of, flag_of}
use Rattle.sfc_flags.proofs.flags.Flags.get.Goals as goal

pub get-requires : goal.get-requires
get-requires c = omega (arith, length_of c.self.inside.count c.self.inside.words.items, ap length c.self.view_is)

pub returns : goal.returns
returns c =
    c.get.ensures ∙ ap (λ w. bit w c.args.place) c.deref.ensures.value
    ∙ sym (flag_of c.self.inside.count c.self.inside.words.items c.self.invariant.table c.args.place) ∙ ap (λ f. flag f c.args.place) c.self.view_is
