use Rattle.std.proofs.Common.{◌≡◌, arith}
use Rattle.std.specs.Prelude.{slice_set}
use Rattle.std.proofs.lemmas.List.{get_or-set_same, length-set}
use Rattle.sfc_flags.proofs.Views.{no_bit}
use Rattle.sfc_flags.proofs.words.clear_one.Goals as goal

pub returns-clause-bits : goal.returns-clause-bits
returns-clause-bits c = no_bit (slice_set c.args.words.now 0 0) (λ k lt.
    let size = length-set c.args.words.now 0 0 in
    let here : k ≡ 0 = omega (arith, size, c.requires) in
    rw here (get_or-set_same c.args.words.now 0 0 0 (omega arith)))
