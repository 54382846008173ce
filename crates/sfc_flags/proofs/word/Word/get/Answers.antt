use Rattle.std.proofs.Common.{◌%◌, refl}
use Rattle.std.proofs.lemmas.Nat.Bits.{shr_and_one}
use Rattle.sfc_flags.specs.Words.{has}
use Rattle.sfc_flags.proofs.word.Word.get.Goals as goal

pub returns : goal.returns
unfolding has
returns c = rw (shr_and_one c.args.self.0 (c.args.place % 64)) refl
