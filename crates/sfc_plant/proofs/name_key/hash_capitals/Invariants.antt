use Rattle.std.proofs.Common.{◌≡◌, take, fold, flat_map}
use Rattle.std.specs.Str.{str_to_ascii_uppercase}
use Rattle.std.specs.Hash as fed
use Rattle.sfc_plant.proofs.name_key.hash_capitals.Given as goal

abbrev pub invariant-loop-byte : goal.invariant-loop-byte
invariant-loop-byte g l = l.state ≡ fold g.H.Hasher.write l.initial.state (flat_map fed.u8 (str_to_ascii_uppercase (take l.byte-index l.word)))
