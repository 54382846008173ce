use Rattle.std.proofs.Common.{◌≡◌, ◌++◌, flat_map, take}
use Rattle.sfc_test.specs.Documents.{byte_text}
use Rattle.sfc_test.proofs.junit.append_text.Given as goal

abbrev pub invariant-loop-byte : goal.invariant-loop-byte
invariant-loop-byte l = l.out.items ≡ l.initial.out.items ++ flat_map byte_text (take l.byte-index l.bytes)
