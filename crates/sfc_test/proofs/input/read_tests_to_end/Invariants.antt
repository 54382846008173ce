use Rattle.std.proofs.Common.{◌≡◌, ◌≤◌, ◌-◌, length}
use Rattle.std.specs.Io.KnownBytes.{Consumes}
use Rattle.sfc_test.proofs.input.read_tests_to_end.Given as goal

abbrev pub invariant-all : goal.invariant-all
invariant-all g l = record {
  sized : length l.buffer ≡ 65536;
  few : length l.bytes.items ≤ 67108865;
  taken : Consumes (g.R.Read.remaining l.initial.reader) (g.R.Read.remaining l.reader) l.bytes.items;
}

abbrev pub decreases-all : goal.decreases-all
decreases-all g l = 67108865 - length l.bytes.items
