use Rattle.std.proofs.Common.{◌≤◌, ◌-◌, length}
use Rattle.std.specs.Io.KnownBytes.{Consumes}
use Rattle.sfc_replay.proofs.input.read_to_end.Given as goal

abbrev pub invariant-all : goal.invariant-all
invariant-all g l = record {
  few : length l.bytes.items ≤ 1048577;
  taken : Consumes (g.R.Read.remaining l.initial.reader) (g.R.Read.remaining l.reader) l.bytes.items;
}

abbrev pub decreases-all : goal.decreases-all
decreases-all g l = 1048577 - length l.bytes.items
