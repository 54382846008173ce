use Rattle.std.proofs.Common.{◌≡◌, take, drop}
use Rattle.sfc_frames.specs.Heads.{line_of}
use Rattle.sfc_frames.proofs.Lines.{behind}
use Rattle.sfc_frames.proofs.line.line_of.Given as goal

abbrev pub invariant-all : goal.invariant-all
invariant-all l = record {
  place : l.count ≡ l.byte-index;
  split : line_of l.bytes ≡ behind (take l.count l.bytes) (line_of (drop l.count l.bytes));
}
