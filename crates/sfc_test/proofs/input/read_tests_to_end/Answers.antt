use Rattle.std.proofs.Common.{◌≡◌, ◌<◌, ◌≤◌, ◌++◌, length, take, arith}
use Rattle.std.proofs.lemmas.List.{length-append, length-take}
use Rattle.std.proofs.lemmas.Result.{err_from_is_err_and}
use Rattle.sfc_replay.proofs.Taken.{consumes_more, most_taken, all_taken}
use Rattle.sfc_test.proofs.input.read_tests_to_end.Goals as goal
use Rattle.sfc_test.proofs.input.read_tests_to_end.Goals.{else-all-test, then-all-test+in-Ok+then-count-eq0}

pub returns-in_err-extend_from_slice-clause-lost :
    goal.returns-in_err-extend_from_slice-clause-lost
returns-in_err-extend_from_slice-clause-lost g c =
    let p = err_from_is_err_and c.from_residual.result c.from_residual.ensures.1 in
    let piece = take c.in-Ok.count c.read.new.buf in
    let few : length (c.all.bytes.items ++ piece) ≤ 67108865 =
    omega (arith, length-append c.all.bytes.items piece, length-take c.in-Ok.count c.read.new.buf, length-take c.min-wanted.result c.all.buffer) in
    rw p.1 (
      c.all.bytes.items ++ piece,
      few,
      consumes_more (g.R.Read.remaining c.args.reader.now) (g.R.Read.remaining c.all.reader) (g.R.Read.remaining c.read.new.self) c.all.bytes.items piece c.all.invariant.taken c.in-Ok.ensures.bytes.0,
    )

pub returns-clause-taken : goal.returns-clause-taken
returns-clause-taken g c = elim c.all-test.branch [
  | else-all-test w ↦ rw w.reader-is (most_taken 67108865 (g.R.Read.remaining c.args.reader.now) (g.R.Read.remaining c.all.reader) c.all.bytes.items (omega arith) c.all.invariant.taken)
  | then-all-test+in-Ok+then-count-eq0 w ↦
      let none : w.in-Ok.count ≡ 0 = w.if-count-eq0.true in
      let some : 0 < length w.read.new.buf = omega (arith, length-take w.min-wanted.result c.all.buffer) in
      rw w.reader-is (all_taken 67108865 (g.R.Read.remaining c.args.reader.now) (g.R.Read.remaining c.all.reader) (g.R.Read.remaining w.read.new.self) c.all.bytes.items c.all.invariant.few c.all.invariant.taken
      (rw none at w.in-Ok.ensures.bytes.0) (w.in-Ok.ensures.bytes.1 none some))
]
