use Rattle.std.proofs.Common.{◌≡◌, length}
use Rattle.std.specs.Prelude.{min}
use Rattle.sfc_run.proofs.Posting.{Posts}
use Rattle.sfc_run.proofs.run_opening.posts_of.Given as goal

abbrev pub invariant-seats : goal.invariant-seats
invariant-seats g l = record {
  number : l.number ≡ min (length l.yielded) 255;
  posts : Posts l.yielded l.posts.items;
}
