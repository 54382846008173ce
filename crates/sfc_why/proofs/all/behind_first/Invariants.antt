use Rattle.std.proofs.Common.{◌≡◌, ◌≢◌, ◌≤◌, All, length}
use Rattle.sfc_why.specs.Telling.{RisesFrom, start}
use Rattle.sfc_why.proofs.Rising.{next_place}
use Rattle.sfc_why.proofs.all.behind_first.Given as goal

abbrev pub invariant-all : goal.invariant-all
invariant-all l = record {
  rises : RisesFrom 0 l.others.items;
  next : next_place 0 l.others.items ≡ l.least;
  apart : All (λ other. start other ≢ l.first) l.others.items;
  few : length l.others.items ≤ 99;
}

abbrev pub decreases-all : goal.decreases-all
decreases-all l = length l.left.items
