use Rattle.std.proofs.Common.{◌≡◌, ℕ, List}
use Rattle.sfc_output.specs.sfc_debug.Histories.{CommandHistory}
use Rattle.sfc_session.specs.Sessions.{HasSaid, steered_in}
use Rattle.sfc_session.proofs.Trying.{GoesThrough}
use Rattle.sfc_session.proofs.scanning.try_tasks.Given as goal

abbrev pub invariant-tasks : goal.invariant-tasks
invariant-tasks l = record {
  steered : steered_in l.session ≡ steered_in l.initial.session;
  through : (h : CommandHistory) (lines : List ℕ) → HasSaid l.initial.session h lines →
      GoesThrough l.initial.session l.session l.initial.out.items l.out.items h lines l.raw l.number l.earliest;
}
