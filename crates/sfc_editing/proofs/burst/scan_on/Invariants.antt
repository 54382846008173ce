use Rattle.std.proofs.Common.{◌-◌, ◌≤◌}
use Rattle.sfc_prompt.specs.Prompts.{session_in}
use Rattle.sfc_prompt.specs.Transcripts.{Puts}
use Rattle.sfc_editing.proofs.burst.scan_on.Given as goal

abbrev pub invariant-scans : goal.invariant-scans
invariant-scans l = record {
  puts : Puts (session_in l.initial.prompt) (session_in l.prompt) l.initial.out.items l.out.items;
  few : l.scans ≤ l.fn.most;
}

abbrev pub decreases-scans : goal.decreases-scans
decreases-scans l = l.fn.most - l.scans
