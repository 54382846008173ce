use Rattle.std.proofs.Common.{arith}
use Rattle.sfc_prompt.specs.Prompts.{session_in}
use Rattle.sfc_prompt.proofs.Telling.{puts_nothing, puts_then}
use Rattle.sfc_editing.proofs.burst.scan_on.Goals as goal

pub scans-init : goal.scans-init
scans-init c = record {
  puts = puts_nothing (session_in c.args.prompt.now) c.args.out.now.items;
  few = omega arith;
}

pub scans-preserved : goal.scans-preserved
scans-preserved c = record {
  puts = puts_then (session_in c.args.prompt.now) (session_in c.scans.prompt) (session_in c.give.new.prompt) c.args.out.now.items
      c.scans.out.items c.give.new.out.items c.scans.invariant.puts c.in_ok-end.ensures;
  few = omega arith;
}

pub returns-in-Some-clause-puts : goal.returns-in-Some-clause-puts
returns-in-Some-clause-puts c =
    puts_then (session_in c.args.prompt.now) (session_in c.scans.prompt) (session_in c.give.new.prompt) c.args.out.now.items
    c.scans.out.items c.give.new.out.items c.scans.invariant.puts c.in_ok-end.ensures
