use Rattle.sfc_prompt.specs.Prompts.{session_in}
use Rattle.sfc_prompt.proofs.Telling.{puts_nothing, puts_then}
use Rattle.sfc_editing.proofs.saying.take_steps.Goals as goal

pub steps-init : goal.steps-init
steps-init c = puts_nothing (session_in c.args.prompt.now) c.args.out.now.items

pub steps-preserved : goal.steps-preserved
steps-preserved c =
    puts_then (session_in c.args.prompt.now) (session_in c.steps.prompt) (session_in c.go_on.new.self) c.args.out.now.items
    c.steps.out.items c.go_on.new.out.items c.steps.invariant c.in_ok-go_on.ensures.puts
