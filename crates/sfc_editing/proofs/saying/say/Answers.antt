use Rattle.sfc_prompt.specs.Prompts.{session_in}
use Rattle.sfc_prompt.proofs.Telling.{puts_then}
use Rattle.sfc_editing.proofs.saying.say.Goals as goal

pub returns : goal.returns
returns g c =
    puts_then (session_in c.args.prompt.now) (session_in c.obey.new.self) (session_in c.take_steps.new.prompt) c.args.out.now.items
    c.obey.new.out.items c.take_steps.new.out.items c.in_ok-flow.ensures.puts c.in_ok-take_steps.ensures
