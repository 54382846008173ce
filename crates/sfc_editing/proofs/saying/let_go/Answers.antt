use Rattle.sfc_prompt.specs.Prompts.{session_in}
use Rattle.sfc_prompt.proofs.Telling.{puts_nothing}
use Rattle.sfc_editing.proofs.saying.let_go.Goals as goal

pub returns-else-is_halted : goal.returns-else-is_halted
returns-else-is_halted c = puts_nothing (session_in c.args.prompt.now) c.args.out.now.items
