use Rattle.sfc_prompt.specs.Prompts.{session_in}
use Rattle.sfc_prompt.proofs.Telling.{puts_nothing, puts_then}
use Rattle.sfc_editing.proofs.back.obey_lines.Goals as goal

pub lines-init : goal.lines-init
lines-init c = puts_nothing (session_in c.args.prompt.now) c.args.out.now.items

pub lines-preserved : goal.lines-preserved
lines-preserved c =
    puts_then (session_in c.args.prompt.now) (session_in c.lines.prompt) (session_in c.say_words.new.prompt) c.args.out.now.items
    c.lines.out.items c.say_words.new.out.items c.lines.invariant c.in_ok-say_words.ensures
