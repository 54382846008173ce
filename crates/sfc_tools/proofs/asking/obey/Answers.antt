use Rattle.sfc_prompt.proofs.Stepping.{answered_by}
use Rattle.sfc_tools.proofs.asking.obey.Goals as goal

pub returns : goal.returns
returns c =
    answered_by c.args.prompt.now c.obey.new.self c.new-text.result.items c.obey.new.out.items c.new-text.ensures.items c.args.line.now
    c.in_ok-obey.ensures.obeys c.in_ok-obey.ensures.last c.in_ok-obey.ensures.begins
