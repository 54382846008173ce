use Rattle.sfc_prompt.proofs.desk.serve.Goals as goal

pub returns : goal.returns
returns g c =
    (c.obey_pieces-served.new.held.prompt, c.obey_pieces-served.ensures.tells, c.obey_pieces-served.ensures.serves)
