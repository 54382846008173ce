use Rattle.sfc_tools.proofs.telling.why_script.Goals as goal

pub returns : goal.returns
returns c = (c.in_ok-plant.plant, c.in_ok-plant.ensures, c.in_ok-said.said, c.in_ok-said.ensures, c.in_ok-text.ensures)
