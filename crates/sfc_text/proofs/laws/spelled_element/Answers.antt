use Rattle.sfc_text.proofs.SpelledCharts.{element_derives}
use Rattle.sfc_text.proofs.laws.spelled_element.Goals as goal

pub returns : goal.returns
returns c = λ limits e rest h. element_derives limits e rest h
