use Rattle.std.proofs.Common.{◌∙◌, sym}
use Rattle.sfc_action.specs.Private.Calling.{called_of}
use Rattle.sfc_action.specs.Private.Rows.{stores_after, has_fault}
use Rattle.sfc_action.proofs.Rows.{inputs_past, stores_after_past}
use Rattle.sfc_action.proofs.control_scan.ControlScan.settle_word.Goals as goal

pub put_word-requires-clause-past : goal.put_word-requires-clause-past
put_word-requires-clause-past c a at le =
    let inputs = c.args.self.now.inputs in
    let stores = c.args.stored.now.stores in
    let next = c.after-stores.ensures a ∙ (λ i. stores_after (c.words-inputs.ensures a at i) (c.words.ensures a at i).stores) in
    c.called-called.ensures a ∙ (λ i. called_of (c.words-inputs.ensures a at i) (next i))
    ∙ (λ i. called_of (inputs_past _ a le inputs c.requires.sized.inputs i)
    (stores_after_past _ a le inputs stores c.requires.sized.inputs c.requires.stored.stores i))

pub returns-clause-faultless : goal.returns-clause-faultless
returns-clause-faultless c ok a at =
    let next = c.after-stores.ensures a ∙ (λ i. stores_after (c.words-inputs.ensures a at i) (c.words.ensures a at i).stores) in
    sym (λ i. has_fault (c.words-inputs.ensures a at i) (next i)) ∙ c.are_faultless.ensures ok a
