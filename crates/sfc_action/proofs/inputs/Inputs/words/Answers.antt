use Rattle.std.proofs.Common.{arith, ap, ◌∙◌}
use Rattle.sfc_action.specs.declared.input_words.InputWords.{InputWords}
use Rattle.sfc_action.specs.Private.Rows.{inputs_in}
use Rattle.sfc_action.proofs.SetTables.{inputs_size, inputs_word}
use Rattle.sfc_action.proofs.inputs.Inputs.words.Goals as goal

pub index-requires : goal.index-requires
index-requires c =
    let few = inputs_size c.self.inside.count c.self.inside.words.items c.args.self.now c.self.invariant c.self.view_is in
    omega (arith, few.0, c.requires)

pub returns : goal.returns
returns c a e =
    let few = inputs_size c.self.inside.count c.self.inside.words.items c.args.self.now c.self.invariant c.self.view_is in
    ap (λ (w : InputWords). inputs_in w a) c.index.ensures
    ∙ inputs_word c.self.inside.count c.self.inside.words.items c.args.self.now c.self.invariant c.self.view_is c.args.number a c.index.result.now e
    (omega (arith, few.0, c.requires))
