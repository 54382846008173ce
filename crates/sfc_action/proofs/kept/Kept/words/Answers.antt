use Rattle.std.proofs.Common.{arith, ap, ◌∙◌}
use Rattle.sfc_action.specs.declared.kept_words.KeptWords.{KeptWords}
use Rattle.sfc_action.specs.Private.Rows.{kept_in}
use Rattle.sfc_action.proofs.SetTables.{kept_size, kept_word}
use Rattle.sfc_action.proofs.kept.Kept.words.Goals as goal

pub index-requires : goal.index-requires
index-requires c =
    let few = kept_size c.self.inside.count c.self.inside.words.items c.args.self.now c.self.invariant c.self.view_is in
    omega (arith, few.0, c.requires)

pub returns : goal.returns
returns c a e =
    let few = kept_size c.self.inside.count c.self.inside.words.items c.args.self.now c.self.invariant c.self.view_is in
    ap (λ (w : KeptWords). kept_in w a) c.index.ensures
    ∙ kept_word c.self.inside.count c.self.inside.words.items c.args.self.now c.self.invariant c.self.view_is c.args.number a c.index.result.now e
    (omega (arith, few.0, c.requires))
