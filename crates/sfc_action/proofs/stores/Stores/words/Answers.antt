use Rattle.std.proofs.Common.{arith, ap, ◌∙◌}
use Rattle.sfc_action.specs.declared.store_words.StoreWords.{StoreWords}
use Rattle.sfc_action.specs.Private.Rows.{stores_in}
use Rattle.sfc_action.proofs.SetTables.{stores_size, stores_word}
use Rattle.sfc_action.proofs.stores.Stores.words.Goals as goal

pub index-requires : goal.index-requires
index-requires c =
    let few = stores_size c.self.inside.count c.self.inside.words.items c.args.self.now c.self.invariant c.self.view_is in
    omega (arith, few.0, c.requires)

pub returns : goal.returns
returns c a e =
    let few = stores_size c.self.inside.count c.self.inside.words.items c.args.self.now c.self.invariant c.self.view_is in
    ap (λ (w : StoreWords). stores_in w a) c.index.ensures
    ∙ stores_word c.self.inside.count c.self.inside.words.items c.args.self.now c.self.invariant c.self.view_is c.args.number a c.index.result.now e
    (omega (arith, few.0, c.requires))
