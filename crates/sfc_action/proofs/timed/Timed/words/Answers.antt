use Rattle.std.proofs.Common.{arith, ap, ◌∙◌}
use Rattle.sfc_action.specs.declared.timed_words.TimedWords.{TimedWords}
use Rattle.sfc_action.specs.Private.Rows.{timed_in}
use Rattle.sfc_action.proofs.SetTables.{timed_size, timed_word}
use Rattle.sfc_action.proofs.timed.Timed.words.Goals as goal

pub index-requires : goal.index-requires
index-requires c =
    let few = timed_size c.self.inside.count c.self.inside.words.items c.args.self.now c.self.invariant c.self.view_is in
    omega (arith, few.0, c.requires)

pub returns : goal.returns
returns c a e =
    let few = timed_size c.self.inside.count c.self.inside.words.items c.args.self.now c.self.invariant c.self.view_is in
    ap (λ (w : TimedWords). timed_in w a) c.index.ensures
    ∙ timed_word c.self.inside.count c.self.inside.words.items c.args.self.now c.self.invariant c.self.view_is c.args.number a c.index.result.now e
    (omega (arith, few.0, c.requires))
