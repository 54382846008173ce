use Rattle.std.proofs.Common.{◌≡◌, ◌∙◌, [], arith, ap, sym}
use Rattle.sfc_flags.specs.Flags.{places_from}
use Rattle.sfc_action.specs.Private.Marking.{marked_at, presets_at}
use Rattle.sfc_action.proofs.Stepping.{all_past}
use Rattle.sfc_action.proofs.Works.{all_left}
use Rattle.sfc_action.proofs.marking.mark_active.Goals as goal

pub returns-then-words-eq1-clause-inputs : goal.returns-then-words-eq1-clause-inputs
returns-then-words-eq1-clause-inputs c =
    let none : places_from c.args.active.now 64 ≡ [] = all_past c.args.active.now 64 (omega (arith, c.words.ensures, c.if-words-eq1.true)) in
    sym (ap (λ places. marked_at c.args.tables.now.associations places c.mark_word.new.inputs) none) ∙ c.mark_word.ensures.inputs

pub returns-then-words-eq1-clause-presets : goal.returns-then-words-eq1-clause-presets
returns-then-words-eq1-clause-presets c =
    let none : places_from c.args.active.now 64 ≡ [] = all_past c.args.active.now 64 (omega (arith, c.words.ensures, c.if-words-eq1.true)) in
    sym (ap (λ places. presets_at c.args.associations.times.now c.args.tables.now.associations places c.mark_word.new.presets) none)
    ∙ c.mark_word.ensures.presets

pub returns-then-words-eq1-clause-ticks : goal.returns-then-words-eq1-clause-ticks
returns-then-words-eq1-clause-ticks c =
    (omega (arith, c.mark_word.ensures.rises), omega (arith, c.mark_word.ensures.ticks, all_left c.args.tables.now.associations))
