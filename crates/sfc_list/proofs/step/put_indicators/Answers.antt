use Rattle.std.proofs.Common.{ℕ, List, subst, sym}
use Rattle.sfc_list.specs.Private.Parts.{indicator_text}
use Rattle.sfc_list.specs.Private.Sinking.{Puts}
use Rattle.sfc_list.proofs.Sunk.{puts_next, puts_all}
use Rattle.sfc_list.proofs.Texts.{indicators_each}
use Rattle.sfc_list.proofs.step.put_indicators.Goals as goal

pub returns : goal.returns
returns g c =
    let n : _ = g.W.Write.contents in
    subst (λ (text : List ℕ). Puts n c.args.out.now c.loop-indicator.out text) (sym (indicators_each c.args.names.now c.args.indicators.now))
    (puts_all n _ _ (indicator_text c.args.names.now) c.args.indicators.now c.loop-indicator.indicator-index c.loop-indicator-test.false
    c.loop-indicator.invariant)

pub loop-indicator-preserved : goal.loop-indicator-preserved
loop-indicator-preserved g c =
    puts_next g.W.Write.contents _ _ _ (indicator_text c.args.names.now) c.args.indicators.now c.loop-indicator.indicator-index _
    c.loop-indicator-test.true c.loop-indicator.invariant c.put_indicator.ensures
