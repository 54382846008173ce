use Rattle.std.proofs.Common.{ℕ, List, ap, sym, subst, of_z, w64}
use Rattle.std.proofs.lemmas.Int.{to_z-of_z}
use Rattle.sfc_list.specs.Private.Sinking.{Puts}
use Rattle.sfc_list.proofs.Sunk.{puts_then}
use Rattle.sfc_list.proofs.Blocks.{some_interval}
use Rattle.sfc_list.proofs.configuration.put_interval.Goals as goal

pub returns : goal.returns
returns g c =
    let n : _ = g.W.Write.contents in
    subst (λ (text : List ℕ). Puts n c.args.out.now c.put-2.new.self text) (sym (some_interval c.args.interval (λ e. c.if-interval-eq0.false (ap (of_z w64) e))))
    (puts_then n _ _ _ _ _ (puts_then n _ _ _ _ _ c.put.ensures (simp (to_z-of_z, c.ranges.interval) at c.put_micros.ensures)) c.put-2.ensures)
