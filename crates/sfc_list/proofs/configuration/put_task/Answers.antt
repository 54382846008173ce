use Rattle.std.proofs.Common.{rules, w64, ℕ, List, subst}
use Rattle.std.proofs.lemmas.Int.{to_z-of_z}
use mir.Val.{SFits}
use Rattle.std.specs.Fmt.{decimal}
use Rattle.sfc_list.specs.Listing.{interval_text}
use Rattle.sfc_list.specs.Private.Sinking.{Puts}
use Rattle.sfc_list.proofs.Sunk.{puts_then}
use Rattle.sfc_list.proofs.configuration.put_task.Goals as goal

pub returns : goal.returns
returns g c =
    let n : _ = g.W.Write.contents in
    let fits : SFits w64 c.args.task.now.interval = search rules in
    let interval : Puts n c.put_single.new.out c.put_interval.new.out (interval_text c.args.task.now.interval) =
    simp (to_z-of_z, fits) at c.put_interval.ensures in
    let name : Puts n c.put.new.self c.put-2.new.self c.args.task.now.name =
    subst (λ (text : List ℕ). Puts n c.put.new.self c.put-2.new.self text) c.spelling.ensures.value c.put-2.ensures in
    let number : Puts n c.put-4.new.self c.put_number.new.self (decimal c.args.task.now.priority) =
    subst (λ (k : ℕ). Puts n c.put-4.new.self c.put_number.new.self (decimal k)) c.from.ensures c.put_number.ensures in
    (puts_then n _ _ _ _ _ (puts_then n _ _ _ _ _ (puts_then n _ _ _ _ _ (puts_then n _ _ _ _ _ (puts_then n _ _ _ _ _ (puts_then n _ _ _ _ _ (puts_then n _ _ _ _ _ c.put.ensures name) c.put-3.ensures) c.put_single.ensures) interval) c.put-4.ensures) number) c.put-5.ensures)
