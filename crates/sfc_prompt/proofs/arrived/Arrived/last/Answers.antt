use Rattle.std.proofs.Common.{◌≡◌, ◌∙◌, sym, ap, ◌==◌, true, false, length}
use Rattle.sfc_prompt.proofs.Waits.{last_some}
use Rattle.sfc_prompt.proofs.arrived.Arrived.last.Goals as goal
use Rattle.sfc_prompt.proofs.arrived.Arrived.last.Goals.{else-is_empty-via-then-is_empty+else-not-self, else-is_empty-via-else-is_empty}

pub returns : goal.returns
returns c bytes waits unended = elim c.else-is_empty.branch [
  | else-is_empty-via-then-is_empty+else-not-self w ↦
      last_some c.args.self.now bytes waits c.waiting-line.result.now c.is_long.result c.waiting-line.ensures c.is_long.ensures unended
      (λ cut none. let bad : true ≡ false = sym w.if-not-self.false ∙ cut in absurd (cc))
  | else-is_empty-via-else-is_empty w ↦
      last_some c.args.self.now bytes waits c.waiting-line.result.now c.is_long.result c.waiting-line.ensures c.is_long.ensures unended
      (λ cut none. let bad : true ≡ false =
      sym (c.is_empty.ensures ∙ ap (λ l. length l == 0) (c.waiting-line.ensures ∙ none)) ∙ w.if-is_empty.false in absurd (cc))
]
