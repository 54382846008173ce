use Rattle.std.proofs.Common.{◌≡◌, ◌∙◌}
use Rattle.sfc_output.specs.Memories.{effects_text}
use Rattle.sfc_output.proofs.effects.Effects.text_of.Goals as goal

pub returns-then-is_same-2 : goal.returns-then-is_same-2
returns-then-is_same-2 c space tables right =
    let cleared : c.args.self.now.cleared ≡ c.args.sets.now.cleared.now = c.is_same.ensures.0 c.if-is_same.true in
    let executed : c.args.self.now.executed ≡ c.args.sets.now.executed.now = c.is_same-then-is_same.ensures.0 c.if-is_same-2.true in
    c.is_kept.ensures (effects_text space tables c.args.self.now.cleared c.args.self.now.executed) right c.if-is_kept.true
    ∙ (λ i. effects_text space tables (cleared i) (executed i))
