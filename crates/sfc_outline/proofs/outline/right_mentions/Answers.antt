use Rattle.std.proofs.Common.{◌∙◌, ap, refl, subst, sym, All}
use Rattle.std.proofs.lemmas.List.Elements.{All-push}
use Rattle.sfc_outline.specs.Places.{IsMentionOf}
use Rattle.sfc_outline.proofs.outline.right_mentions.Goals as goal
use Rattle.sfc_outline.proofs.outline.right_mentions.Goals.{then-is_mention_of+in_ok-push, else-is_mention_of}

pub loop-mention-preserved : goal.loop-mention-preserved
loop-mention-preserved c = elim c.if-is_mention_of.branch [
  | then-is_mention_of+in_ok-push w ↦
      subst (All (IsMentionOf c.args.text.now)) (sym (ap (λ right. right.items) w.right-is ∙ w.in_ok-push.ensures.items))
      (All-push (IsMentionOf c.args.text.now) c.loop-mention.right.items _ c.loop-mention.invariant (w.if-is_mention_of.ensures refl))
  | else-is_mention_of w ↦ subst (λ right. All (IsMentionOf c.args.text.now) right.items) (sym w.right-is) c.loop-mention.invariant
]
