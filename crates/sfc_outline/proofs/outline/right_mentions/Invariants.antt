use Rattle.std.proofs.Common.{All}
use Rattle.sfc_outline.specs.Places.{IsMentionOf}
use Rattle.sfc_outline.proofs.outline.right_mentions.Given as goal

abbrev pub invariant-loop-mention : goal.invariant-loop-mention
invariant-loop-mention l = All (IsMentionOf l.text) l.right.items
