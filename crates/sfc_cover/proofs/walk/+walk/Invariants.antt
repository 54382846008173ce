use Rattle.std.proofs.Common.{◌≡◌}
use Rattle.sfc_replay.specs.sfc_image.Agreement.{IsAsLarge, is_open}
use Rattle.sfc_cover.proofs.walk.+walk.Given as goal

abbrev pub invariant-walk_statements-loop-statement : goal.invariant-walk_statements-loop-statement
invariant-walk_statements-loop-statement l = record { large : IsAsLarge l.initial.image l.image; «open» : is_open l.image ≡ is_open l.initial.image }

abbrev pub invariant-walk_branches-loop-branch : goal.invariant-walk_branches-loop-branch
invariant-walk_branches-loop-branch l = record { large : IsAsLarge l.initial.image l.image; «open» : is_open l.image ≡ is_open l.initial.image }
