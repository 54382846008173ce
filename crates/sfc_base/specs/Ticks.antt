-- Bounds on counted work.
use Rattle.std.specs.Prelude.{ℕ, ◌+◌, ◌≤◌}
use Rattle.sfc_base.specs.declared.ticks.Ticks.{Ticks}

-- from the old count to the new one it is at most n, and none was taken away
abbrev pub Within : ℕ → Ticks → Ticks → Type 0
Within n old new = (old.count ≤ new.count) × (new.count ≤ old.count + n)
