use Rattle.std.proofs.Common.{◌≡◌, ◌+◌}
use Rattle.sfc_control.specs.Seats.{AreFresh}
use Rattle.sfc_control.proofs.controller.seats_of.Given as goal

abbrev pub invariant-loop-number : goal.invariant-loop-number
invariant-loop-number g l = (l.rest.parts + l.number ≡ l.count) × (l.rest.amount ≡ 0) × AreFresh l.number l.seats.items
