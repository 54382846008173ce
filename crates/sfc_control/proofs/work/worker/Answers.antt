use Rattle.std.proofs.Common.{arith, ◌<◌, ◌≤◌, ◌∷◌, ◌++◌, [], Option, refl, ap, subst, ◌∙◌}
use Rattle.std.proofs.Math.Nat.{le-max_left}
use Rattle.sfc_events.specs.declared.command.Command.TheVariants.{Scan}
use Rattle.sfc_control.specs.declared.given.AcceptedCall.{AcceptedCall}
use Rattle.sfc_control.specs.declared.receipt.Receipt.{Receipt}
use Rattle.sfc_control.specs.Calls.{last_of, receipts_of}
use Rattle.sfc_control.specs.Holding.{first_after, first_in}
use Rattle.sfc_control.specs.Working.{IsScanOf, last_index}
use Rattle.sfc_control.proofs.Indices.{rises_from}
use Rattle.sfc_control.proofs.Kept.{receives_none, receives_push, receives_same, kept_and_one}
use Rattle.sfc_control.proofs.work.worker.Goals as goal

pub turns-init : goal.turns-init
turns-init g c = record {
  number = refl;
  command = refl;
  received = receives_none c.args.seat.number c.args.task c.args.seat.given.calls c.args.seat.first c.new-receipts.result.items c.new-receipts.ensures.items;
}

pub let_go-requires-clause-kept : goal.let_go-requires-clause-kept
let_go-requires-clause-kept g c =
    let was = c.turns.invariant.received in
    let r = c.in-Ok.receipt in
    let items = c.push_reserved.ensures.items ∙ ap (λ l. l ++ r ∷ []) (c.reserve.ensures.items ∙ c.make_room.ensures.items) in
    let below : last_index c.turns.seat.last < r.index = rises_from g.L.OpenedWith.plant g.L.OpenedWith.table c.turns.seat.last r c.in-Ok.ensures.legal in
    let low : c.turns.seat.first ≤ r.index = omega (arith, below, c.turns.seat.met) in
    rw items (kept_and_one c.turns.seat.first (receipts_of was.more) c.turns.receipts.items r was.held low)

pub let_go-requires-clause-rising : goal.let_go-requires-clause-rising
let_go-requires-clause-rising g c =
    let called = c.in-Ok.ensures.entered in
    rw called.3.held (le-max_left c.turns.seat.first (first_after (Scan c.args.task) (first_in called.1) c.in-Ok.receipt.index))

pub turns-preserved-in-Ok : goal.turns-preserved-in-Ok
turns-preserved-in-Ok g c =
    let was = c.turns.invariant in
    let old = c.turns.seat in
    let new = c.call_seen.new.self in
    let r = c.in-Ok.receipt in
    let called = c.in-Ok.ensures.entered in
    let call : AcceptedCall = record { receipt = r; cut = first_after (Scan c.args.task) (first_in called.1) r.index } in
    let items = c.push_reserved.ensures.items ∙ ap (λ l. l ++ r ∷ []) (c.reserve.ensures.items ∙ c.make_room.ensures.items) in
    let below : last_index (last_of old.given.calls) < r.index =
    subst (λ (last : Option Receipt). last_index last < r.index) old.latest (rises_from g.L.OpenedWith.plant g.L.OpenedWith.table old.last r c.in-Ok.ensures.legal) in
    let rises : old.first ≤ new.first = rw called.3.held (le-max_left old.first call.cut) in
    let scan : IsScanOf c.args.seat.number c.args.task r = (c.in-Ok.ensures.receipt.0 ∙ was.number, c.in-Ok.ensures.receipt.1 ∙ was.command) in
    record {
      number = c.in-Ok.ensures.number ∙ was.number;
      command = was.command;
      received = receives_push c.args.seat.number c.args.task c.args.seat.given.calls old.given.calls new.given.calls old.first new.first
          c.turns.receipts.items c.let_go.new.receipts.items call was.received scan below called.3.put rises (rw items at c.let_go.ensures);
    }

pub turns-preserved : goal.turns-preserved
turns-preserved g c =
    let was = c.turns.invariant in
    let same = c.in-Err.ensures.seat in
    record {
      number = ap (λ s. s.number) same ∙ was.number;
      command = was.command;
      received = receives_same c.args.seat.number c.args.task c.args.seat.given.calls c.turns.seat.given.calls c.call_seen.new.self.given.calls
          c.turns.seat.first c.call_seen.new.self.first c.turns.receipts.items c.reserve.new.self.items was.received
          (ap (λ s. s.given.calls) same) (ap (λ s. s.first) same) (c.reserve.ensures.items ∙ c.make_room.ensures.items);
    }
