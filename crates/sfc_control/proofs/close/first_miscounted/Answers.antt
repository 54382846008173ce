use Rattle.std.proofs.Common.{rules, sym, ◌∙◌, refl}
use Rattle.sfc_control.specs.Books.{accepted}
use Rattle.sfc_control.specs.Closing.{CountsRight}
use Rattle.sfc_control.proofs.Firsts.{before_more, first_not}
use Rattle.sfc_control.proofs.close.first_miscounted.Goals as goal

pub loop-seat-preserved : goal.loop-seat-preserved
loop-seat-preserved g c =
    before_more (CountsRight (accepted c.args.book.now)) c.args.seats.now c.loop-seat.seat-index c.seat-item.result c.loop-seat.invariant (search rules) c.seat-item.is (search rules)

pub returns-then-calls-seat : goal.returns-then-calls-seat
returns-then-calls-seat g c =
    (c.loop-seat.seat-index, c.seat-item.result, first_not (CountsRight (accepted c.args.book.now)) c.args.seats.now c.loop-seat.seat-index c.seat-item.result c.loop-seat.invariant (search rules) c.seat-item.is (λ e. c.if-calls-seat.true (c.calls.ensures ∙ sym e)), refl)
