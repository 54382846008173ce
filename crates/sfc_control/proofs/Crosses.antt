-- Which values may go to another thread, or be shared by threads.
use denote.Param.Send.{IsSend, IsSync, sendable}
use denote.RattleType.{RattleType}
use Rattle.std.proofs.Crossing.{crosses}
use Rattle.std.proofs.sync.ledger.Book.TheSendSync as ledger
use Rattle.std.specs.declared.sync.ledger.Ledger as ledger_words
use Rattle.rtrb.proofs.producer.Producer.TheSendSync as producer
use Rattle.sfc_events.proofs.command.TraceRow.TheSendSync as row
use Rattle.sfc_debug.proofs.Crosses.{debugger_send}
use Rattle.sfc_debug.proofs.opening.DebugOpening.TheSendSync as opening
use Rattle.sfc_control.proofs.bells.Bells.TheSendSync as bells
use Rattle.sfc_control.proofs.history.History.TheSendSync as history
use Rattle.sfc_control.specs.declared.opened_with.OpenedWith.{Ghosts}
use Rattle.sfc_control.specs.contracts.book.Book as Book
use Rattle.sfc_control.specs.contracts.locked.Locked as Locked
use Rattle.sfc_control.specs.contracts.controller.Controller as Controller

pub book_send : IsSend (Book.the_field).row
book_send = search (sendable, crosses, debugger_send, opening.the_field_send, history.the_field_send, producer.the_field_send, row.the_send) depth 20

pub locked_send : (L : RattleType) (g : Ghosts L.Denot) (l : ledger_words.Ghosts L.Denot) → IsSend (Locked.the_field L g l).row
locked_send L g l = search (sendable, book_send, ledger.the_send)

pub controller_sync : (L : RattleType) (g : Ghosts L.Denot) (l : ledger_words.Ghosts L.Denot) → IsSync (Controller.the_field L g l).row
controller_sync L g l = search (sendable, crosses, locked_send, bells.the_field_sync) depth 12
