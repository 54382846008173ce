use Rattle.sfc_control.specs.Histories.{whole}
use Rattle.sfc_control.proofs.Applying.{count_is}
use Rattle.sfc_control.proofs.book.Book.accepted.Goals as goal

pub returns : goal.returns
returns c = count_is c.args.self.now.debugger (whole c.args.self.now.history) c.accepted.result c.args.self.now.agrees (λ h a. c.accepted.ensures h a)
