use Rattle.sfc_debug.specs.Agreement.{plant_of, table_of}
use Rattle.sfc_debug.specs.Openings.{past_of}
use Rattle.sfc_debug.specs.Past.{debug_past}
use Rattle.sfc_control.specs.Histories.{whole}
use Rattle.sfc_control.proofs.Applying.{count_is}
use Rattle.sfc_control.proofs.Cutting.{Past-set}
use Rattle.sfc_control.proofs.Legal.{here}
use Rattle.sfc_control.proofs.book.Book.save.Goals as goal

pub returns-clause-count : goal.returns-clause-count
returns-clause-count c =
    let b = c.args.self.now in
    count_is b.debugger (whole b.history) c.accepted.result b.agrees (λ h a. c.accepted.ensures h a)

pub returns-clause-past : goal.returns-clause-past
returns-clause-past c =
    let b = c.args.self.now in
    here Past-set b.debugger (whole b.history) (λ h. debug_past (plant_of b.debugger) (table_of b.debugger) h)
    (past_of (plant_of b.debugger) c.save.new.opening) b.agrees (λ h a. c.save.ensures.saved h a)
