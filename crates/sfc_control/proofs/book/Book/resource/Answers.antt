use Rattle.std.proofs.Math.Logic.{∥∥₁_map}
use Rattle.sfc_control.specs.Histories.{whole}
use Rattle.sfc_control.specs.LegalHistory.{commands_of}
use Rattle.sfc_control.proofs.book.Book.resource.Goals as goal

pub returns-clause-agrees : goal.returns-clause-agrees
returns-clause-agrees c =
    let b = c.args.self.now in
    ∥∥₁_map b.agrees (λ a. c.resource.ensures.agrees (commands_of (whole b.history)) a)
