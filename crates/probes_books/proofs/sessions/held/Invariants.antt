use Rattle.sfc_control.specs.sfc_debug.Agreement.{plant_of, table_of, mask_of}
use Rattle.probes_books.proofs.sessions.held.Given as goal

abbrev pub ghosts-run-L-Ledger : goal.ghosts-run-L-Ledger
ghosts-run-L-Ledger g a = record { name = a.blank.name; parts = a.blank.parts }

abbrev pub ghosts-run-L-OpenedWith : goal.ghosts-run-L-OpenedWith
ghosts-run-L-OpenedWith g a = record { plant = plant_of a.debugger; table = table_of a.debugger; mask = mask_of a.debugger; limit = a.plan.now.limit }
