use Rattle.sfc_control.specs.sfc_debug.Agreement.{plant_of, table_of, mask_of}
use Rattle.sfc_run.proofs.run.run_chart.Given as goal

abbrev pub ghosts-run_with-L-Ledger : goal.ghosts-run_with-L-Ledger
ghosts-run_with-L-Ledger g a = record { name = a.blank.name; parts = a.blank.parts }

abbrev pub ghosts-run_with-L-OpenedWith : goal.ghosts-run_with-L-OpenedWith
ghosts-run_with-L-OpenedWith g a =
    record { plant = plant_of a.opened.debugger; table = table_of a.opened.debugger; mask = mask_of a.opened.debugger; limit = a.ready.asked.history }
