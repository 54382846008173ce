use Rattle.std.proofs.lemmas.Result.{err_from_is_err_and}
use Rattle.sfc_text.specs.Trees.{source_of}
use Rattle.sfc_replay.proofs.Checked.{read_refused, load_refused}
use Rattle.sfc_replay.proofs.chart.plant_of_text.Goals as goal

pub returns-in_err-tree : goal.returns-in_err-tree
returns-in_err-tree c =
    let p = err_from_is_err_and c.from_residual.result c.from_residual.ensures.1 in
    rw (p.1, p.2) (read_refused c.args.text.now c.in_err-tree.field-0.0 c.in_err-tree.ensures)

pub returns-in_err-plant : goal.returns-in_err-plant
returns-in_err-plant c =
    let p = err_from_is_err_and c.from_residual-in_err-plant.result c.from_residual-in_err-plant.ensures.1 in
    rw (p.1, p.2) (load_refused c.args.text.now (source_of c.in_ok-tree.tree) c.in_err-plant.field-0.0 c.in_ok-tree.ensures c.in_err-plant.ensures)
