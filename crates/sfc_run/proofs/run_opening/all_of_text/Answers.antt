use Rattle.std.proofs.Common.{◌≡◌, ◌∙◌, Ok, ap, sym}
use Rattle.sfc_control.specs.sfc_debug.Agreement.{plant_of, table_of}
use Rattle.sfc_replay.specs.sfc_load.Built as built
use Rattle.sfc_run.proofs.run_opening.all_of_text.Goals as goal

pub returns-clause-loads : goal.returns-clause-loads
returns-clause-loads c =
    (c.in_ok-debugger.ensures.loaded, c.in_ok-names.ensures.loaded, c.in_ok-follower.ensures.loaded, c.in_ok-before.ensures.loaded)

pub returns-clause-alike : goal.returns-clause-alike
returns-clause-alike c =
    let one = c.in_ok-before.ensures.loaded in
    let two = c.in_ok-follower.ensures.loaded in
    let tree : one.tree ≡ two.tree = c.one_reading.ensures c.args.text.now (Ok one.tree) (Ok two.tree) one.read two.read in
    let plants : plant_of c.in_ok-before.before ≡ plant_of c.in_ok-follower.follower =
    sym one.built ∙ ap (λ t. built.plant_of t) tree ∙ two.built in
    let tables : table_of c.in_ok-before.before ≡ table_of c.in_ok-follower.follower =
    c.in_ok-before.ensures.table ∙ sym c.in_ok-follower.ensures.table in
    λ i. record { plant = plants i; table = tables i }

pub returns-clause-same : goal.returns-clause-same
returns-clause-same c =
    let one = c.in_ok-follower.ensures.loaded in
    let two = c.in_ok-debugger.ensures.loaded in
    let tree : one.tree ≡ two.tree = c.one_reading.ensures c.args.text.now (Ok one.tree) (Ok two.tree) one.read two.read in
    let plants : plant_of c.in_ok-follower.follower ≡ plant_of c.in_ok-debugger.debugger =
    sym one.built ∙ ap (λ t. built.plant_of t) tree ∙ two.built in
    let tables : table_of c.in_ok-follower.follower ≡ table_of c.in_ok-debugger.debugger =
    c.in_ok-follower.ensures.table ∙ sym c.in_ok-debugger.ensures.table in
    λ i. record { plant = plants i; table = tables i }
