use Rattle.std.proofs.Common.{◌≡◌, ◌∙◌, refl, sym, subst}
use Rattle.sfc_output.specs.sfc_core.Agreement.{plant_of}
use Rattle.sfc_output.specs.sfc_core.PlantState.{state_of}
use Rattle.sfc_output.specs.sfc_instance.Views.{Shows, instance_in, plant_in, tables_in}
use Rattle.sfc_output.specs.sfc_tables.Tables.{tables_of}
use Rattle.sfc_plant.specs.Finding.{chart_of}
use Rattle.sfc_plant.specs.Plants.{PlantData}
use Rattle.sfc_panel.specs.Changes.{stands_alike}
use Rattle.sfc_panel.proofs.panel.shown_end.Goals as goal

pub returns-then-stands_as : goal.returns-then-stands_as
returns-then-stands_as c h g stand =
    let before = c.program-before in
    let behind = c.program-behind in
    let plant = plant_of c.args.passed.before.now in
    let plants : plant_in behind.result ≡ plant_in before.result = behind.ensures.plant ∙ stand.plant ∙ sym before.ensures.plant in
    let instances : instance_in behind.result ≡ instance_in before.result = behind.ensures.instance ∙ sym before.ensures.instance in
    let same : tables_in behind.result ≡ tables_in before.result = λ i. tables_of (chart_of (plants i) (instances i)) in
    let own : tables_in before.result ≡ tables_of (chart_of plant c.args.program) =
    λ i. tables_of (chart_of (before.ensures.plant i) (before.ensures.instance i)) in
    let alike : c.stands_as.result ≡ stands_alike (tables_of (chart_of plant c.args.program))
    ((state_of plant h).instance_state c.args.program.0) ((state_of plant g).instance_state c.args.program.0) =
    subst (λ t. c.stands_as.result ≡ stands_alike t ((state_of plant h).instance_state c.args.program.0)
    ((state_of plant g).instance_state c.args.program.0)) own
    (c.stands_as.ensures same (state_of plant h).changes (state_of plant g).changes ((state_of plant h).instance_state c.args.program.0)
    ((state_of plant g).instance_state c.args.program.0) (before.ensures.shows h stand.before)
    (subst (λ (p : PlantData). Shows behind.result (state_of p g).changes ((state_of p g).instance_state c.args.program.0)) stand.plant
    (behind.ensures.shows g stand.behind))) in
    rw c.in-Scanned.is (rw (sym c.contains.ensures ∙ c.if-contains.true) (rw (sym alike ∙ c.if-stands_as.true) refl))

pub returns-else-stands_as : goal.returns-else-stands_as
returns-else-stands_as c h g stand =
    let before = c.program-before in
    let behind = c.program-behind in
    let plant = plant_of c.args.passed.before.now in
    let plants : plant_in behind.result ≡ plant_in before.result = behind.ensures.plant ∙ stand.plant ∙ sym before.ensures.plant in
    let instances : instance_in behind.result ≡ instance_in before.result = behind.ensures.instance ∙ sym before.ensures.instance in
    let same : tables_in behind.result ≡ tables_in before.result = λ i. tables_of (chart_of (plants i) (instances i)) in
    let own : tables_in before.result ≡ tables_of (chart_of plant c.args.program) =
    λ i. tables_of (chart_of (before.ensures.plant i) (before.ensures.instance i)) in
    let alike : c.stands_as.result ≡ stands_alike (tables_of (chart_of plant c.args.program))
    ((state_of plant h).instance_state c.args.program.0) ((state_of plant g).instance_state c.args.program.0) =
    subst (λ t. c.stands_as.result ≡ stands_alike t ((state_of plant h).instance_state c.args.program.0)
    ((state_of plant g).instance_state c.args.program.0)) own
    (c.stands_as.ensures same (state_of plant h).changes (state_of plant g).changes ((state_of plant h).instance_state c.args.program.0)
    ((state_of plant g).instance_state c.args.program.0) (before.ensures.shows h stand.before)
    (subst (λ (p : PlantData). Shows behind.result (state_of p g).changes ((state_of p g).instance_state c.args.program.0)) stand.plant
    (behind.ensures.shows g stand.behind))) in
    rw c.in-Scanned.is (rw (sym c.contains.ensures ∙ c.if-contains.true) (rw (sym alike ∙ c.if-stands_as.false) refl))
