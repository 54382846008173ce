use Rattle.std.proofs.Common.{◌≡◌, ◌∙◌, ℕ, drop, ap, sym, arith}
use Rattle.sfc_base.specs.declared.ids.ProgId.{ProgId}
use Rattle.sfc_plant.specs.InstanceSpaces.{space_of}
use Rattle.sfc_plant.specs.Finding.{chart_of}
use Rattle.sfc_debug.specs.sfc_tables.Tables.{tables_of}
use Rattle.sfc_debug.specs.sfc_instance.Views.{plant_in}
use Rattle.sfc_output.specs.Memories.{effects_text}
use Rattle.sfc_page.proofs.Lines.{put_behind}
use Rattle.sfc_output.proofs.program.put_done.Goals as goal

pub behind-requires : goal.behind-requires
behind-requires c =
    let put = put_behind c.args.out.now.items c.args.line.now c.put_sets.new.out.items c.put_sets.new.line _ c.in_ok-put_sets.ensures
    (omega (arith, c.len.ensures, c.len-passed_on.ensures, c.if-len-passed_on.false)) in
    omega (arith, put.0, c.len-held.ensures)

pub returns-clause-fits : goal.returns-clause-fits
returns-clause-fits c fits =
    let plant = plant_in c.args.view.now in
    let p = c.instance-2.result in
    let sets = c.sets_of-sets.result in
    let put = put_behind c.args.out.now.items c.args.line.now c.put_sets.new.out.items c.put_sets.new.line _ c.in_ok-put_sets.ensures
    (omega (arith, c.len.ensures, c.len-passed_on.ensures, c.if-len-passed_on.false)) in
    let same : c.instance.result ≡ p = c.instance.ensures.value ∙ sym c.instance-2.ensures.value in
    let names : c.names-names.result ≡ space_of plant p = c.names-names.ensures ∙ (λ i. space_of (c.plant.ensures i) (same i)) in
    let tables : c.tables.result.now ≡ tables_of (chart_of plant p) =
    c.tables.ensures ∙ ap (λ (q : ProgId). tables_of (chart_of plant q)) (sym c.instance-2.ensures.value) in
    let text : c.behind.result.now ≡ effects_text (space_of plant p) (tables_of (chart_of plant p)) sets.cleared.now sets.executed.now =
    c.behind.ensures ∙ ap (λ (n : ℕ). drop n c.put_sets.new.line) c.len-held.ensures ∙ put.1
    ∙ (λ i. effects_text (names i) (tables i) sets.cleared.now sets.executed.now) in
    c.keep.ensures plant text fits
