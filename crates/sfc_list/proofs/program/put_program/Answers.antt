use Rattle.std.proofs.Common.{List, codes, subst}
use Rattle.sfc_base.specs.declared.references.GlobalId.{GlobalId}
use Rattle.sfc_plant.specs.declared.variable.Variable.{Variable}
use Rattle.sfc_plant.specs.Spaces.{Space, space_in}
use Rattle.sfc_list.specs.Layout.{block}
use Rattle.sfc_list.specs.Listing.{variable_text, external_text, chart_text}
use Rattle.sfc_list.specs.Private.Sinking.{Puts}
use Rattle.sfc_list.proofs.Sunk.{puts_then}
use Rattle.sfc_list.proofs.program.put_program.Goals as goal

pub returns : goal.returns
returns g c =
    let n : _ = g.W.Write.contents in
    let locals : Puts n c.put_name_line.new.out c.put_locals.new.out (block 1 (codes "VAR") variable_text c.args.program.now.locals) =
    subst (λ (vs : List Variable). Puts n c.put_name_line.new.out c.put_locals.new.out (block 1 (codes "VAR") variable_text vs))
    c.as_slice.ensures c.put_locals.ensures in
    let externals : Puts n c.put_locals.new.out c.put_external_block.new.out
    (block 1 (codes "VAR_EXTERNAL") (external_text (space_in c.args.globals.now c.args.program.now)) c.args.program.now.externals) =
    subst (λ (ids : List GlobalId). Puts n c.put_locals.new.out c.put_external_block.new.out
    (block 1 (codes "VAR_EXTERNAL") (external_text (space_in c.args.globals.now c.args.program.now)) ids)) c.as_slice-2.ensures
    (subst (λ (space : Space). Puts n c.put_locals.new.out c.put_external_block.new.out
    (block 1 (codes "VAR_EXTERNAL") (external_text space) c.as_slice-2.result.now)) c.new-names.ensures c.put_external_block.ensures) in
    let chart : Puts n c.put_external_block.new.out c.put_chart.new.out
    (chart_text (space_in c.args.globals.now c.args.program.now) c.args.program.now.chart) =
    subst (λ (space : Space). Puts n c.put_external_block.new.out c.put_chart.new.out (chart_text space c.args.program.now.chart))
    c.new-names.ensures c.put_chart.ensures in
    (puts_then n _ _ _ _ _ (puts_then n _ _ _ _ _ (puts_then n _ _ _ _ _ (puts_then n _ _ _ _ _ c.put_name_line.ensures locals) externals) chart) c.put.ensures)
