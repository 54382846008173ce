use Rattle.sfc_drawing.specs.Elements.{line_text}
use Rattle.sfc_drawing.proofs.Joins.{item_more}
use Rattle.sfc_drawing.proofs.element.append_lines.Goals as goal

pub loop-line-preserved : goal.loop-line-preserved
loop-line-preserved c =
    item_more (line_text c.args.class.now c.args.most) _ _ _ c.args.lines.now c.loop-line.line-index c.line-item.result
    c.loop-line-test.true c.line-item.is c.loop-line.invariant c.in_ok-append_line.ensures
