use Rattle.std.proofs.Common.{◌≡◌, ◌++◌, take, flat_map}
use Rattle.sfc_drawing.specs.Elements.{line_text}
use Rattle.sfc_drawing.proofs.element.append_lines.Given as goal

abbrev pub invariant-loop-line : goal.invariant-loop-line
invariant-loop-line l = l.out.items ≡ l.initial.out.items ++ flat_map (line_text l.class l.most) (take l.line-index l.lines)
