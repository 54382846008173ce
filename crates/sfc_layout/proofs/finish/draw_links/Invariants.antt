use Rattle.std.proofs.Common.{◌≡◌, ◌<◌, ℕ, get_or, length}
use Rattle.sfc_layout.specs.declared.chart.Link.{Link}
use Rattle.sfc_layout.specs.declared.drawing.Drawing.{Drawing}
use Rattle.sfc_layout.specs.declared.node_box.NodeBox.{NodeBox}
use Rattle.sfc_layout.specs.Links.{IsDrawn}
use Rattle.sfc_layout.proofs.finish.draw_links.Given as goal

abbrev pub invariant-loop-number : goal.invariant-loop-number
invariant-loop-number l = record {
  len : length l.drawings.items ≡ l.number;
  drawn : (k : ℕ) (r : Link) (d : Drawing) (b : NodeBox) → k < l.number →
      IsDrawn (get_or l.boxes (get_or l.links k r).source b) (get_or l.boxes (get_or l.links k r).target b) (get_or l.drawings.items k d);
}
