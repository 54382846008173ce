use Rattle.std.proofs.Common.{length}
use Rattle.sfc_cover.proofs.drawing.instance_marks.Goals as goal

pub typed_marks-requires : goal.typed_marks-requires
typed_marks-requires c = (length c.args.plant.now.globals, c.in-Some.ensures.sound)
