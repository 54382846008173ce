use Rattle.sfc_image.proofs.OutputMemos.{given_holds}
use Rattle.sfc_image.proofs.image.Image.assign_outputs.Goals as goal

pub give_changed-requires-clause-given : goal.give_changed-requires-clause-given
give_changed-requires-clause-given c plant changes a h =
    given_holds plant c.args.self.now changes c.args.instance a c.requires.instance (c.holds_memo.ensures.generation c.if-holds_memo.true) h
