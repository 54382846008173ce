use Rattle.sfc_flags.specs.Words.{has}
use Rattle.sfc_flags.proofs.Has.{before_shows, after_shows}
use Rattle.sfc_flags.proofs.word.Word.before.Goals as goal

pub returns-clause-before : goal.returns-clause-before
unfolding has
returns-clause-before c other same lt = before_shows c.args.place other same lt

pub returns-clause-others : goal.returns-clause-others
unfolding has
returns-clause-others c other same le = after_shows c.args.place other same le
