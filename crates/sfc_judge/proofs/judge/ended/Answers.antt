use Rattle.std.proofs.Common.{◌∙◌, sym, ap}
use Rattle.std.specs.Prelude.{is_none}
use Rattle.sfc_judge.specs.Running.Benches.{steered_in}
use Rattle.sfc_judge.specs.Running.Watching.{held_in}
use Rattle.sfc_judge.proofs.Passing.{ends}
use Rattle.sfc_judge.proofs.judge.ended.Goals as goal

pub returns-in-Some : goal.returns-in-Some
returns-in-Some c = λ m stands.
    sym (ap is_none c.in-Some.is)
    ∙ ends (steered_in c.args.bench.now) m (held_in c.args.pending.now) (held_in c.look.new.self) c.look.result (c.look.ensures m stands)

pub returns-in-None : goal.returns-in-None
returns-in-None c = λ m stands.
    sym (ap is_none c.in-None.is)
    ∙ ends (steered_in c.args.bench.now) m (held_in c.args.pending.now) (held_in c.look.new.self) c.look.result (c.look.ensures m stands)
