use Rattle.std.proofs.Common.{rules, ◌∙◌, sym, w64, SFits, to_z-of_z}
use Rattle.sfc_judge.specs.Running.Benches.{Accepted, Stands, debugger_in, steered_in}
use Rattle.sfc_judge.proofs.Told.{told_kept}
use Rattle.sfc_judge.proofs.bench.Bench.keep.Goals as goal

pub returns-in-Some-clause-stands : goal.returns-in-Some-clause-stands
unfolding Accepted Stands debugger_in steered_in
returns-in-Some-clause-stands c = λ m accepted.
    let st = steered_in c.args.self.now in
    let fits : SFits w64 c.args.raw = search rules in
    record {
      agrees = accepted.agrees;
      clock = accepted.clock;
      last = to_z-of_z fits;
      count = c.keep_told.ensures.len ∙ accepted.count;
      told = told_kept st c.args.self.now.told.items c.keep_told.new.told.items m.history (c.args.command, c.args.raw) c.in-Some.task
          c.overruns-overruns.result (sym c.task_of.ensures ∙ c.in-Some.is) (c.overruns-overruns.ensures.agrees _ accepted.agrees) accepted.count
          c.keep_told.ensures.kept c.keep_told.ensures.others accepted.told;
      stimuli = accepted.stimuli;
    }
