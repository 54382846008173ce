use Rattle.std.proofs.Common.{◌++◌}
use Rattle.std.proofs.lemmas.Result.{err_from_is_err_and}
use Rattle.sfc_base.proofs.Written.{Appends-more, front_second}
use Rattle.sfc_prompt.specs.Prompts.{session_in}
use Rattle.sfc_prompt.proofs.Walking.{all_taken, answers_break, part_then}
use Rattle.sfc_prompt.proofs.Writing.{breaks_then, told_then}
use Rattle.sfc_prompt.proofs.desk.Held.obey.Goals as goal

pub returns-in_err-flow-clause-walks : goal.returns-in_err-flow-clause-walks
returns-in_err-flow-clause-walks g c =
    let f = err_from_is_err_and c.from_residual.result c.from_residual.ensures.1 in
    let part = c.in_err-flow.ensures.walks in
    rw f.1 (part.0, answers_break c.args.self.now.prompt c.args.line.now part.0 part.1, part.2)

pub returns-in_err-go_on-clause-tells : goal.returns-in_err-go_on-clause-tells
returns-in_err-go_on-clause-tells g c =
    let f = err_from_is_err_and c.from_residual-in_err-go_on.result c.from_residual-in_err-go_on.ensures.1 in
    rw f.1 (breaks_then (session_in c.args.self.now.prompt) (session_in c.answer.new.self.prompt) (session_in c.go_on.new.self.prompt)
    (g.W.Write.contents c.args.self.now.w) (g.W.Write.contents c.answer.new.self.w) (g.W.Write.contents c.go_on.new.self.w)
    c.in_ok-flow.ensures.tells c.in_err-go_on.ensures.tells)

pub returns-in_err-go_on-clause-walks : goal.returns-in_err-go_on-clause-walks
returns-in_err-go_on-clause-walks g c =
    let f = err_from_is_err_and c.from_residual-in_err-go_on.result c.from_residual-in_err-go_on.ensures.1 in
    let first = c.in_ok-flow.ensures.walks in
    let rest = c.in_err-go_on.ensures.walks in
    rw f.1 (
      first.0 ++ rest.0,
      part_then c.args.self.now.prompt c.answer.new.self.prompt c.args.line.now first.0 rest.0 first.1.0 rest.1,
      front_second (g.W.Write.contents c.args.self.now.w) (g.W.Write.contents c.answer.new.self.w) (g.W.Write.contents c.go_on.new.self.w)
          first.0 rest.0 first.2 rest.2,
    )

pub returns-clause-tells : goal.returns-clause-tells
returns-clause-tells g c =
    told_then (session_in c.args.self.now.prompt) (session_in c.answer.new.self.prompt) (session_in c.go_on.new.self.prompt)
    (g.W.Write.contents c.args.self.now.w) (g.W.Write.contents c.answer.new.self.w) (g.W.Write.contents c.go_on.new.self.w)
    c.in_ok-flow.ensures.tells c.in_ok-go_on.ensures.tells

pub returns-clause-walks : goal.returns-clause-walks
returns-clause-walks g c =
    let first = c.in_ok-flow.ensures.walks in
    let rest = c.in_ok-go_on.ensures.walks in (
      first.0 ++ rest.0,
      (
        all_taken c.args.self.now.prompt c.answer.new.self.prompt c.go_on.new.self.prompt c.args.line.now first.0 rest.0 first.1.0 rest.1
            c.in_ok-go_on.ensures.idle,
        first.1.1,
      ),
      Appends-more (g.W.Write.contents c.args.self.now.w) (g.W.Write.contents c.answer.new.self.w) (g.W.Write.contents c.go_on.new.self.w)
          first.0 rest.0 first.2 rest.2,
    )
