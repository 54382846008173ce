use Rattle.std.proofs.Common.{◌≡◌, ◌∙◌, sym, [], ◌++◌, true}
use Rattle.std.specs.Prelude.{is_some}
use Rattle.std.proofs.lemmas.Result.{err_from_is_err_and}
use Rattle.sfc_base.proofs.Written.{Appends-more, Appends-none, front_second}
use Rattle.sfc_prompt.specs.Prompts.{course_in, session_in}
use Rattle.sfc_prompt.proofs.Stepping.{none_of}
use Rattle.sfc_prompt.proofs.Walking.{steps_more, steps_none, steps_then}
use Rattle.sfc_prompt.proofs.Writing.{breaks_then, told_nothing, told_then}
use Rattle.sfc_prompt.proofs.desk.Held.go_on.Goals as goal

pub returns-in_err-step-clause-tells : goal.returns-in_err-step-clause-tells
returns-in_err-step-clause-tells g c =
    let f = err_from_is_err_and c.from_residual.result c.from_residual.ensures.1 in
    rw f.1 (breaks_then (session_in c.args.self.now.prompt) (session_in c.steps.self.prompt) (session_in c.step.new.self.prompt)
    (g.W.Write.contents c.args.self.now.w) (g.W.Write.contents c.steps.self.w) (g.W.Write.contents c.step.new.self.w)
    c.steps.invariant.tells c.in_err-step.ensures.tells)

pub returns-in_err-step-clause-walks : goal.returns-in_err-step-clause-walks
returns-in_err-step-clause-walks g c =
    let f = err_from_is_err_and c.from_residual.result c.from_residual.ensures.1 in
    let walks = c.steps.invariant.walks in
    let rest = c.in_err-step.ensures.walks in
    rw f.1 (
      walks.0 ++ rest.0,
      steps_then c.args.self.now.prompt c.steps.self.prompt walks.0 rest.0 walks.1 rest.1,
      front_second (g.W.Write.contents c.args.self.now.w) (g.W.Write.contents c.steps.self.w) (g.W.Write.contents c.step.new.self.w)
          walks.0 rest.0 walks.2 rest.2,
    )

pub returns-clause-idle : goal.returns-clause-idle
returns-clause-idle g c =
    none_of (course_in c.steps.self.prompt) (sym c.is_under_way.ensures ∙ c.steps-test.false)

pub steps-preserved : goal.steps-preserved
steps-preserved g c =
    let walks = c.steps.invariant.walks in
    let next = c.in_ok-step.ensures.walks in
    let more : is_some (course_in c.steps.self.prompt) ≡ true = sym c.is_under_way.ensures ∙ c.steps-test.true in
    record {
      empty = c.in_ok-step.ensures.empty;
      tells = told_then (session_in c.args.self.now.prompt) (session_in c.steps.self.prompt) (session_in c.step.new.self.prompt)
          (g.W.Write.contents c.args.self.now.w) (g.W.Write.contents c.steps.self.w) (g.W.Write.contents c.step.new.self.w)
          c.steps.invariant.tells c.in_ok-step.ensures.tells;
      walks = (
        walks.0 ++ next.0,
        steps_more c.args.self.now.prompt c.steps.self.prompt c.step.new.self.prompt walks.0 next.0 walks.1 next.1,
        Appends-more (g.W.Write.contents c.args.self.now.w) (g.W.Write.contents c.steps.self.w) (g.W.Write.contents c.step.new.self.w)
            walks.0 next.0 walks.2 next.2,
      );
    }

pub steps-init : goal.steps-init
steps-init g c = record {
  empty = c.requires;
  tells = told_nothing (session_in c.args.self.now.prompt) (g.W.Write.contents c.args.self.now.w);
  walks = ([], steps_none c.args.self.now.prompt, Appends-none (g.W.Write.contents c.args.self.now.w));
}
