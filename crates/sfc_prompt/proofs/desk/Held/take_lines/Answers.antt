use Rattle.std.proofs.Common.{◌≡◌, subst, [], ◌++◌, ℕ, List, Bool}
use Rattle.std.proofs.lemmas.Result.{err_from_is_err_and}
use Rattle.sfc_base.proofs.Written.{Appends-more, Appends-none, front_second}
use Rattle.sfc_prompt.specs.declared.prompt.Flow.{Flow}
use Rattle.sfc_prompt.specs.declared.prompt.Flow.TheVariants.{GoesOn, Ends}
use Rattle.sfc_prompt.specs.Prompts.{session_in}
use Rattle.sfc_prompt.proofs.Stepping.{match_none}
use Rattle.sfc_prompt.proofs.Waits.{Taking, taken_all, taken_to_quit, taking_broken, taking_line, taking_none}
use Rattle.sfc_prompt.proofs.Writing.{breaks_then, told_nothing, told_then}
use Rattle.sfc_prompt.proofs.desk.Held.take_lines.Goals as goal

pub returns-in_err-flow-clause-tells : goal.returns-in_err-flow-clause-tells
returns-in_err-flow-clause-tells g c =
    let f = err_from_is_err_and c.from_residual.result c.from_residual.ensures.1 in
    rw f.1 (breaks_then (session_in c.args.self.now.prompt) (session_in c.lines.self.prompt) (session_in c.take.new.self.prompt)
    (g.W.Write.contents c.args.self.now.w) (g.W.Write.contents c.lines.self.w) (g.W.Write.contents c.take.new.self.w)
    c.lines.invariant.tells c.in_err-flow.ensures.tells)

pub returns-in_err-flow-clause-walks : goal.returns-in_err-flow-clause-walks
returns-in_err-flow-clause-walks g c terminal bytes waits =
    let f = err_from_is_err_and c.from_residual.result c.from_residual.ensures.1 in
    let so_far = c.lines.invariant.walks terminal bytes waits in
    let part = c.in_err-flow.ensures.walks in
    let first = c.in-Some.ensures.line so_far.1.left so_far.1.waits in
    rw f.1 (
      so_far.0 ++ part.0,
      taking_broken terminal c.args.self.now.prompt bytes c.lines.self.prompt c.lines.arrived so_far.0 part.0 so_far.1 c.in-Some.line.now
          c.in-Some.is_long c.in-Some.left first part.1,
      front_second (g.W.Write.contents c.args.self.now.w) (g.W.Write.contents c.lines.self.w) (g.W.Write.contents c.take.new.self.w)
          so_far.0 part.0 so_far.2 part.2,
    )

pub returns-in-Ends-clause-tells : goal.returns-in-Ends-clause-tells
returns-in-Ends-clause-tells g c =
    told_then (session_in c.args.self.now.prompt) (session_in c.lines.self.prompt) (session_in c.take.new.self.prompt)
    (g.W.Write.contents c.args.self.now.w) (g.W.Write.contents c.lines.self.w) (g.W.Write.contents c.take.new.self.w)
    c.lines.invariant.tells c.in_ok-flow.ensures.tells

pub returns-in-Ends-clause-walks : goal.returns-in-Ends-clause-walks
returns-in-Ends-clause-walks g c terminal bytes waits =
    let so_far = c.lines.invariant.walks terminal bytes waits in
    let line = c.in_ok-flow.ensures.walks in
    let first = c.in-Some.ensures.line so_far.1.left so_far.1.waits in
    let ends : c.in_ok-flow.flow ≡ Ends = c.in-Ends.is in
    let taking = taking_line terminal c.args.self.now.prompt bytes c.lines.self.prompt c.take.new.self.prompt c.lines.arrived c.keep.new.self
    so_far.0 line.0 so_far.1 c.in-Some.line.now c.in-Some.is_long c.in-Some.left c.in_ok-flow.flow first line.1.0 line.1.1
    c.keep.ensures.lines c.keep.ensures.whole in (
      so_far.0 ++ line.0,
      taken_to_quit terminal c.args.self.now.prompt bytes c.take.new.self.prompt c.keep.new.self (so_far.0 ++ line.0)
          (subst (λ (flow : Flow). Taking terminal c.args.self.now.prompt c.take.new.self.prompt bytes c.keep.new.self flow (so_far.0 ++ line.0))
          ends taking),
      Appends-more (g.W.Write.contents c.args.self.now.w) (g.W.Write.contents c.lines.self.w) (g.W.Write.contents c.take.new.self.w)
          so_far.0 line.0 so_far.2 line.2,
    )

pub lines-preserved : goal.lines-preserved
lines-preserved g c = record {
  empty = c.in_ok-flow.ensures.empty;
  idle = c.in_ok-flow.ensures.idle;
  tells = told_then (session_in c.args.self.now.prompt) (session_in c.lines.self.prompt) (session_in c.take.new.self.prompt)
      (g.W.Write.contents c.args.self.now.w) (g.W.Write.contents c.lines.self.w) (g.W.Write.contents c.take.new.self.w)
      c.lines.invariant.tells c.in_ok-flow.ensures.tells;
  walks = λ (terminal : Bool) (bytes : List ℕ) waits.
      let so_far = c.lines.invariant.walks terminal bytes waits in
      let line = c.in_ok-flow.ensures.walks in
      let first = c.in-Some.ensures.line so_far.1.left so_far.1.waits in
      let goes : c.in_ok-flow.flow ≡ GoesOn = c.in-GoesOn.is in
      let taking = taking_line terminal c.args.self.now.prompt bytes c.lines.self.prompt c.take.new.self.prompt c.lines.arrived c.keep.new.self
      so_far.0 line.0 so_far.1 c.in-Some.line.now c.in-Some.is_long c.in-Some.left c.in_ok-flow.flow first line.1.0 line.1.1
      c.keep.ensures.lines c.keep.ensures.whole in (
        so_far.0 ++ line.0,
        subst (λ (flow : Flow). Taking terminal c.args.self.now.prompt c.take.new.self.prompt bytes c.keep.new.self flow (so_far.0 ++ line.0))
            goes taking,
        Appends-more (g.W.Write.contents c.args.self.now.w) (g.W.Write.contents c.lines.self.w) (g.W.Write.contents c.take.new.self.w)
            so_far.0 line.0 so_far.2 line.2,
      );
}

pub lines-init : goal.lines-init
lines-init g c = record {
  empty = c.requires.empty;
  idle = c.requires.idle;
  tells = told_nothing (session_in c.args.self.now.prompt) (g.W.Write.contents c.args.self.now.w);
  walks = λ (terminal : Bool) (bytes : List ℕ) waits. (
    [],
    taking_none terminal c.args.self.now.prompt bytes c.args.arrived.now waits,
    Appends-none (g.W.Write.contents c.args.self.now.w),
  );
}

pub returns-clause-walks : goal.returns-clause-walks
returns-clause-walks g c terminal bytes waits =
    let so_far = c.lines.invariant.walks terminal bytes waits in (
      so_far.0,
      taken_all terminal c.args.self.now.prompt bytes c.lines.self.prompt c.lines.arrived so_far.0 so_far.1
          (match_none c.first.result _ _ c.in_default.not-Some (c.first.ensures.line so_far.1.left so_far.1.waits)),
      so_far.2,
    )
