use Rattle.std.proofs.Common.{refl, sym, subst, ℕ, List, []}
use Rattle.std.proofs.lemmas.Result.{err_from_is_err_and}
use Rattle.sfc_base.proofs.Written.{Appends-none}
use Rattle.sfc_prompt.specs.Prompts.{session_in}
use Rattle.sfc_prompt.specs.Walks.{Walks, WalksInto}
use Rattle.sfc_prompt.proofs.Stepping.{match_none}
use Rattle.sfc_prompt.proofs.Walking.{into_line, invites_none, line_broken, line_taken, walk_one}
use Rattle.sfc_prompt.proofs.Writing.{told_nothing}
use Rattle.sfc_prompt.proofs.desk.Held.take_rest.Goals as goal

pub returns-in_default-clause-tells : goal.returns-in_default-clause-tells
returns-in_default-clause-tells g c = told_nothing (session_in c.args.self.now.prompt) (g.W.Write.contents c.args.self.now.w)

pub returns-in_default-clause-walks : goal.returns-in_default-clause-walks
returns-in_default-clause-walks g c terminal bytes waits unended = (
  [],
  subst (λ (ls : List (List ℕ)). Walks terminal ls c.args.self.now.prompt c.args.self.now.prompt []) (sym (match_none c.last.result _ _ c.in_default.not-Some (c.last.ensures bytes waits unended)))
      (refl, invites_none terminal),
  Appends-none (g.W.Write.contents c.args.self.now.w),
)

pub returns-in_err-take-clause-walks : goal.returns-in_err-take-clause-walks
returns-in_err-take-clause-walks g c terminal bytes waits unended =
    let f = err_from_is_err_and c.from_residual.result c.from_residual.ensures.1 in
    let part = c.in_err-take.ensures.walks in
    let only = c.in-Some.ensures bytes waits unended in
    rw f.1 (
      part.0,
      subst (λ (ls : List (List ℕ)). WalksInto terminal ls c.args.self.now.prompt part.0) (sym only.only)
          (into_line terminal bytes [] c.args.self.now.prompt part.0
          (line_broken bytes c.in-Some.line.now c.args.self.now.prompt part.0 c.in-Some.is_long only.length_is only.line_is part.1)),
      part.2,
    )

pub returns-clause-walks : goal.returns-clause-walks
returns-clause-walks g c terminal bytes waits unended =
    let line = c.in_ok-take.ensures.walks in
    let only = c.in-Some.ensures bytes waits unended in (
      line.0,
      subst (λ (ls : List (List ℕ)). Walks terminal ls c.args.self.now.prompt c.take.new.self.prompt line.0) (sym only.only)
          (walk_one terminal bytes c.args.self.now.prompt c.take.new.self.prompt line.0
          (line_taken bytes c.in-Some.line.now c.args.self.now.prompt line.0 c.take.new.self.prompt c.in-Some.is_long only.length_is only.line_is
          line.1.0)),
      line.2,
    )
