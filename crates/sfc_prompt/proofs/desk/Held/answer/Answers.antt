use Rattle.std.proofs.Common.{refl, sym, subst, ℕ, List, [], inl, inr}
use Rattle.std.proofs.lemmas.Result.{err_from_is_err_and}
use Rattle.sfc_prompt.specs.declared.prompt.Prompt.{Prompt}
use Rattle.sfc_prompt.specs.Prompts.{session_in}
use Rattle.sfc_prompt.specs.Walks.{IsAnswered}
use Rattle.sfc_prompt.proofs.Serving.{part_none}
use Rattle.sfc_prompt.proofs.Stepping.{answered_by}
use Rattle.sfc_prompt.proofs.Writing.{breaks_nothing, breaks_passed, told_passed}
use Rattle.sfc_prompt.proofs.desk.Held.answer.Goals as goal

pub returns-in_err-flow-clause-tells : goal.returns-in_err-flow-clause-tells
returns-in_err-flow-clause-tells g c =
    let f = err_from_is_err_and c.from_residual.result c.from_residual.ensures.1 in
    rw f.1 (breaks_nothing (session_in c.args.self.now.prompt) (g.W.Write.contents c.args.self.now.w))

pub returns-in_err-flow-clause-walks : goal.returns-in_err-flow-clause-walks
returns-in_err-flow-clause-walks g c =
    let f = err_from_is_err_and c.from_residual.result c.from_residual.ensures.1 in
    rw f.1 ([], inl refl, part_none (g.W.Write.contents c.args.self.now.w))

pub returns-in_err-pass-clause-tells : goal.returns-in_err-pass-clause-tells
returns-in_err-pass-clause-tells g c =
    let f = err_from_is_err_and c.from_residual-in_err-pass.result c.from_residual-in_err-pass.ensures.1 in
    rw f.1 (breaks_passed (session_in c.args.self.now.prompt) (session_in c.obey.new.self) c.args.self.now.text.items c.obey.new.out.items
    (g.W.Write.contents c.args.self.now.w) (g.W.Write.contents c.pass.new.self.w) c.requires c.in_ok-flow.ensures.puts
    c.in_err-pass.ensures.written)

pub returns-in_err-pass-clause-walks : goal.returns-in_err-pass-clause-walks
returns-in_err-pass-clause-walks g c =
    let f = err_from_is_err_and c.from_residual-in_err-pass.result c.from_residual-in_err-pass.ensures.1 in
    let old : Prompt = c.args.self.now.prompt in
    let text : List ℕ = c.obey.new.out.items in
    let answered : IsAnswered old c.obey.new.self c.args.line.now text = answered_by old c.obey.new.self c.args.self.now.text.items text
    c.requires c.args.line.now c.in_ok-flow.ensures.obeys c.in_ok-flow.ensures.last c.in_ok-flow.ensures.begins in
    rw f.1 (text, inr (c.obey.new.self, answered), c.in_err-pass.ensures.written)

pub returns-clause-tells : goal.returns-clause-tells
returns-clause-tells g c =
    told_passed (session_in c.args.self.now.prompt) (session_in c.obey.new.self) c.args.self.now.text.items c.obey.new.out.items
    (g.W.Write.contents c.args.self.now.w) (g.W.Write.contents c.pass.new.self.w) c.requires c.in_ok-flow.ensures.puts
    (session_in c.pass.new.self.prompt) c.in_ok-pass.ensures.session c.in_ok-pass.ensures.written

pub returns-clause-walks : goal.returns-clause-walks
returns-clause-walks g c =
    let old : Prompt = c.args.self.now.prompt in
    let text : List ℕ = c.obey.new.out.items in
    let answered : IsAnswered old c.obey.new.self c.args.line.now text = answered_by old c.obey.new.self c.args.self.now.text.items text
    c.requires c.args.line.now c.in_ok-flow.ensures.obeys c.in_ok-flow.ensures.last c.in_ok-flow.ensures.begins in (
      text,
      (subst (λ (p : Prompt). IsAnswered old p c.args.line.now text) (sym c.in_ok-pass.ensures.prompt) answered, c.in_ok-flow.ensures.flow),
      c.in_ok-pass.ensures.written,
    )
