use Rattle.std.proofs.Common.{sym, subst, ℕ, List, []}
use Rattle.std.proofs.lemmas.Result.{err_from_is_err_and}
use Rattle.sfc_prompt.specs.declared.prompt.Prompt.{Prompt}
use Rattle.sfc_prompt.specs.Prompts.{session_in}
use Rattle.sfc_prompt.specs.Walks.{IsNext}
use Rattle.sfc_prompt.proofs.Serving.{part_none}
use Rattle.sfc_prompt.proofs.Stepping.{next_by}
use Rattle.sfc_prompt.proofs.Walking.{steps_none, steps_one}
use Rattle.sfc_prompt.proofs.Writing.{breaks_nothing, breaks_passed, told_passed}
use Rattle.sfc_prompt.proofs.desk.Held.step.Goals as goal

pub returns-in_err-go_on-clause-tells : goal.returns-in_err-go_on-clause-tells
returns-in_err-go_on-clause-tells g c =
    let f = err_from_is_err_and c.from_residual.result c.from_residual.ensures.1 in
    rw f.1 (breaks_nothing (session_in c.args.self.now.prompt) (g.W.Write.contents c.args.self.now.w))

pub returns-in_err-go_on-clause-walks : goal.returns-in_err-go_on-clause-walks
returns-in_err-go_on-clause-walks g c =
    let f = err_from_is_err_and c.from_residual.result c.from_residual.ensures.1 in
    rw f.1 ([], (c.args.self.now.prompt, steps_none c.args.self.now.prompt), part_none (g.W.Write.contents c.args.self.now.w))

pub returns-in_err-pass-clause-tells : goal.returns-in_err-pass-clause-tells
returns-in_err-pass-clause-tells g c =
    let f = err_from_is_err_and c.from_residual-in_err-pass.result c.from_residual-in_err-pass.ensures.1 in
    rw f.1 (breaks_passed (session_in c.args.self.now.prompt) (session_in c.go_on.new.self) c.args.self.now.text.items c.go_on.new.out.items
    (g.W.Write.contents c.args.self.now.w) (g.W.Write.contents c.pass.new.self.w) c.requires.empty c.in_ok-go_on.ensures.puts
    c.in_err-pass.ensures.written)

pub returns-in_err-pass-clause-walks : goal.returns-in_err-pass-clause-walks
returns-in_err-pass-clause-walks g c =
    let f = err_from_is_err_and c.from_residual-in_err-pass.result c.from_residual-in_err-pass.ensures.1 in
    let old : Prompt = c.args.self.now.prompt in
    let text : List ℕ = c.go_on.new.out.items in
    let next : IsNext old c.go_on.new.self text = next_by old c.go_on.new.self c.args.self.now.text.items text c.requires.empty
    c.requires.under_way c.in_ok-go_on.ensures.steps c.go_on.ensures.last in
    rw f.1 (text, steps_one old c.go_on.new.self text next, c.in_err-pass.ensures.written)

pub returns-clause-tells : goal.returns-clause-tells
returns-clause-tells g c =
    told_passed (session_in c.args.self.now.prompt) (session_in c.go_on.new.self) c.args.self.now.text.items c.go_on.new.out.items
    (g.W.Write.contents c.args.self.now.w) (g.W.Write.contents c.pass.new.self.w) c.requires.empty c.in_ok-go_on.ensures.puts
    (session_in c.pass.new.self.prompt) c.in_ok-pass.ensures.session c.in_ok-pass.ensures.written

pub returns-clause-walks : goal.returns-clause-walks
returns-clause-walks g c =
    let old : Prompt = c.args.self.now.prompt in
    let text : List ℕ = c.go_on.new.out.items in
    let next : IsNext old c.go_on.new.self text = next_by old c.go_on.new.self c.args.self.now.text.items text c.requires.empty
    c.requires.under_way c.in_ok-go_on.ensures.steps c.go_on.ensures.last in
    (text, subst (λ (p : Prompt). IsNext old p text) (sym c.in_ok-pass.ensures.prompt) next, c.in_ok-pass.ensures.written)
