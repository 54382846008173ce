use Rattle.std.proofs.Common.{◌≡◌, ◌∙◌, refl, subst, ap, ◌++◌, ℕ, List, []}
use Rattle.std.proofs.lemmas.Result.{err_from_is_err_and}
use Rattle.sfc_base.specs.Writing.{Writes}
use Rattle.sfc_base.proofs.Written.{Appends-none}
use Rattle.sfc_prompt.specs.Prompts.{session_in}
use Rattle.sfc_prompt.proofs.Telling.{puts_text}
use Rattle.sfc_prompt.proofs.Writing.{breaks_nothing, passed}
use Rattle.sfc_prompt.proofs.desk.Held.tell.Goals as goal

pub returns-in_err-append-clause-tells : goal.returns-in_err-append-clause-tells
returns-in_err-append-clause-tells g c =
    let f = err_from_is_err_and c.from_residual.result c.from_residual.ensures.1 in
    rw f.1 (breaks_nothing (session_in c.args.self.now.prompt) (g.W.Write.contents c.args.self.now.w))

pub returns-in_err-append-clause-written : goal.returns-in_err-append-clause-written
returns-in_err-append-clause-written g c =
    let f = err_from_is_err_and c.from_residual.result c.from_residual.ensures.1 in
    rw f.1 ([], c.args.text.now, refl, Appends-none (g.W.Write.contents c.args.self.now.w))

pub returns-clause-tells : goal.returns-clause-tells
returns-clause-tells g c =
    let session = session_in c.args.self.now.prompt in
    passed session session c.args.self.now.text.items c.append.new.out.items (g.W.Write.contents c.args.self.now.w)
    (g.W.Write.contents c.pass.new.self.w) c.requires
    (puts_text session c.args.self.now.text.items c.append.new.out.items c.args.text.now c.in_ok-append.ensures)
    (session_in c.pass.new.self.prompt) c.pass.ensures.session c.pass.result c.pass.ensures.written

pub returns-clause-written : goal.returns-clause-written
returns-clause-written g c =
    let same : c.append.new.out.items ≡ c.args.text.now = c.in_ok-append.ensures ∙ ap (λ (t : List ℕ). t ++ c.args.text.now) c.requires in
    subst (λ (t : List ℕ). Writes (g.W.Write.contents c.args.self.now.w) (g.W.Write.contents c.pass.new.self.w) c.pass.result t) same
    c.pass.ensures.written
