use Rattle.std.proofs.Common.{refl, sym, subst, [], Bool, inr, codes}
use Rattle.sfc_prompt.specs.Desks.{Leaves}
use Rattle.sfc_prompt.specs.Prompts.{session_in}
use Rattle.sfc_base.proofs.Written.{Appends-none}
use Rattle.sfc_prompt.proofs.Serving.{leaves_none, writes_text}
use Rattle.sfc_prompt.proofs.Writing.{told_nothing}
use Rattle.sfc_prompt.proofs.desk.Held.leave.Goals as goal

pub returns-then-not-is_terminal-clause-tells : goal.returns-then-not-is_terminal-clause-tells
returns-then-not-is_terminal-clause-tells g c = told_nothing (session_in c.args.self.now.prompt) (g.W.Write.contents c.args.self.now.w)

pub returns-then-not-is_terminal-clause-leaves : goal.returns-then-not-is_terminal-clause-leaves
returns-then-not-is_terminal-clause-leaves g c = ([], leaves_none c.args.is_terminal, Appends-none (g.W.Write.contents c.args.self.now.w))

pub returns-clause-leaves : goal.returns-clause-leaves
returns-clause-leaves g c =
    let once : Leaves c.args.is_terminal (codes "\n") =
    subst (λ (b : Bool). Leaves b (codes "\n")) (sym c.if-not-is_terminal.false) (inr refl) in
    writes_text (g.W.Write.contents c.args.self.now.w) (g.W.Write.contents c.tell.new.self.w) c.tell.result (codes "\n")
    (λ _ text. Leaves c.args.is_terminal text) (Leaves c.args.is_terminal) (λ _ _. once) once c.tell.ensures.written
