use Rattle.std.proofs.Common.{sym, subst, [], Bool, codes}
use Rattle.sfc_prompt.specs.Prompts.{session_in}
use Rattle.sfc_prompt.specs.Walks.{Invites}
use Rattle.sfc_base.proofs.Written.{Appends-none}
use Rattle.sfc_prompt.proofs.Serving.{writes_text}
use Rattle.sfc_prompt.proofs.Walking.{invites_none, invites_once}
use Rattle.sfc_prompt.proofs.Writing.{told_nothing}
use Rattle.sfc_prompt.proofs.desk.Held.invite.Goals as goal

pub returns-then-not-is_terminal-clause-tells : goal.returns-then-not-is_terminal-clause-tells
returns-then-not-is_terminal-clause-tells g c = told_nothing (session_in c.args.self.now.prompt) (g.W.Write.contents c.args.self.now.w)

pub returns-then-not-is_terminal-clause-invites : goal.returns-then-not-is_terminal-clause-invites
returns-then-not-is_terminal-clause-invites g c = ([], invites_none c.args.is_terminal, Appends-none (g.W.Write.contents c.args.self.now.w))

pub returns-clause-invites : goal.returns-clause-invites
returns-clause-invites g c =
    let once : Invites c.args.is_terminal (codes "sfc> ") =
    subst (λ (b : Bool). Invites b (codes "sfc> ")) (sym c.if-not-is_terminal.false) invites_once in
    writes_text (g.W.Write.contents c.args.self.now.w) (g.W.Write.contents c.tell.new.self.w) c.tell.result (codes "sfc> ")
    (λ _ text. Invites c.args.is_terminal text) (Invites c.args.is_terminal) (λ _ _. once) once c.tell.ensures.written
