use Rattle.std.proofs.Common.{sym, subst}
use Rattle.std.proofs.lemmas.Result.{err_from_is_err_and}
use Rattle.sfc_asking.specs.sfc_script.Lines.{lines_of}
use Rattle.sfc_prompt.specs.declared.prompt.Prompt.{Prompt}
use Rattle.sfc_prompt.specs.Desks.{Leaves, WalksOff, WalksOut, WritesBy}
use Rattle.sfc_prompt.specs.Prompts.{session_in}
use Rattle.sfc_prompt.proofs.Serving.{off_into, off_leaves, out_leaves, writes_then}
use Rattle.sfc_prompt.proofs.Writing.{tells_then}
use Rattle.sfc_prompt.proofs.desk.Held.take_last.Goals as goal

pub returns-in_err-take_rest-clause-walks : goal.returns-in_err-take_rest-clause-walks
returns-in_err-take_rest-clause-walks g c bytes waits unended =
    let f = err_from_is_err_and c.from_residual.result c.from_residual.ensures.1 in
    let part = c.in_err-take_rest.ensures.walks c.args.is_terminal bytes waits unended in
    rw f.1 (part.0, off_into c.args.is_terminal (lines_of bytes) c.args.self.now.prompt part.0 part.1, part.2)

pub returns-clause-tells : goal.returns-clause-tells
returns-clause-tells g c =
    tells_then (session_in c.args.self.now.prompt) (session_in c.take_rest.new.self.prompt) (session_in c.leave.new.self.prompt)
    (g.W.Write.contents c.args.self.now.w) (g.W.Write.contents c.take_rest.new.self.w) (g.W.Write.contents c.leave.new.self.w)
    c.in_ok-take_rest.ensures.tells c.leave.result c.leave.ensures.tells

pub returns-clause-walks : goal.returns-clause-walks
returns-clause-walks g c bytes waits unended =
    let terminal = c.args.is_terminal in
    let old : Prompt = c.args.self.now.prompt in
    let mid : Prompt = c.take_rest.new.self.prompt in
    let rest = c.in_ok-take_rest.ensures.walks terminal bytes waits unended in
    subst (λ (p : Prompt). WritesBy (g.W.Write.contents c.args.self.now.w) (g.W.Write.contents c.leave.new.self.w) c.leave.result
    (λ _ text. WalksOut terminal (lines_of bytes) old p text) (WalksOff terminal (lines_of bytes) old)) (sym c.leave.ensures.prompt)
    (writes_then (g.W.Write.contents c.args.self.now.w) (g.W.Write.contents c.take_rest.new.self.w) (g.W.Write.contents c.leave.new.self.w)
    c.leave.result rest.0 (λ _ text. Leaves terminal text) (λ _ text. WalksOut terminal (lines_of bytes) old mid text) (Leaves terminal)
    (WalksOff terminal (lines_of bytes) old) rest.2
    (λ _ u leaves. out_leaves terminal (lines_of bytes) old mid rest.0 u rest.1 leaves)
    (λ u leaves. off_leaves terminal (lines_of bytes) old mid rest.0 u rest.1 leaves) c.leave.ensures.leaves)
