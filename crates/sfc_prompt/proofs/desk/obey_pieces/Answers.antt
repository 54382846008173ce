use Rattle.std.proofs.Common.{◌≡◌, ◌∙◌, refl, subst, ◌+◌, arith, ℕ, List, [], ◌++◌, None}
use Rattle.std.specs.Io.KnownBytes.{IsAtEnd}
use Rattle.std.proofs.lemmas.Result.{err_from_is_err_and}
use Rattle.sfc_asking.specs.sfc_script.Arriving.{ended_line}
use Rattle.sfc_prompt.specs.declared.prompt.Flow.{Flow}
use Rattle.sfc_prompt.specs.declared.prompt.Flow.TheVariants.{GoesOn, Ends}
use Rattle.sfc_prompt.specs.Private.Waiting.{TakesEnded, Waits}
use Rattle.sfc_prompt.specs.Prompts.{session_in}
use Rattle.sfc_prompt.proofs.Serving.{HasTaken, no_bytes, part_none, serves_between, serves_into, serves_last, serves_quit, taken_invited, taken_lines, taken_none, taken_piece}
use Rattle.sfc_prompt.proofs.Walking.{invites_none}
use Rattle.sfc_prompt.proofs.Waits.{nothing_ended}
use Rattle.sfc_prompt.proofs.Writing.{breaks_behind, breaks_then, tells_then, told_nothing, told_then}
use Rattle.sfc_prompt.proofs.desk.obey_pieces.Goals as goal
use Rattle.sfc_prompt.proofs.desk.obey_pieces.Goals.{else-pieces-test, then-pieces-test+in_ok-invite+in_ok-count+then-count-eq0}

pub returns-in_err-invite-clause-tells : goal.returns-in_err-invite-clause-tells
returns-in_err-invite-clause-tells g c =
    let f = err_from_is_err_and c.from_residual.result c.from_residual.ensures.1 in
    rw f.1 (breaks_then (session_in c.args.held.now.prompt) (session_in c.pieces.held.prompt) (session_in c.invite.new.self.prompt)
    (g.W.Write.contents c.args.held.now.w) (g.W.Write.contents c.pieces.held.w) (g.W.Write.contents c.invite.new.self.w)
    c.pieces.invariant.tells c.in_err-invite.ensures.tells)

pub returns-in_err-invite-clause-serves : goal.returns-in_err-invite-clause-serves
returns-in_err-invite-clause-serves g c =
    let f = err_from_is_err_and c.from_residual.result c.from_residual.ensures.1 in
    let so_far = c.pieces.invariant.serves in
    let part = c.in_err-invite.ensures.invites in
    serves_between c.args.is_terminal (g.S.Read.remaining c.args.reader.now) (g.W.Write.contents c.args.held.now.w)
    c.args.held.now.prompt (g.S.Read.remaining c.pieces.reader) (g.W.Write.contents c.pieces.held.w) c.pieces.held.prompt so_far.0 c.pieces.taken so_far.3
    c.from_residual.result f.0 f.1 (g.W.Write.contents c.invite.new.self.w) (g.S.Read.remaining c.pieces.reader) c.invite.new.self.prompt
    part.0 part.1 part.2

pub returns-in_err-count-clause-tells : goal.returns-in_err-count-clause-tells
returns-in_err-count-clause-tells g c =
    let f = err_from_is_err_and c.from_residual-in_err-count.result c.from_residual-in_err-count.ensures.1 in
    let told = told_then (session_in c.args.held.now.prompt) (session_in c.pieces.held.prompt) (session_in c.invite.new.self.prompt)
    (g.W.Write.contents c.args.held.now.w) (g.W.Write.contents c.pieces.held.w) (g.W.Write.contents c.invite.new.self.w)
    c.pieces.invariant.tells c.in_ok-invite.ensures.tells in
    rw f.1 (breaks_behind (session_in c.args.held.now.prompt) (session_in c.invite.new.self.prompt) (g.W.Write.contents c.args.held.now.w)
    (g.W.Write.contents c.invite.new.self.w) told)

pub returns-in_err-count-clause-serves : goal.returns-in_err-count-clause-serves
returns-in_err-count-clause-serves g c =
    let f = err_from_is_err_and c.from_residual-in_err-count.result c.from_residual-in_err-count.ensures.1 in
    let so_far = c.pieces.invariant.serves in
    let asked = c.in_ok-invite.ensures.invites in
    let invited = taken_invited c.args.is_terminal (g.S.Read.remaining c.args.reader.now) (g.W.Write.contents c.args.held.now.w)
    c.args.held.now.prompt (g.S.Read.remaining c.pieces.reader) (g.W.Write.contents c.pieces.held.w) c.pieces.held.prompt so_far.0 c.pieces.taken so_far.3
    (g.W.Write.contents c.invite.new.self.w) c.invite.new.self.prompt asked.0 c.in_ok-invite.ensures.prompt asked.1 asked.2 in
    serves_between c.args.is_terminal (g.S.Read.remaining c.args.reader.now) (g.W.Write.contents c.args.held.now.w)
    c.args.held.now.prompt (g.S.Read.remaining c.pieces.reader) (g.W.Write.contents c.invite.new.self.w) c.invite.new.self.prompt so_far.0 c.pieces.taken invited
    c.from_residual-in_err-count.result f.0 f.1 (g.W.Write.contents c.invite.new.self.w) (g.S.Read.remaining c.take.new.reader)
    c.invite.new.self.prompt [] (invites_none c.args.is_terminal) (part_none (g.W.Write.contents c.invite.new.self.w))

pub returns-in_err-take_lines-clause-tells : goal.returns-in_err-take_lines-clause-tells
returns-in_err-take_lines-clause-tells g c =
    let f = err_from_is_err_and c.from_residual-in_err-take_lines.result c.from_residual-in_err-take_lines.ensures.1 in
    let told = told_then (session_in c.args.held.now.prompt) (session_in c.pieces.held.prompt) (session_in c.invite.new.self.prompt)
    (g.W.Write.contents c.args.held.now.w) (g.W.Write.contents c.pieces.held.w) (g.W.Write.contents c.invite.new.self.w)
    c.pieces.invariant.tells c.in_ok-invite.ensures.tells in
    rw f.1 (breaks_then (session_in c.args.held.now.prompt) (session_in c.invite.new.self.prompt) (session_in c.take_lines.new.self.prompt)
    (g.W.Write.contents c.args.held.now.w) (g.W.Write.contents c.invite.new.self.w) (g.W.Write.contents c.take_lines.new.self.w)
    told c.in_err-take_lines.ensures.tells)

pub returns-in_err-take_lines-clause-serves : goal.returns-in_err-take_lines-clause-serves
returns-in_err-take_lines-clause-serves g c =
    let f = err_from_is_err_and c.from_residual-in_err-take_lines.result c.from_residual-in_err-take_lines.ensures.1 in
    let so_far = c.pieces.invariant.serves in
    let asked = c.in_ok-invite.ensures.invites in
    let invited = taken_invited c.args.is_terminal (g.S.Read.remaining c.args.reader.now) (g.W.Write.contents c.args.held.now.w)
    c.args.held.now.prompt (g.S.Read.remaining c.pieces.reader) (g.W.Write.contents c.pieces.held.w) c.pieces.held.prompt so_far.0 c.pieces.taken so_far.3
    (g.W.Write.contents c.invite.new.self.w) c.invite.new.self.prompt asked.0 c.in_ok-invite.ensures.prompt asked.1 asked.2 in
    let piece = c.in_ok-count.ensures.taken in
    let left : List ℕ = so_far.0 ++ piece.0 in
    let come = taken_piece c.args.is_terminal (g.S.Read.remaining c.args.reader.now) (g.W.Write.contents c.args.held.now.w)
    c.args.held.now.prompt (g.S.Read.remaining c.pieces.reader) (g.W.Write.contents c.invite.new.self.w) c.invite.new.self.prompt so_far.0 c.pieces.taken invited
    (g.S.Read.remaining c.take.new.reader) piece.0 c.in_ok-count.count piece.1 piece.2 in
    let waits : Waits c.take.new.self left = piece.3 so_far.0 so_far.1 in
    let part = c.in_err-take_lines.ensures.walks c.args.is_terminal left waits in
    serves_into c.args.is_terminal (g.S.Read.remaining c.args.reader.now) (g.W.Write.contents c.args.held.now.w)
    c.args.held.now.prompt (g.S.Read.remaining c.take.new.reader) (g.W.Write.contents c.invite.new.self.w) c.invite.new.self.prompt left (c.pieces.taken + c.in_ok-count.count) come
    c.from_residual-in_err-take_lines.result f.0 f.1 (g.W.Write.contents c.take_lines.new.self.w) (g.S.Read.remaining c.take.new.reader)
    c.take_lines.new.self.prompt part.0 part.1 part.2

pub returns-in-Ends-clause-tells : goal.returns-in-Ends-clause-tells
returns-in-Ends-clause-tells g c =
    let told = told_then (session_in c.args.held.now.prompt) (session_in c.pieces.held.prompt) (session_in c.invite.new.self.prompt)
    (g.W.Write.contents c.args.held.now.w) (g.W.Write.contents c.pieces.held.w) (g.W.Write.contents c.invite.new.self.w)
    c.pieces.invariant.tells c.in_ok-invite.ensures.tells in
    told_then (session_in c.args.held.now.prompt) (session_in c.invite.new.self.prompt) (session_in c.take_lines.new.self.prompt)
    (g.W.Write.contents c.args.held.now.w) (g.W.Write.contents c.invite.new.self.w) (g.W.Write.contents c.take_lines.new.self.w)
    told c.in_ok-take_lines.ensures.tells

pub returns-in-Ends-clause-serves : goal.returns-in-Ends-clause-serves
returns-in-Ends-clause-serves g c =
    let so_far = c.pieces.invariant.serves in
    let asked = c.in_ok-invite.ensures.invites in
    let invited = taken_invited c.args.is_terminal (g.S.Read.remaining c.args.reader.now) (g.W.Write.contents c.args.held.now.w)
    c.args.held.now.prompt (g.S.Read.remaining c.pieces.reader) (g.W.Write.contents c.pieces.held.w) c.pieces.held.prompt so_far.0 c.pieces.taken so_far.3
    (g.W.Write.contents c.invite.new.self.w) c.invite.new.self.prompt asked.0 c.in_ok-invite.ensures.prompt asked.1 asked.2 in
    let piece = c.in_ok-count.ensures.taken in
    let left : List ℕ = so_far.0 ++ piece.0 in
    let come = taken_piece c.args.is_terminal (g.S.Read.remaining c.args.reader.now) (g.W.Write.contents c.args.held.now.w)
    c.args.held.now.prompt (g.S.Read.remaining c.pieces.reader) (g.W.Write.contents c.invite.new.self.w) c.invite.new.self.prompt so_far.0 c.pieces.taken invited
    (g.S.Read.remaining c.take.new.reader) piece.0 c.in_ok-count.count piece.1 piece.2 in
    let waits : Waits c.take.new.self left = piece.3 so_far.0 so_far.1 in
    let lines = c.in_ok-take_lines.ensures.walks c.args.is_terminal left waits in
    let ended : TakesEnded c.args.is_terminal c.invite.new.self.prompt c.take_lines.new.self.prompt left c.take_lines.new.arrived Ends lines.0 =
    subst (λ (flow : Flow). TakesEnded c.args.is_terminal c.invite.new.self.prompt c.take_lines.new.self.prompt left c.take_lines.new.arrived flow
    lines.0) c.in-Ends.is lines.1 in
    serves_quit c.args.is_terminal (g.S.Read.remaining c.args.reader.now) (g.W.Write.contents c.args.held.now.w)
    c.args.held.now.prompt (g.S.Read.remaining c.take.new.reader) (g.W.Write.contents c.invite.new.self.w) c.invite.new.self.prompt left (c.pieces.taken + c.in_ok-count.count) come
    (g.W.Write.contents c.take_lines.new.self.w) c.take_lines.new.self.prompt c.take_lines.new.arrived lines.0 ended lines.2

pub returns-clause-tells : goal.returns-clause-tells
returns-clause-tells g c = elim c.pieces-test.branch [
  | else-pieces-test w ↦
      tells_then (session_in c.args.held.now.prompt) (session_in c.pieces-test.held.prompt) (session_in c.take_last.new.self.prompt)
      (g.W.Write.contents c.args.held.now.w) (g.W.Write.contents c.pieces-test.held.w) (g.W.Write.contents c.take_last.new.self.w)
      (rw w.held-is c.pieces.invariant.tells) c.take_last.result c.take_last.ensures.tells
  | then-pieces-test+in_ok-invite+in_ok-count+then-count-eq0 w ↦
      tells_then (session_in c.args.held.now.prompt) (session_in c.pieces-test.held.prompt) (session_in c.take_last.new.self.prompt)
      (g.W.Write.contents c.args.held.now.w) (g.W.Write.contents c.pieces-test.held.w) (g.W.Write.contents c.take_last.new.self.w)
      (rw w.held-is (told_then (session_in c.args.held.now.prompt) (session_in c.pieces.held.prompt) (session_in w.invite.new.self.prompt)
      (g.W.Write.contents c.args.held.now.w) (g.W.Write.contents c.pieces.held.w) (g.W.Write.contents w.invite.new.self.w)
      c.pieces.invariant.tells w.in_ok-invite.ensures.tells)) c.take_last.result c.take_last.ensures.tells
]

pub returns-clause-serves : goal.returns-clause-serves
returns-clause-serves g c = elim c.pieces-test.branch [
  | else-pieces-test w ↦
      let so_far = c.pieces.invariant.serves in
      let taken : HasTaken c.args.is_terminal (g.S.Read.remaining c.args.reader.now, g.S.Read.remaining c.pieces-test.reader)
      (g.W.Write.contents c.args.held.now.w, g.W.Write.contents c.pieces-test.held.w) c.args.held.now.prompt c.pieces-test.held.prompt so_far.0
      c.pieces.taken = rw w.held-is (rw w.reader-is so_far.3) in
      let waits : Waits c.pieces-test.arrived so_far.0 = rw w.arrived-is so_far.1 in
      serves_last c.args.is_terminal (g.S.Read.remaining c.args.reader.now) (g.W.Write.contents c.args.held.now.w) c.args.held.now.prompt
      (g.S.Read.remaining c.pieces-test.reader) (g.W.Write.contents c.pieces-test.held.w) c.pieces-test.held.prompt so_far.0 c.pieces.taken taken c.take_last.result
      (g.W.Write.contents c.take_last.new.self.w) c.take_last.new.self.prompt (λ few. absurd (omega (arith, few, w.pieces-test.false)))
      (c.take_last.ensures.walks so_far.0 waits so_far.2)
  | then-pieces-test+in_ok-invite+in_ok-count+then-count-eq0 w ↦
      let so_far = c.pieces.invariant.serves in
      let asked = w.in_ok-invite.ensures.invites in
      let invited = taken_invited c.args.is_terminal (g.S.Read.remaining c.args.reader.now) (g.W.Write.contents c.args.held.now.w)
      c.args.held.now.prompt (g.S.Read.remaining c.pieces.reader) (g.W.Write.contents c.pieces.held.w) c.pieces.held.prompt so_far.0 c.pieces.taken so_far.3
      (g.W.Write.contents w.invite.new.self.w) w.invite.new.self.prompt asked.0 w.in_ok-invite.ensures.prompt asked.1 asked.2 in
      let piece = w.in_ok-count.ensures.taken in
      let left : List ℕ = so_far.0 ++ piece.0 in
      let come = taken_piece c.args.is_terminal (g.S.Read.remaining c.args.reader.now) (g.W.Write.contents c.args.held.now.w)
      c.args.held.now.prompt (g.S.Read.remaining c.pieces.reader) (g.W.Write.contents w.invite.new.self.w) w.invite.new.self.prompt so_far.0 c.pieces.taken invited
      (g.S.Read.remaining w.take.new.reader) piece.0 w.in_ok-count.count piece.1 piece.2 in
      let taken : HasTaken c.args.is_terminal (g.S.Read.remaining c.args.reader.now, g.S.Read.remaining c.pieces-test.reader)
      (g.W.Write.contents c.args.held.now.w, g.W.Write.contents c.pieces-test.held.w) c.args.held.now.prompt c.pieces-test.held.prompt left
      (c.pieces.taken + w.in_ok-count.count) = rw w.held-is (rw w.reader-is come) in
      let waits : Waits c.pieces-test.arrived left = rw w.arrived-is (piece.3 so_far.0 so_far.1) in
      let none : ended_line left ≡ None = no_bytes so_far.0 piece.0 (piece.1 ∙ w.if-count-eq0.true) so_far.2 in
      let at_end : IsAtEnd (g.S.Read.remaining c.pieces-test.reader) = rw w.reader-is (w.in_ok-count.ensures.ended w.if-count-eq0.true) in
      serves_last c.args.is_terminal (g.S.Read.remaining c.args.reader.now) (g.W.Write.contents c.args.held.now.w) c.args.held.now.prompt
      (g.S.Read.remaining c.pieces-test.reader) (g.W.Write.contents c.pieces-test.held.w) c.pieces-test.held.prompt left (c.pieces.taken + w.in_ok-count.count) taken c.take_last.result
      (g.W.Write.contents c.take_last.new.self.w) c.take_last.new.self.prompt (λ few. at_end) (c.take_last.ensures.walks left waits none)
]

pub pieces-preserved : goal.pieces-preserved
pieces-preserved g c =
    let told = told_then (session_in c.args.held.now.prompt) (session_in c.pieces.held.prompt) (session_in c.invite.new.self.prompt)
    (g.W.Write.contents c.args.held.now.w) (g.W.Write.contents c.pieces.held.w) (g.W.Write.contents c.invite.new.self.w)
    c.pieces.invariant.tells c.in_ok-invite.ensures.tells in
    let so_far = c.pieces.invariant.serves in
    let asked = c.in_ok-invite.ensures.invites in
    let invited = taken_invited c.args.is_terminal (g.S.Read.remaining c.args.reader.now) (g.W.Write.contents c.args.held.now.w)
    c.args.held.now.prompt (g.S.Read.remaining c.pieces.reader) (g.W.Write.contents c.pieces.held.w) c.pieces.held.prompt so_far.0 c.pieces.taken so_far.3
    (g.W.Write.contents c.invite.new.self.w) c.invite.new.self.prompt asked.0 c.in_ok-invite.ensures.prompt asked.1 asked.2 in
    let piece = c.in_ok-count.ensures.taken in
    let left : List ℕ = so_far.0 ++ piece.0 in
    let come = taken_piece c.args.is_terminal (g.S.Read.remaining c.args.reader.now) (g.W.Write.contents c.args.held.now.w)
    c.args.held.now.prompt (g.S.Read.remaining c.pieces.reader) (g.W.Write.contents c.invite.new.self.w) c.invite.new.self.prompt so_far.0 c.pieces.taken invited
    (g.S.Read.remaining c.take.new.reader) piece.0 c.in_ok-count.count piece.1 piece.2 in
    let waits : Waits c.take.new.self left = piece.3 so_far.0 so_far.1 in
    let lines = c.in_ok-take_lines.ensures.walks c.args.is_terminal left waits in
    let ended : TakesEnded c.args.is_terminal c.invite.new.self.prompt c.take_lines.new.self.prompt left c.take_lines.new.arrived GoesOn lines.0 =
    subst (λ (flow : Flow). TakesEnded c.args.is_terminal c.invite.new.self.prompt c.take_lines.new.self.prompt left c.take_lines.new.arrived flow
    lines.0) c.in-GoesOn.is lines.1 in
    let taken = taken_lines c.args.is_terminal (g.S.Read.remaining c.args.reader.now) (g.W.Write.contents c.args.held.now.w)
    c.args.held.now.prompt (g.S.Read.remaining c.take.new.reader) (g.W.Write.contents c.invite.new.self.w) c.invite.new.self.prompt left (c.pieces.taken + c.in_ok-count.count) come
    (g.W.Write.contents c.take_lines.new.self.w) c.take_lines.new.self.prompt c.take_lines.new.arrived lines.0 ended lines.2 in
    record {
      empty = c.in_ok-take_lines.ensures.empty;
      idle = c.in_ok-take_lines.ensures.idle;
      tells = told_then (session_in c.args.held.now.prompt) (session_in c.invite.new.self.prompt) (session_in c.take_lines.new.self.prompt)
          (g.W.Write.contents c.args.held.now.w) (g.W.Write.contents c.invite.new.self.w) (g.W.Write.contents c.take_lines.new.self.w)
          told c.in_ok-take_lines.ensures.tells;
      serves = (
        ended.left,
        c.pass_over.ensures ended.left ended.waits (ended.no_more refl),
        ended.no_more refl,
        taken,
      );
      few = omega (arith, c.pieces-test.true, c.in_ok-count.ensures.few);
    }

pub pieces-init : goal.pieces-init
pieces-init g c = record {
  empty = c.requires.empty;
  idle = c.requires.idle;
  tells = told_nothing (session_in c.args.held.now.prompt) (g.W.Write.contents c.args.held.now.w);
  serves = (
    [],
    c.new-arrived.ensures,
    nothing_ended,
    taken_none c.args.is_terminal (g.S.Read.remaining c.args.reader.now) (g.W.Write.contents c.args.held.now.w) c.args.held.now.prompt,
  );
  few = omega arith;
}
