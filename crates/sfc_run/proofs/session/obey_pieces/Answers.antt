use Rattle.std.proofs.Common.{◌+◌, ◌-◌, ◌<◌, ◌≤◌, ◌++◌, [], ℕ, List, Err, length, length-append, refl, sym, ap, subst, ◌∙◌, arith, inl}
use Rattle.std.proofs.KnownBytes.{Consumes-nil}
use Rattle.std.proofs.lemmas.Result.{err_from_is_err_and}
use Rattle.sfc_control.specs.sfc_debug.Agreement.{plant_of}
use Rattle.sfc_replay.specs.declared.replay_error.ReplayError.{ReplayError}
use Rattle.sfc_replay.proofs.Taken.{consumes_more, most_taken}
use Rattle.sfc_run.specs.declared.session.Waiting.{Waiting}
use Rattle.sfc_run.specs.Holding.{scene}
use Rattle.sfc_run.specs.Working.Walking.{PiecesOr, WalksOn, nothing}
use Rattle.sfc_run.proofs.Walking.{nothing_ended, pieces_ended, pieces_failed, pieces_long, pieces_more, pieces_stopped, walks_none}
use Rattle.sfc_run.proofs.session.obey_pieces.Goals as goal

pub pieces-init : goal.pieces-init
pieces-init g c =
    let s = scene c.args.console.now (g.E.Write.contents c.args.errors.now) in
    let names = plant_of c.args.desk.now.names.now in
    record {
      seat = refl;
      few = omega arith;
      walked = (
        [],
        refl,
        Consumes-nil (g.S.Read.remaining c.args.commands.now),
        subst (λ (w : Waiting). WalksOn names g.L.OpenedWith.plant g.L.OpenedWith.table g.L.OpenedWith.limit g.C.Clock.reads [] nothing w s s)
            (sym c.requires)
            (record {
              walked = walks_none names g.L.OpenedWith.plant g.L.OpenedWith.table g.L.OpenedWith.limit g.C.Clock.reads [] nothing s refl;
              left = nothing_ended;
            }),
      );
    }

pub returns-in_err-count-clause-obeyed : goal.returns-in_err-count-clause-obeyed
returns-in_err-count-clause-obeyed g c =
    let p = err_from_is_err_and c.from_residual.result c.from_residual.ensures.1 in
    let old = scene c.args.console.now (g.E.Write.contents c.args.errors.now) in
    let new = scene c.pieces.console (g.E.Write.contents c.pieces.errors) in
    let names = plant_of c.args.desk.now.names.now in
    let walked = c.pieces.invariant.walked in
    let after : Waiting = record { lines = c.take.new.self; obeyed = c.pieces.waiting.obeyed; untold = c.pieces.waiting.untold } in
    let few : length walked.0 + (4611686018427387904 - c.pieces.taken) ≤ 4611686018427387904 = omega (arith, walked.1, c.pieces.invariant.few) in
    rw p.1 (subst (λ (error : ReplayError). PiecesOr names g.L.OpenedWith.plant g.L.OpenedWith.table g.L.OpenedWith.limit g.C.Clock.reads {A = Unit {0}}
    (g.S.Read.remaining c.args.commands.now, g.S.Read.remaining c.take.new.reader) after old new (Err error)) (sym p.2)
    (pieces_failed names g.L.OpenedWith.plant g.L.OpenedWith.table g.L.OpenedWith.limit g.C.Clock.reads
    (g.S.Read.remaining c.args.commands.now) (g.S.Read.remaining c.pieces.commands) (g.S.Read.remaining c.take.new.reader) walked.0
    (4611686018427387904 - c.pieces.taken) after old new few walked.2
    (subst (λ (lines : List ℕ). WalksOn names g.L.OpenedWith.plant g.L.OpenedWith.table g.L.OpenedWith.limit g.C.Clock.reads walked.0 nothing
    (record { lines = lines; obeyed = c.pieces.waiting.obeyed; untold = c.pieces.waiting.untold }) old new)
    (sym c.in_err-count.ensures.kept) walked.3)
    c.in_err-count.field-0.0 c.in_err-count.ensures.faults c.in_err-count.ensures.lost))

pub returns-then-count-eq0-clause-obeyed : goal.returns-then-count-eq0-clause-obeyed
returns-then-count-eq0-clause-obeyed g c =
    let walked = c.pieces.invariant.walked in
    let taken = c.in_ok-count.ensures.taken in
    let wanted : 0 < 4611686018427387904 - c.pieces.taken = omega (arith, c.pieces-test.true) in
    pieces_ended (plant_of c.args.desk.now.names.now) g.L.OpenedWith.plant g.L.OpenedWith.table g.L.OpenedWith.limit g.C.Clock.reads
    (g.S.Read.remaining c.args.commands.now) (g.S.Read.remaining c.pieces.commands) (g.S.Read.remaining c.take.new.reader) walked.0 taken.0
    c.pieces.waiting (record { lines = c.take.new.self; obeyed = c.pieces.waiting.obeyed; untold = c.pieces.waiting.untold })
    (scene c.args.console.now (g.E.Write.contents c.args.errors.now)) (scene c.pieces.console (g.E.Write.contents c.pieces.errors))
    (omega (arith, walked.1, c.pieces.invariant.few)) walked.2 walked.3 (taken.1 ∙ c.if-count-eq0.true) taken.3
    (c.in_ok-count.ensures.ended c.if-count-eq0.true wanted) taken.2 refl refl

pub obey_lines-requires : goal.obey_lines-requires
obey_lines-requires g c =
    let walked = c.pieces.invariant.walked in
    let taken = c.in_ok-count.ensures.taken in
    omega (arith, walked.1, walked.3.walked.room, taken.1, ap length taken.2, length-append c.pieces.waiting.lines taken.0, c.in_ok-count.ensures.few, c.pieces.invariant.few)

pub pieces-preserved : goal.pieces-preserved
pieces-preserved g c =
    let walked = c.pieces.invariant.walked in
    let taken = c.in_ok-count.ensures.taken in
    let came : Waiting = record { lines = c.take.new.self; obeyed = c.pieces.waiting.obeyed; untold = c.pieces.waiting.untold } in
    record {
      seat = c.in_ok-obey_lines.ensures.number ∙ c.pieces.invariant.seat;
      few = omega (arith, c.in_ok-count.ensures.few, c.pieces.invariant.few);
      walked = (
        walked.0 ++ taken.0,
        omega (arith, walked.1, taken.1, length-append walked.0 taken.0),
        consumes_more (g.S.Read.remaining c.args.commands.now) (g.S.Read.remaining c.pieces.commands) (g.S.Read.remaining c.take.new.reader)
            walked.0 taken.0 walked.2 taken.3,
        pieces_more (plant_of c.args.desk.now.names.now) g.L.OpenedWith.plant g.L.OpenedWith.table g.L.OpenedWith.limit g.C.Clock.reads
            walked.0 taken.0 c.pieces.waiting came c.obey_lines.new.waiting
            (scene c.args.console.now (g.E.Write.contents c.args.errors.now)) (scene c.pieces.console (g.E.Write.contents c.pieces.errors))
            (scene c.obey_lines.new.console (g.E.Write.contents c.obey_lines.new.errors)) walked.3 taken.2 refl refl
            c.in_ok-obey_lines.ensures.obeyed,
      );
    }

pub returns-then-is_long-clause-obeyed : goal.returns-then-is_long-clause-obeyed
returns-then-is_long-clause-obeyed g c =
    let names = plant_of c.args.desk.now.names.now in
    let walked = c.pieces.invariant.walked in
    let taken = c.in_ok-count.ensures.taken in
    let came : Waiting = record { lines = c.take.new.self; obeyed = c.pieces.waiting.obeyed; untold = c.pieces.waiting.untold } in
    let old = scene c.args.console.now (g.E.Write.contents c.args.errors.now) in
    let mid = scene c.pieces.console (g.E.Write.contents c.pieces.errors) in
    let new = scene c.obey_lines.new.console (g.E.Write.contents c.obey_lines.new.errors) in
    pieces_long names g.L.OpenedWith.plant g.L.OpenedWith.table g.L.OpenedWith.limit g.C.Clock.reads
    (g.S.Read.remaining c.args.commands.now) (g.S.Read.remaining c.take.new.reader) (walked.0 ++ taken.0) c.obey_lines.new.waiting old new
    (omega (arith, walked.1, taken.1, length-append walked.0 taken.0, c.in_ok-count.ensures.few, c.pieces.invariant.few))
    (consumes_more (g.S.Read.remaining c.args.commands.now) (g.S.Read.remaining c.pieces.commands) (g.S.Read.remaining c.take.new.reader)
    walked.0 taken.0 walked.2 taken.3)
    (pieces_more names g.L.OpenedWith.plant g.L.OpenedWith.table g.L.OpenedWith.limit g.C.Clock.reads
    walked.0 taken.0 c.pieces.waiting came c.obey_lines.new.waiting old mid new walked.3 taken.2 refl refl
    c.in_ok-obey_lines.ensures.obeyed)
    c.if-is_long.ensures

pub returns-in_err-obey_lines-clause-obeyed : goal.returns-in_err-obey_lines-clause-obeyed
returns-in_err-obey_lines-clause-obeyed g c =
    let p = err_from_is_err_and c.from_residual-in_err-obey_lines.result c.from_residual-in_err-obey_lines.ensures.1 in
    let names = plant_of c.args.desk.now.names.now in
    let walked = c.pieces.invariant.walked in
    let taken = c.in_ok-count.ensures.taken in
    let came : Waiting = record { lines = c.take.new.self; obeyed = c.pieces.waiting.obeyed; untold = c.pieces.waiting.untold } in
    let old = scene c.args.console.now (g.E.Write.contents c.args.errors.now) in
    let mid = scene c.pieces.console (g.E.Write.contents c.pieces.errors) in
    let new = scene c.obey_lines.new.console (g.E.Write.contents c.obey_lines.new.errors) in
    rw p.1 (subst (λ (error : ReplayError). PiecesOr names g.L.OpenedWith.plant g.L.OpenedWith.table g.L.OpenedWith.limit g.C.Clock.reads {A = Unit {0}}
    (g.S.Read.remaining c.args.commands.now, g.S.Read.remaining c.take.new.reader) c.obey_lines.new.waiting old new (Err error)) (sym p.2) (
      walked.0 ++ taken.0,
      omega (arith, walked.1, taken.1, length-append walked.0 taken.0, c.in_ok-count.ensures.few, c.pieces.invariant.few),
      consumes_more (g.S.Read.remaining c.args.commands.now) (g.S.Read.remaining c.pieces.commands) (g.S.Read.remaining c.take.new.reader)
          walked.0 taken.0 walked.2 taken.3,
      pieces_stopped names g.L.OpenedWith.plant g.L.OpenedWith.table g.L.OpenedWith.limit g.C.Clock.reads
          walked.0 taken.0 c.pieces.waiting came c.obey_lines.new.waiting old mid new walked.3 taken.2 refl refl
          c.in_err-obey_lines.ensures.obeyed,
    ))

pub returns-clause-obeyed : goal.returns-clause-obeyed
returns-clause-obeyed g c =
    let walked = c.pieces.invariant.walked in
    let most = most_taken 4611686018427387904 (g.S.Read.remaining c.args.commands.now) (g.S.Read.remaining c.pieces.commands) walked.0
    (omega (arith, walked.1, c.pieces-test.false, c.pieces.invariant.few)) walked.2 in
    (walked.0, omega (arith, walked.1, c.pieces.invariant.few), (inl most.0, most.1), walked.3)
