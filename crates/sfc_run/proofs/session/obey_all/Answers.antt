use Rattle.std.proofs.Common.{true, false, sym, ap, subst, ◌∙◌}
use Rattle.sfc_control.specs.sfc_debug.Agreement.{plant_of}
use Rattle.sfc_run.specs.declared.run_faults.RunFaults.{RunFaults}
use Rattle.sfc_run.specs.Faults.{both}
use Rattle.sfc_run.specs.Holding.{ObeysLines, scene}
use Rattle.sfc_run.proofs.Walking.{last_room, lines_all, pieces_read}
use Rattle.sfc_run.proofs.session.obey_all.Goals as goal

pub obey_last-requires : goal.obey_last-requires
obey_last-requires g c =
    let came = c.in-Ok.ensures.obeyed in
    record {
      left = came.3.left;
      room = last_room (plant_of c.args.desk.now.names.now) g.L.OpenedWith.plant g.L.OpenedWith.table g.L.OpenedWith.limit g.C.Clock.reads
          came.0 c.obey_pieces.new.waiting (scene c.args.console.now (g.E.Write.contents c.args.errors.now))
          (scene c.obey_pieces.new.console (g.E.Write.contents c.obey_pieces.new.errors)) came.1 came.3;
    }

pub returns-in-Ok-clause-obeyed : goal.returns-in-Ok-clause-obeyed
returns-in-Ok-clause-obeyed g c =
    let names = plant_of c.args.desk.now.names.now in
    let first = g.S.Read.remaining c.args.commands.now in
    let last = g.S.Read.remaining c.obey_pieces.new.commands in
    let old = scene c.args.console.now (g.E.Write.contents c.args.errors.now) in
    let mid = scene c.obey_pieces.new.console (g.E.Write.contents c.obey_pieces.new.errors) in
    let new = scene c.obey_last.new.console (g.E.Write.contents c.obey_last.new.errors) in
    let came = c.in-Ok.ensures.obeyed in
    subst (λ (f : RunFaults). ObeysLines names g.L.OpenedWith.plant g.L.OpenedWith.table g.L.OpenedWith.limit g.C.Clock.reads (first, last) old new f)
    (sym c.faults_by.ensures)
    (lines_all names g.L.OpenedWith.plant g.L.OpenedWith.table g.L.OpenedWith.limit g.C.Clock.reads false first last came.0
    c.obey_pieces.new.waiting old mid new came.1 came.2 came.3 c.obey_last.result c.obey_last.ensures.obeyed)

pub obey_last-last-requires : goal.obey_last-last-requires
obey_last-last-requires g c =
    let names = plant_of c.args.desk.now.names.now in
    let first = g.S.Read.remaining c.args.commands.now in
    let last = g.S.Read.remaining c.obey_pieces.new.commands in
    let old = scene c.args.console.now (g.E.Write.contents c.args.errors.now) in
    let mid = scene c.obey_pieces.new.console (g.E.Write.contents c.obey_pieces.new.errors) in
    let came = pieces_read names g.L.OpenedWith.plant g.L.OpenedWith.table g.L.OpenedWith.limit g.C.Clock.reads first last
    c.obey_pieces.new.waiting old mid c.in-Err.error c.in_default.not-Memory c.in-Err.ensures.obeyed in
    record {
      left = came.3.left;
      room = last_room names g.L.OpenedWith.plant g.L.OpenedWith.table g.L.OpenedWith.limit g.C.Clock.reads
          came.0 c.obey_pieces.new.waiting old mid came.1 came.3;
    }

pub returns : goal.returns
returns g c =
    let names = plant_of c.args.desk.now.names.now in
    let first = g.S.Read.remaining c.args.commands.now in
    let last = g.S.Read.remaining c.obey_pieces.new.commands in
    let old = scene c.args.console.now (g.E.Write.contents c.args.errors.now) in
    let mid = scene c.obey_pieces.new.console (g.E.Write.contents c.obey_pieces.new.errors) in
    let new = scene c.obey_last-last.new.console (g.E.Write.contents c.obey_last-last.new.errors) in
    let came = pieces_read names g.L.OpenedWith.plant g.L.OpenedWith.table g.L.OpenedWith.limit g.C.Clock.reads first last
    c.obey_pieces.new.waiting old mid c.in-Err.error c.in_default.not-Memory c.in-Err.ensures.obeyed in
    let read : RunFaults = record {
      memory = false;
      read = true;
      write = false;
      mismatch = false;
      untold = false;
      faulted = false;
      ended = false;
    } in
    record {
      number = c.obey_last-last.ensures.number ∙ c.obey_pieces.ensures.number;
      obeyed = subst (λ (f : RunFaults). ObeysLines names g.L.OpenedWith.plant g.L.OpenedWith.table g.L.OpenedWith.limit g.C.Clock.reads
          (first, last) old new f)
          (sym (c.with-in_default.ensures ∙ ap (λ (f : RunFaults). both f c.faults_by-in_default.result) c.of_read.ensures
          ∙ ap (λ (f : RunFaults). both read f) c.faults_by-in_default.ensures))
          (lines_all names g.L.OpenedWith.plant g.L.OpenedWith.table g.L.OpenedWith.limit g.C.Clock.reads true first last came.0
          c.obey_pieces.new.waiting old mid new came.1 came.2 came.3 c.obey_last-last.result c.obey_last-last.ensures.obeyed);
    }
