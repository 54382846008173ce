use Rattle.std.proofs.Common.{◌≡◌, ◌+◌, ◌-◌, ◌<◌, ℕ, List, drop, length, length-drop, refl, ◌∙◌, arith}
use Rattle.std.proofs.lemmas.Result.{err_from_is_err_and}
use Rattle.sfc_control.specs.sfc_debug.Agreement.{plant_of}
use Rattle.sfc_run.specs.Holding.{scene}
use Rattle.sfc_run.proofs.Walking.{walks_none, walks_one, walks_then}
use Rattle.sfc_run.proofs.session.obey_lines.Goals as goal

pub lines-init : goal.lines-init
lines-init g c = record {
  seat = refl;
  walked = walks_none (plant_of c.args.desk.now.names.now) g.L.OpenedWith.plant g.L.OpenedWith.table g.L.OpenedWith.limit g.C.Clock.reads
      c.args.waiting.now.lines c.args.waiting.now (scene c.args.console.now (g.E.Write.contents c.args.errors.now)) refl;
}

pub lines-preserved : goal.lines-preserved
lines-preserved g c =
    let before = c.lines.waiting in
    let after = c.pass.new.self in
    let rest : List ℕ = drop (length before.lines - c.in-Some.behind) before.lines in
    let left : length rest ≡ c.in-Some.behind =
    omega (arith, length-drop (length before.lines - c.in-Some.behind) before.lines, c.in-Some.ensures.fewer) in
    let room : before.obeyed + 1 < 18446744073709551616 =
    omega (arith, c.requires, c.lines.invariant.walked.room, c.in-Some.ensures.fewer) in
    let numbered : c.saturating_add-line_number.result ≡ before.obeyed + 1 = omega (arith, c.saturating_add-line_number.ensures, room) in
    let start = scene c.args.console.now (g.E.Write.contents c.args.errors.now) in
    let old = scene c.lines.console (g.E.Write.contents c.lines.errors) in
    let new = scene c.obey_line.new.console (g.E.Write.contents c.obey_line.new.errors) in
    let names = plant_of c.args.desk.now.names.now in
    record {
      seat = c.in_ok-untold.ensures.number ∙ c.lines.invariant.seat;
      walked = walks_then names g.L.OpenedWith.plant g.L.OpenedWith.table g.L.OpenedWith.limit g.C.Clock.reads
          c.args.waiting.now.lines c.args.waiting.now before after start old new c.lines.invariant.walked
          (walks_one names g.L.OpenedWith.plant g.L.OpenedWith.table g.L.OpenedWith.limit g.C.Clock.reads c.first_line_stays.ensures before after
          old new c.in-Some.line.now rest c.saturating_add-line_number.result c.in_ok-untold.untold c.in-Some.ensures.line numbered
          c.in_ok-untold.ensures.obeyed c.pass.ensures.lines (c.pass.ensures.obeyed room) c.pass.ensures.untold
          (omega (arith, left, c.in-Some.ensures.fewer)));
    }

pub returns-in_err-untold-clause-obeyed : goal.returns-in_err-untold-clause-obeyed
returns-in_err-untold-clause-obeyed g c =
    let p = err_from_is_err_and c.from_residual.result c.from_residual.ensures.1 in
    let rest : List ℕ = drop (length c.lines.waiting.lines - c.in-Some.behind) c.lines.waiting.lines in
    rw p.1 (record {
      mid = scene c.lines.console (g.E.Write.contents c.lines.errors);
      walked = c.lines.invariant.walked;
      line = c.in-Some.line.now;
      behind = rest;
      next = λ more. c.first_line_stays.ensures c.lines.waiting.lines c.in-Some.line.now rest more c.in-Some.ensures.line;
      stopped = c.in_err-untold.ensures.obeyed;
    })

pub returns-clause-obeyed : goal.returns-clause-obeyed
returns-clause-obeyed g c = record { walked = c.lines.invariant.walked; left = c.in_default.ensures.line }
