use Rattle.std.proofs.Common.{◌≡◌, [], ◌∷◌, ◌++◌, ◌||◌, Bool, List, Some, ap, subst, sym, ◌∙◌}
use Rattle.std.proofs.lemmas.Result.{err_from_is_err_and}
use Rattle.sfc_output.specs.sfc_debug.Agreement.{Agrees}
use Rattle.sfc_output.specs.sfc_debug.Histories.{CommandHistory, TimedCommand}
use Rattle.sfc_output.specs.sfc_debug.Steered.{Steered, steered_by}
use Rattle.sfc_output.specs.Output.{command_lines, debugger_of, is_amiss}
use Rattle.sfc_replay.proofs.Playing.{IsUnderWay, Reported, all_written, none_left, passed, ran, stopped, stopped_before}
use Rattle.sfc_replay.proofs.play.play_commands.Goals as goal

pub run_command-requires : goal.run_command-requires
run_command-requires g c = record {
  fits = subst (λ (s : Steered). g.R.Report.fits c.commands.report s) (sym c.commands.invariant.steered) c.commands.invariant.fits;
}

pub commands-preserved : goal.commands-preserved
commands-preserved g c = record {
  steered = c.run_command.ensures.steered ∙ c.commands.invariant.steered;
  fits = subst (λ (s : Steered). g.R.Report.fits c.run_command.new.report s) c.commands.invariant.steered c.run_command.ensures.fits;
  under_way = λ h agrees.
      let here = steered_by c.commands.debugger in
      let steered = steered_by c.args.debugger.now in
      let same : here ≡ steered = c.commands.invariant.steered in
      let reported : Reported = record { lines = g.R.Report.lines steered; Began = g.R.Report.agrees c.args.report.now steered h } in
      let old = g.W.Write.contents c.args.w.now in
      let mid = g.W.Write.contents c.commands.w in
      let before = c.args.page.now in
      let waits = c.commands.page in
      let amiss = c.commands.amiss in
      let stands = g.R.Report.agrees c.commands.report steered in
      let timed = c.in-Some.timed.now in
      let rest = c.in-Some.after.now in
      let text = c.run_command.new.page in
      let next = c.run_command.new.debugger in
      let more = c.either-amiss.result in
      let u : IsUnderWay reported steered old mid before waits c.commands.debugger stands amiss h c.args.commands.now (timed ∷ rest) =
      subst (λ (r : List TimedCommand). IsUnderWay reported steered old mid before waits c.commands.debugger stands amiss h c.args.commands.now r)
      c.in-Some.ensures.cases.0 (c.commands.invariant.under_way h agrees) in
      let one = ran reported steered old mid before waits c.commands.debugger stands amiss h c.args.commands.now timed rest u next
      (g.R.Report.agrees c.run_command.new.report steered) text more
      (subst (λ (s : Steered). Agrees next ((debugger_of s).after u.history timed)) same (c.run_command.ensures.agrees u.history u.agrees))
      (λ stood. subst (λ (s : Steered). g.R.Report.agrees c.run_command.new.report s ((debugger_of s).after u.history timed)) same
      (c.in_ok-run_command.ensures.report u.history u.agrees
      (subst (λ (s : Steered). g.R.Report.agrees c.commands.report s u.history) (sym same) stood)))
      (subst (λ (s : Steered). more ≡ amiss || is_amiss ((debugger_of s).verdict u.history timed)) same
      (c.either-amiss.ensures ∙ ap (λ (b : Bool). amiss || b) (c.in_ok-run_command.ensures.amiss u.history u.agrees)))
      (λ rule is_rule. subst (λ (s : Steered). text ≡ waits ++ command_lines (debugger_of s) rule u.history timed) same
      (c.in_ok-run_command.ensures.lines rule u.history (subst (λ (s : Steered). g.R.Report.lines s ≡ Some rule) (sym same) is_rule) u.agrees)) in
      let p = c.in_ok-pass_on.ensures.passed in
      passed reported steered old mid before text next (g.R.Report.agrees c.run_command.new.report steered) more h c.args.commands.now rest
      (g.W.Write.contents c.pass_on.new.w) c.pass_on.new.page p.0 one p.1 p.2;
}

pub returns-in_err-pass_on-clause-lines : goal.returns-in_err-pass_on-clause-lines
returns-in_err-pass_on-clause-lines g c rule h is_rule agrees =
    let f = err_from_is_err_and c.from_residual-in_err-pass_on.result c.from_residual-in_err-pass_on.ensures.1 in
    let here = steered_by c.commands.debugger in
    let steered = steered_by c.args.debugger.now in
    let same : here ≡ steered = c.commands.invariant.steered in
    let reported : Reported = record { lines = g.R.Report.lines steered; Began = g.R.Report.agrees c.args.report.now steered h } in
    let old = g.W.Write.contents c.args.w.now in
    let mid = g.W.Write.contents c.commands.w in
    let before = c.args.page.now in
    let waits = c.commands.page in
    let amiss = c.commands.amiss in
    let stands = g.R.Report.agrees c.commands.report steered in
    let timed = c.in-Some.timed.now in
    let rest = c.in-Some.after.now in
    let text = c.run_command.new.page in
    let next = c.run_command.new.debugger in
    let more = c.either-amiss.result in
    let u : IsUnderWay reported steered old mid before waits c.commands.debugger stands amiss h c.args.commands.now (timed ∷ rest) =
    subst (λ (r : List TimedCommand). IsUnderWay reported steered old mid before waits c.commands.debugger stands amiss h c.args.commands.now r)
    c.in-Some.ensures.cases.0 (c.commands.invariant.under_way h agrees) in
    let one = ran reported steered old mid before waits c.commands.debugger stands amiss h c.args.commands.now timed rest u next
    (g.R.Report.agrees c.run_command.new.report steered) text more
    (subst (λ (s : Steered). Agrees next ((debugger_of s).after u.history timed)) same (c.run_command.ensures.agrees u.history u.agrees))
    (λ stood. subst (λ (s : Steered). g.R.Report.agrees c.run_command.new.report s ((debugger_of s).after u.history timed)) same
    (c.in_ok-run_command.ensures.report u.history u.agrees
    (subst (λ (s : Steered). g.R.Report.agrees c.commands.report s u.history) (sym same) stood)))
    (subst (λ (s : Steered). more ≡ amiss || is_amiss ((debugger_of s).verdict u.history timed)) same
    (c.either-amiss.ensures ∙ ap (λ (b : Bool). amiss || b) (c.in_ok-run_command.ensures.amiss u.history u.agrees)))
    (λ other is_other. subst (λ (s : Steered). text ≡ waits ++ command_lines (debugger_of s) other u.history timed) same
    (c.in_ok-run_command.ensures.lines other u.history (subst (λ (s : Steered). g.R.Report.lines s ≡ Some other) (sym same) is_other) u.agrees)) in
    rw f.1 (stopped reported steered old mid before text next (g.R.Report.agrees c.run_command.new.report steered) more h c.args.commands.now
    rule is_rule rest (g.W.Write.contents c.pass_on.new.w) one c.in_err-pass_on.ensures.passed)

pub returns-in_err-run_command-clause-lines : goal.returns-in_err-run_command-clause-lines
returns-in_err-run_command-clause-lines g c rule h is_rule agrees =
    let f = err_from_is_err_and c.from_residual.result c.from_residual.ensures.1 in
    let steered = steered_by c.args.debugger.now in
    let reported : Reported = record { lines = g.R.Report.lines steered; Began = g.R.Report.agrees c.args.report.now steered h } in
    rw f.1 (stopped_before reported steered (g.W.Write.contents c.args.w.now) (g.W.Write.contents c.commands.w) c.args.page.now c.commands.page
    c.commands.debugger (g.R.Report.agrees c.commands.report steered) c.commands.amiss h c.args.commands.now rule is_rule c.commands.rest.now
    (c.commands.invariant.under_way h agrees))

pub returns-clause-lines : goal.returns-clause-lines
returns-clause-lines g c rule h is_rule agrees =
    let steered = steered_by c.args.debugger.now in
    let reported : Reported = record { lines = g.R.Report.lines steered; Began = g.R.Report.agrees c.args.report.now steered h } in
    let old = g.W.Write.contents c.args.w.now in
    let mid = g.W.Write.contents c.commands.w in
    let stands = g.R.Report.agrees c.commands.report steered in
    let commands = c.args.commands.now in
    let u : IsUnderWay reported steered old mid c.args.page.now c.commands.page c.commands.debugger stands c.commands.amiss h commands [] =
    subst (λ (r : List TimedCommand). IsUnderWay reported steered old mid c.args.page.now c.commands.page c.commands.debugger stands
    c.commands.amiss h commands r) (none_left c.commands.rest.now c.in_default.ensures.cases) (c.commands.invariant.under_way h agrees) in
    all_written reported steered old mid c.args.page.now c.commands.page c.commands.debugger stands c.commands.amiss h commands rule is_rule u
