use Rattle.std.proofs.Common.{◌≡◌, ◌==◌, ◌+◌, ℕ, false, true, List, length, ap, subst, ◌∙◌, arith}
use Rattle.sfc_control.specs.sfc_debug.Agreement.{plant_of}
use Rattle.sfc_replay.specs.sfc_script.Lines.{lines_of}
use Rattle.sfc_run.specs.Asks.{run_line}
use Rattle.sfc_run.specs.Holding.{scene}
use Rattle.sfc_run.specs.Working.Walking.{ObeysOr}
use Rattle.sfc_run.proofs.Obeying.{obeys_only}
use Rattle.sfc_run.proofs.Walking.{last_alone}
use Rattle.sfc_run.proofs.session.obey_last.Goals as goal

pub returns-clause-obeyed : goal.returns-clause-obeyed
returns-clause-obeyed g c =
    let names = plant_of c.args.desk.now.names.now in
    let waiting = c.args.waiting.now in
    let old = scene c.args.console.now (g.E.Write.contents c.args.errors.now) in
    let new = scene c.obey_line.new.console (g.E.Write.contents c.obey_line.new.errors) in
    let some : length waiting.lines ≡ 0 → ⊥ = λ none.
    (let bad : false ≡ true = c.if-is_empty.ensures ∙ ap (λ (n : ℕ). n == 0) (ap length c.waiting-line.ensures ∙ none) in cc) in
    let numbered : c.saturating_add-last.result ≡ waiting.obeyed + 1 = omega (arith, c.saturating_add-last.ensures, c.requires.room, some) in
    obeys_only names g.L.OpenedWith.plant g.L.OpenedWith.table g.L.OpenedWith.limit g.C.Clock.reads (waiting.obeyed + 1) c.saturating_add-last.result
    waiting.lines (lines_of waiting.lines) old new (last_alone waiting.lines some c.requires.left) numbered c.obey_line.result
    (subst (λ (line : List ℕ). ObeysOr names g.L.OpenedWith.plant g.L.OpenedWith.table g.L.OpenedWith.limit g.C.Clock.reads c.saturating_add-last.result
    (run_line names line) old new c.obey_line.result) c.waiting-line.ensures c.obey_line.ensures.obeyed)
