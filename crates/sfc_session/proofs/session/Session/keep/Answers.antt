use Rattle.std.proofs.Common.{rules, ◌≡◌, ◌∙◌, ap, ℕ, ◌+◌, ◌++◌, List, [], ◌∷◌, length, ℤ, w64, SFits, to_z, of_z, to_z-of_z, arith}
use Rattle.sfc_events.specs.declared.command.Command.{Command}
use Rattle.sfc_events.specs.declared.command.TraceRow.{TraceRow}
use Rattle.sfc_output.specs.sfc_debug.Agreement.{plant_of, table_of}
use Rattle.sfc_output.specs.sfc_debug.Histories.{CommandHistory, TimedCommand}
use Rattle.sfc_output.specs.sfc_debug.States.{state_of}
use Rattle.sfc_output.specs.sfc_debug.Tracing.{row_of}
use Rattle.sfc_session.specs.Sessions.{debugger_in, rows_in}
use Rattle.sfc_session.proofs.Given.{whatever}
use Rattle.sfc_session.proofs.session.Session.keep.Goals as goal

pub returns-clause-rows : goal.returns-clause-rows
unfolding debugger_in rows_in state_of
returns-clause-rows c h agrees =
    let plant = plant_of c.args.self.now.debugger in
    let table = table_of c.args.self.now.debugger in
    let timed : TimedCommand = c.args.timed in
    let later : CommandHistory = timed ∷ h in
    let old : List TraceRow = c.args.self.now.rows.items in
    let row : TraceRow = row_of plant table h timed.0 timed.1 c.args.answer in
    let same : (c.timed.inside.command, c.timed.inside.raw) ≡ timed = c.timed.view_is in
    let command : c.timed.inside.command ≡ timed.0 = ap (λ (p : TimedCommand). p.0) same in
    let given : c.timed.inside.raw ≡ timed.1 = ap (λ (p : TimedCommand). p.1) same in
    let fits_raw : SFits w64 c.timed.inside.raw = search rules in
    let fits_run : SFits w64 c.run_instant.result = search rules in
    let raw : to_z w64 (of_z w64 c.timed.inside.raw) ≡ timed.1 = to_z-of_z fits_raw ∙ given in
    let one : length later ≡ length h + 1 = omega arith in
    let count : c.accepted.result ≡ length h + 1 = c.accepted.ensures later agrees ∙ one in
    let stands : c.run_instant.result ≡ (state_of plant table later).clock.instant = c.run_instant.ensures later agrees in
    let run : to_z w64 (of_z w64 c.run_instant.result) ≡ (state_of plant table later).clock.instant = to_z-of_z fits_run ∙ stands in
    let is : c.push.new.self.items ≡ old ++ row ∷ [] =
    c.in_ok-push.ensures.items
    ∙ (λ i. old ++ record { number = count i; raw = raw i; t = run i; command = command i; answer = c.args.answer } ∷ []) in
    whatever c.append_line.result (c.push.new.self.items ≡ old ++ row ∷ []) is
