use Rattle.std.proofs.Common.{◌≡◌, ◌++◌, ℕ, List, Some, Ok, Err, subst, sym}
use Rattle.std.proofs.lemmas.Result.{err_from_is_err_and}
use Rattle.std.specs.Io.KnownBytes.{Appends}
use Rattle.sfc_base.specs.Writing.{AppendsFront}
use Rattle.sfc_base.proofs.Written.{UpTo-front, UpTo-none, front_first}
use Rattle.sfc_output.specs.sfc_debug.Steered.{Steered, steered_by}
use Rattle.sfc_output.specs.Output.{commands_lines, closing_lines, lines_of_play, session_after, debugger_of}
use Rattle.sfc_replay.proofs.Playing.{closed}
use Rattle.sfc_replay.proofs.play.play.Goals as goal

pub returns-in_err-page-clause-lines : goal.returns-in_err-page-clause-lines
returns-in_err-page-clause-lines g c rule h is_rule agrees =
    let f = err_from_is_err_and c.from_residual.result c.from_residual.ensures.1 in
    let w = g.W.Write.contents c.args.w.now in
    let text = lines_of_play (debugger_of (steered_by c.args.debugger.now)) rule h c.args.commands.now in
    rw f.1 (UpTo-front w w text text (UpTo-none w text))

pub returns-in_err-amiss-clause-lines : goal.returns-in_err-amiss-clause-lines
returns-in_err-amiss-clause-lines g c rule h is_rule agrees =
    let f = err_from_is_err_and c.from_residual-in_err-amiss.result c.from_residual-in_err-amiss.ensures.1 in
    let session = debugger_of (steered_by c.args.debugger.now) in
    let commands = c.args.commands.now in
    let old = g.W.Write.contents c.args.w.now in
    let new = g.W.Write.contents c.play_commands.new.w in
    rw f.1 (front_first old new (commands_lines session rule h commands) (closing_lines session rule (session_after session h commands))
    (subst (λ (t : List ℕ). AppendsFront old new (t ++ commands_lines session rule h commands)) c.in_ok-page.ensures
    (c.in_err-amiss.ensures.lines rule h is_rule agrees)))

pub returns-in_err-put_closing-clause-lines : goal.returns-in_err-put_closing-clause-lines
returns-in_err-put_closing-clause-lines g c rule h is_rule agrees =
    let f = err_from_is_err_and c.from_residual-in_err-put_closing.result c.from_residual-in_err-put_closing.ensures.1 in
    let steered = steered_by c.args.debugger.now in
    let same : steered_by c.play_commands.new.debugger ≡ steered = c.play_commands.ensures.steered in
    let session = debugger_of steered in
    let commands = c.args.commands.now in
    let later = session_after session h commands in
    let old = g.W.Write.contents c.args.w.now in
    let mid = g.W.Write.contents c.play_commands.new.w in
    let new = g.W.Write.contents c.put_closing.new.w in
    let waits = c.play_commands.new.page in
    let played = c.in_ok-amiss.ensures.lines rule h is_rule agrees in
    let closing : AppendsFront mid new (waits ++ closing_lines session rule later) =
    subst (λ (s : Steered). AppendsFront mid new (waits ++ closing_lines (debugger_of s) rule later)) same
    (c.in_err-put_closing.ensures.lines rule later (subst (λ (s : Steered). g.R.Report.lines s ≡ Some rule) (sym same) is_rule)
    (c.in_ok-amiss.ensures.agrees h agrees)) in
    rw f.1 (closed {X = Unit {0}} {E = Unit {0}} old mid new c.in_ok-page.page (commands_lines session rule h commands) played.0 waits
    (closing_lines session rule later) (Err tt) c.in_ok-page.ensures played.1 played.2 closing)

pub returns-clause-lines : goal.returns-clause-lines
returns-clause-lines g c rule h is_rule agrees =
    let steered = steered_by c.args.debugger.now in
    let same : steered_by c.play_commands.new.debugger ≡ steered = c.play_commands.ensures.steered in
    let session = debugger_of steered in
    let commands = c.args.commands.now in
    let later = session_after session h commands in
    let old = g.W.Write.contents c.args.w.now in
    let mid = g.W.Write.contents c.play_commands.new.w in
    let new = g.W.Write.contents c.put_closing.new.w in
    let waits = c.play_commands.new.page in
    let played = c.in_ok-amiss.ensures.lines rule h is_rule agrees in
    let closing : Appends mid new (waits ++ closing_lines session rule later) =
    subst (λ (s : Steered). Appends mid new (waits ++ closing_lines (debugger_of s) rule later)) same
    (c.in_ok-put_closing.ensures.lines rule later (subst (λ (s : Steered). g.R.Report.lines s ≡ Some rule) (sym same) is_rule)
    (c.in_ok-amiss.ensures.agrees h agrees)) in
    closed {X = Unit {0}} {E = Unit {0}} old mid new c.in_ok-page.page (commands_lines session rule h commands) played.0 waits
    (closing_lines session rule later) (Ok tt) c.in_ok-page.ensures played.1 played.2 closing
