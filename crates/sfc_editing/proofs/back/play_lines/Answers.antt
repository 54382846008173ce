use Rattle.std.proofs.Common.{ℕ, List, [], ◌++◌, subst}
use Rattle.sfc_prompt.specs.Prompts.{session_in}
use Rattle.sfc_prompt.specs.Transcripts.{Puts}
use Rattle.sfc_session.specs.declared.session.Session.{Session}
use Rattle.sfc_editing.proofs.Edited.{more_written, nothing_written}
use Rattle.sfc_editing.proofs.back.play_lines.Goals as goal

pub returns : goal.returns
returns c =
    let begun : Session = session_in c.in_ok-prompt.prompt in
    let played : Session = session_in c.obey_lines.new.prompt in
    let text : List ℕ = c.obey_lines.new.out.items in
    let puts : Puts begun played [] ([] ++ text) =
    subst (λ (before : List ℕ). Puts begun played before text) c.new-out.ensures.items c.in_ok-obey_lines.ensures in
    ([] ++ text, more_written c.args.chart.now begun played [] [] text (nothing_written c.args.chart.now begun c.in_ok-prompt.ensures.opened) puts)
