use Rattle.std.proofs.Common.{◌≡◌, ◌∙◌, ◌++◌, List, ℕ, SFits, w64, ap, append-nil, rules}
use Rattle.std.proofs.lemmas.Int.{to_z-of_z}
use Rattle.sfc_control.specs.sfc_debug.Steered.{Steered, steered_by}
use Rattle.sfc_base.specs.TimeText.{time_text}
use Rattle.sfc_events.specs.declared.command.Answer.TheVariants.{Done}
use Rattle.sfc_events.specs.declared.command.TraceRow.{TraceRow}
use Rattle.sfc_page.specs.Values.{line_end}
use Rattle.sfc_replay.specs.sfc_output.Commands.{command_line, command_text}
use Rattle.sfc_run.specs.Recording.{record_line}
use Rattle.sfc_run.proofs.recording.line_of.Goals as goal

plain : (steered : Steered) (row : TraceRow) → command_line steered row.command row.raw Done ≡ record_line steered row
unfolding command_line
plain steered row = ap (λ (t : List ℕ). t ++ line_end) (append-nil (time_text row.raw ++ command_text steered row.command))

pub returns : goal.returns
returns c =
    let steered = steered_by c.args.debugger.now in
    let fits : SFits w64 c.args.row.raw = search rules in
    let told = simp to_z-of_z at c.in_ok-append_command.ensures in
    told ∙ ap (λ (t : List ℕ). t ++ command_line steered c.args.row.command c.args.row.raw Done) c.new-line.ensures.items
    ∙ plain steered c.args.row
