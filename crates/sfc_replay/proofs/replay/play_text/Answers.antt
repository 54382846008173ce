use Rattle.std.proofs.Common.{◌≡◌, Bool, List, [], refl, subst}
use Rattle.std.specs.Result.{IfOk}
use Rattle.sfc_base.specs.Writing.{Writes}
use Rattle.sfc_output.specs.sfc_debug.Histories.{TimedCommand}
use Rattle.sfc_output.specs.sfc_debug.Steered.{steered_by}
use Rattle.sfc_output.specs.Output.{any_amiss, debugger_of, lines_of_play, text_of}
use Rattle.sfc_replay.proofs.replay.play_text.Goals as goal

pub returns-clause-lines : goal.returns-clause-lines
returns-clause-lines g c agrees =
    let steered = steered_by c.args.opened.debugger in
    subst (λ (cs : List TimedCommand). Writes (g.W.Write.contents c.args.w.now) (g.W.Write.contents c.play.new.w) c.play.result
    (lines_of_play (debugger_of steered) (text_of steered) [] cs)) c.deref.ensures.value (c.play.ensures.lines (text_of steered) [] refl agrees)

pub returns-clause-amiss : goal.returns-clause-amiss
returns-clause-amiss g c agrees =
    let steered = steered_by c.args.opened.debugger in
    subst (λ (cs : List TimedCommand). IfOk c.play.result (λ (amiss : Bool). amiss ≡ any_amiss steered [] cs)) c.deref.ensures.value
    (c.play.ensures.amiss [] agrees)

pub play-requires : goal.play-requires
play-requires g c = record { fits = c.new-text.ensures (steered_by c.args.opened.debugger) }
