use Rattle.std.proofs.Common.{rules, length, w64, SFits, to_z-of_z}
use Rattle.sfc_replay.specs.sfc_debug.Agreement.{table_of}
use Rattle.sfc_replay.specs.sfc_debug.Steered.{steered_by}
use Rattle.sfc_session.specs.Sessions.{waiting}
use Rattle.sfc_replay.proofs.of_sfc_debug.LongerAccepted.{named}
use Rattle.sfc_session.proofs.Waiting.{numbered, agrees_by}
use Rattle.sfc_c.proofs.plc.obey_break.Goals as goal

pub returns-clause-answer : goal.returns-clause-answer
returns-clause-answer c h accepted agrees =
    let table = table_of c.args.debugger.now in
    let fits : SFits w64 c.args.placed.1 = search rules in
    let within = named _ table h accepted in
    numbered c.break_when.result _ _ (length table) 65535 (λ full. simp (to_z-of_z, fits) at (c.break_when.ensures.full h full agrees))
    (λ few. simp (to_z-of_z, fits) at (c.break_when.ensures.answer h few within agrees))

pub returns-clause-agrees : goal.returns-clause-agrees
returns-clause-agrees c h accepted agrees =
    let fits : SFits w64 c.args.placed.1 = search rules in
    let within = named _ (table_of c.args.debugger.now) h accepted in
    agrees_by c.break_when.result c.break_when.new.self (waiting (steered_by c.args.debugger.now) c.args.placed c.args.condition) h
    (simp (to_z-of_z, fits) at (c.break_when.ensures.ok h within agrees))
    (c.break_when.ensures.refused h within agrees)
