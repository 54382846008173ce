use Rattle.std.proofs.Common.{rules, ◌≡◌, ◌∙◌, sym, ap, subst, ℕ, ◌+◌, ◌<◌, ◌^◌, List, ◌++◌, length, w64, SFits, to_z, of_z, to_z-of_z}
use Rattle.std.specs.Prelude.{OnOk, OnErr}
use Rattle.sfc_events.specs.declared.command.Command.TheVariants.{BreakIf}
use Rattle.sfc_output.specs.sfc_debug.declared.debugger.Debugger.{Debugger}
use Rattle.sfc_output.specs.sfc_debug.Agreement.{Agrees}
use Rattle.sfc_output.specs.sfc_debug.Histories.{TimedCommand}
use Rattle.sfc_output.specs.sfc_debug.Verdict.{history_by}
use Rattle.sfc_output.specs.sfc_debug.Steered.{Steered, steered_by}
use Rattle.sfc_output.specs.Output.{Verdict}
use Rattle.sfc_session.specs.Sessions.{count_in, debugger_in, instant_in, lines_by, rows_after, rows_in, steered_after, steered_in, waiting, with_one_more}
use Rattle.sfc_session.proofs.Waiting.{waits_on, lines_are, row_waiting}
use Rattle.sfc_session.proofs.session.Session.break_when.Goals as goal

pub returns-clause-said : goal.returns-clause-said
unfolding debugger_in instant_in count_in rows_in
returns-clause-said c h lines said =
    let old = c.args.self.now in
    let new = c.keep_if.new.self in
    let v : Verdict = c.in_ok-answer.answer in
    let timed = waiting (steered_in old) c.args.placed c.args.condition in
    let fits : SFits w64 c.args.placed.1 = search rules in
    let named_so : length (steered_in old).table < 65535 → c.next_break.result ≡ timed.0 =
    λ few. c.next_break.ensures (subst (λ (n : ℕ). n < 65535) (sym said.count) few)
    ∙ ap (λ n. BreakIf c.args.condition.program c.args.placed.0 (record { 0 = n })) said.count in
    let debugger : debugger_in new ≡ c.obey_break.new.debugger = c.in_ok-keep_if.ensures.debugger ∙ c.count_if.ensures.debugger in
    let same : steered_in new ≡ steered_after v (steered_in old) c.args.condition =
    ap steered_by debugger ∙ c.in_ok-answer.ensures.steered in
    let agrees = subst (λ (d : Debugger). Agrees d (history_by v timed h)) (sym debugger)
    (c.in_ok-answer.ensures.agrees h said.accepted said.agrees) in
    let told : TimedCommand = (c.next_break.result, to_z w64 (of_z w64 c.args.placed.1)) in
    let counted : debugger_in c.count_if.new.self ≡ c.obey_break.new.debugger = c.count_if.ensures.debugger in
    let kept : rows_in new ≡ rows_after v (with_one_more (steered_in old) c.args.condition) h timed (rows_in c.count_if.new.self) =
    row_waiting (steered_in old) c.args.placed c.args.condition h (steered_in c.count_if.new.self) told v (debugger_in c.count_if.new.self)
    (rows_in c.count_if.new.self) (rows_in new) (ap steered_by counted ∙ c.in_ok-answer.ensures.steered)
    (c.in_ok-answer.ensures.answer h said.accepted said.agrees)
    (λ few i. (named_so few i, to_z-of_z fits i))
    (subst (λ (d : Debugger). Agrees d (history_by v timed h)) (sym counted) (c.in_ok-answer.ensures.agrees h said.accepted said.agrees))
    (c.in_ok-keep_if.ensures.rows h) in
    waits_on old new c.args.placed c.args.condition h lines said v (c.in_ok-answer.ensures.answer h said.accepted said.agrees) same agrees
    (λ few. subst (λ (n : ℕ). OnOk v (n ≡ count_in old + 1)) (sym c.in_ok-keep_if.ensures.count) (c.count_if.ensures.count few))
    (subst (λ (n : ℕ). OnErr v (n ≡ count_in old)) (sym c.in_ok-keep_if.ensures.count) c.count_if.ensures.stays)
    (simp (to_z-of_z, fits) at c.in_ok-keep_if.ensures.instant)
    (subst (λ n. OnErr v (instant_in new ≡ n)) c.count_if.ensures.instant c.in_ok-keep_if.ensures.stays)
    (kept ∙ ap (rows_after v (with_one_more (steered_in old) c.args.condition) h timed) c.count_if.ensures.rows)

pub returns-clause-written : goal.returns-clause-written
unfolding debugger_in count_in
returns-clause-written c h lines said =
    let old = c.args.self.now in
    let v : Verdict = c.in_ok-answer.answer in
    let st : Steered = steered_in old in
    let condition = c.args.condition in
    let timed : TimedCommand = waiting st c.args.placed condition in
    let out : List ℕ = c.args.out.now.items in
    let is = c.in_ok-answer.ensures.answer h said.accepted said.agrees in
    let agrees = c.in_ok-answer.ensures.agrees h said.accepted said.agrees in
    let told : TimedCommand = (c.next_break.result, c.args.placed.1) in
    c.in_ok-append_answer.ensures (history_by v timed h) agrees
    ∙ ap (λ text. out ++ text)
    (lines_are st c.args.placed condition h (steered_by c.obey_break.new.debugger) told v c.in_ok-answer.ensures.steered is
    (λ few. c.next_break.ensures (subst (λ (n : ℕ). n < 65535) (sym said.count) few)
    ∙ ap (λ n. BreakIf condition.program c.args.placed.0 (record { 0 = n })) said.count))
    ∙ ap (λ (v : Verdict). out ++ lines_by v (with_one_more st condition) h timed) is
