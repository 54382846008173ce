use Rattle.std.proofs.Common.{◌≡◌, ◌∙◌, ◌∷◌, ◌++◌, [], List, length, arith, ap}
use Rattle.sfc_tables.specs.declared.step_action.StepAction.{StepAction}
use Rattle.sfc_action.specs.declared.step_input.PlainRun.{PlainRun}
use Rattle.sfc_action.specs.declared.step_inputs.StepSpan.{StepSpan}
use Rattle.sfc_action.specs.Private.StepGiving.{StepGiven, given_of, all_at_spans}
use Rattle.sfc_action.proofs.Spans.{last, span_added}
use Rattle.sfc_action.proofs.step_inputs.StepInputs.add.Goals as goal

pub returns : goal.returns
returns c =
    let plain : List PlainRun = c.self.inside.plain.items in
    let timed : List StepAction = c.self.inside.timed.items in
    let spans : List StepSpan = c.self.inside.spans.items in
    let more : List PlainRun = c.args.step_input.now.plain.items in
    let later : List StepAction = c.args.step_input.now.timed.items in
    let plain_new : c.extend_from_slice.new.self.items ≡ plain ++ more =
    c.in_ok-extend_from_slice.ensures.items ∙ ap (λ xs. plain ++ xs) c.deref.ensures.value in
    let timed_new : c.extend_from_slice-2.new.self.items ≡ timed ++ later =
    c.in_ok-extend_from_slice-2.ensures.items ∙ ap (λ xs. timed ++ xs) c.deref-2.ensures.value in
    let span : StepSpan = record {
      plain_start = c.len.result;
      plain_count = c.len-2.result;
      timed_start = c.len-3.result;
      timed_count = c.len-4.result;
    } in
    let from : c.len.result ≡ length plain = omega arith in
    let count : c.len-2.result ≡ length more = omega arith in
    let timed_from : c.len-3.result ≡ length timed = omega arith in
    let timed_count : c.len-4.result ≡ length later = omega arith in
    let at : span ≡ last plain more timed later =
    (λ i. record { plain_start = from i; plain_count = count i; timed_start = timed_from i; timed_count = timed_count i }) in
    let spans_new : c.push.new.self.items ≡ spans ++ last plain more timed later ∷ [] =
    c.in_ok-push.ensures.items ∙ ap (λ (s : StepSpan). spans ++ s ∷ []) at in
    (λ i. all_at_spans (plain_new i) (timed_new i) (spans_new i))
    ∙ span_added plain more timed later spans c.self.invariant
    ∙ ap (λ (given : List StepGiven). given ++ given_of c.args.step_input.now ∷ []) c.self.view_is
