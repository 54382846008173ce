-- What stands at spans of two lists, after both have got longer.
use Rattle.std.proofs.Common.{◌≡◌, ℕ, ◌+◌, ◌-◌, ◌≤◌, List, [], ◌∷◌, ◌++◌, length, take, drop, arith, ap, ◌∙◌}
use Rattle.std.specs.Prelude.{All, slice_range}
use Rattle.std.proofs.Math.Seq.{drop-append_seam}
use Rattle.std.proofs.lemmas.List.{drop-append-le, take-append-le, take_all, length-drop}
use Rattle.std.proofs.lemmas.List.Elements.{All-head, All-tail}
use Rattle.sfc_tables.specs.declared.step_action.StepAction.{StepAction}
use Rattle.sfc_action.specs.declared.step_input.PlainRun.{PlainRun}
use Rattle.sfc_action.specs.declared.step_inputs.StepSpan.{StepSpan}
use Rattle.sfc_action.specs.Private.StepGiving.{at_span, all_at_spans, IsSpanOf}

module _ {X : Type 0} (xs ys : List X) where
  range_stays : (start count : ℕ) → start + count ≤ length xs
      → slice_range (xs ++ ys) start (start + count) ≡ slice_range xs start (start + count)
  range_stays start count le =
      ap (take (start + count - start)) (drop-append-le start xs ys (omega arith))
      ∙ take-append-le (start + count - start) (drop start xs) ys (omega (arith, length-drop start xs))

  range_last : slice_range (xs ++ ys) (length xs) (length xs + length ys) ≡ ys
  range_last = ap (take (length xs + length ys - length xs)) (drop-append_seam xs ys) ∙ take_all (length xs + length ys - length xs) ys (omega arith)

module _ (plain more : List PlainRun) (timed later : List StepAction) where
  abbrev pub last : StepSpan
  last = record {
    plain_start = length plain;
    plain_count = length more;
    timed_start = length timed;
    timed_count = length later;
  }

  span_stays : (span : StepSpan) → IsSpanOf (length plain) (length timed) span
      → at_span (plain ++ more) (timed ++ later) span ≡ at_span plain timed span
  span_stays span h = λ i. record {
    plain = range_stays plain more span.plain_start span.plain_count h.plain i;
    timed = range_stays timed later span.timed_start span.timed_count h.timed i;
  }

  pub span_added : (spans : List StepSpan) → All (IsSpanOf (length plain) (length timed)) spans
      → all_at_spans (plain ++ more) (timed ++ later) (spans ++ last ∷ [])
      ≡ all_at_spans plain timed spans ++ record { plain = more; timed = later } ∷ []
  span_added [] all = λ i. record { plain = range_last plain more i; timed = range_last timed later i } ∷ []
  span_added (span ∷ spans) all =
      let here = span_stays span (All-head (IsSpanOf (length plain) (length timed)) span spans all) in
      let rest = span_added spans (All-tail (IsSpanOf (length plain) (length timed)) span spans all) in
      (λ i. here i ∷ rest i)
