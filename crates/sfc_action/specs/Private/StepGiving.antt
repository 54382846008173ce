-- What the associations of a step give as inputs: those without a time word by word, and those with a time one by one.
use Rattle.std.specs.Prelude.{ℕ, ◌≡◌, ◌==◌, ◌+◌, ◌<◌, ◌≤◌, not, cond}
use Rattle.std.specs.Prelude.{List, [], ◌∷◌, length, map, filter, All}
use Rattle.std.specs.Prelude.{slice_index_or, slice_range}
use Rattle.std.specs.Int.{div_ceil}
use Rattle.sfc_flags.specs.Words.{word_of}
use Rattle.sfc_tables.specs.declared.step_action.StepAction.{StepAction}
use Rattle.sfc_tables.specs.Tables.{Tabled}
use Rattle.sfc_action.specs.declared.step_input.PlainRun.{PlainRun}
use Rattle.sfc_action.specs.declared.step_input.StepInput.{StepInput}
use Rattle.sfc_action.specs.declared.step_inputs.StepSpan.{StepSpan}
use Rattle.sfc_action.specs.ActionControl.{is_timed}
use Rattle.sfc_action.specs.Private.Marking.{of_step}
use Rattle.sfc_action.specs.Private.Marks.{with_input, with_all_plain}
use Rattle.sfc_action.specs.Private.WordRows.{InputRow, plain_in, no_plain}

-- ---- the row of action a

-- after this association acts
abbrev pub given : ℕ → StepAction → InputRow → InputRow
given a x r = cond (a == x.action.0) (with_input x.qualifier r) r

abbrev pub all_given : ℕ → List StepAction → InputRow → InputRow
all_given a [] r = r
all_given a (x ∷ xs) r = all_given a xs (given a x r)

-- with the inputs of these words too
abbrev pub joined : ℕ → PlainRun → InputRow → InputRow
joined a run r = cond (word_of a == run.number) (with_all_plain (plain_in run.plain a) r) r

abbrev pub all_joined : ℕ → List PlainRun → InputRow → InputRow
all_joined a [] r = r
all_joined a (run ∷ runs) r = all_joined a runs (joined a run r)

-- ---- what a step gives

-- inputs without a time word by word, and associations with a time
pub record StepGiven : Type 0 where
  pub plain : List PlainRun
  pub timed : List StepAction

abbrev pub given_of : StepInput → StepGiven
given_of step_input = record { plain = step_input.plain.items; timed = step_input.timed.items }

abbrev pub timed_of : List StepAction → List StepAction
timed_of associations = filter (λ x. is_timed x.qualifier) associations

abbrev pub plain_of : List StepAction → List StepAction
plain_of associations = filter (λ x. not (is_timed x.qualifier)) associations

-- a word of n actions, with no flag past the last one
pub record IsRunOf (n : ℕ) (run : PlainRun) : Type 0 where
  pub number : run.number < div_ceil n 64
  pub blank : (a : ℕ) → word_of a ≡ run.number → n ≤ a → plain_in run.plain a ≡ no_plain

-- it is what these associations give n actions, in no more entries than associations
pub record IsGivenBy (n : ℕ) (associations : List StepAction) (step_given : StepGiven) : Type 0 where
  pub plain : (a : ℕ) (r : InputRow) → all_joined a step_given.plain r ≡ all_given a (plain_of associations) r
  pub timed : step_given.timed ≡ timed_of associations
  pub within : All (IsRunOf n) step_given.plain
  pub few : length step_given.plain + length step_given.timed ≤ length associations

-- it is what the first k steps of these tables give
pub record AreGivenTo (tables : Tabled) (k : ℕ) (steps_given : List StepGiven) : Type 0 where
  pub steps : length steps_given ≡ k
  pub each : (s : ℕ) (d : StepGiven) → s < k
      → IsGivenBy (length tables.actions) (of_step tables.associations s) (slice_index_or steps_given s d)

-- ---- where it stands

abbrev pub at_span : List PlainRun → List StepAction → StepSpan → StepGiven
at_span plain timed span = record {
  plain = slice_range plain span.plain_start (span.plain_start + span.plain_count);
  timed = slice_range timed span.timed_start (span.timed_start + span.timed_count);
}

abbrev pub all_at_spans : List PlainRun → List StepAction → List StepSpan → List StepGiven
all_at_spans plain timed spans = map (at_span plain timed) spans

-- among n words and m associations
pub record IsSpanOf (n m : ℕ) (span : StepSpan) : Type 0 where
  pub plain : span.plain_start + span.plain_count ≤ n
  pub timed : span.timed_start + span.timed_count ≤ m
