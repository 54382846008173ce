-- A word to which inputs without a time are joined.
use Rattle.std.proofs.Common.{◌≡◌, ℕ, ◌≤◌, ◌<◌, List, length, get_or, arith, ◌∙◌, ap, sym, inl, inr, eq-eqb}
use Rattle.std.specs.Prelude.{slice_set}
use Rattle.std.proofs.lemmas.Bool.{cases_eq, ne_eqb}
use Rattle.sfc_flags.specs.Words.{word_of}
use Rattle.sfc_action.specs.declared.input_words.InputWords.{InputWords}
use Rattle.sfc_action.specs.declared.step_input.PlainRun.{PlainRun}
use Rattle.sfc_action.specs.Private.SetTables.{inputs_of, IsInputTable}
use Rattle.sfc_action.specs.Private.Marks.{with_all_plain}
use Rattle.sfc_action.specs.Private.Rows.{input_row, plain_in, inputs_in, no_inputs}
use Rattle.sfc_action.specs.Private.StepGiving.{joined, IsRunOf}
use Rattle.sfc_action.proofs.RowTables.{row_here, row_set, table_put}
use Rattle.sfc_action.proofs.SetTables.{inputs_rows}

module _ (n : ℕ) (words : List InputWords) (run : PlainRun) (d new : InputWords) (t : IsInputTable n words) (of : IsRunOf n run)
    (put : (a : ℕ) → inputs_in new a ≡ with_all_plain (plain_in run.plain a) (inputs_in (get_or words run.number d) a)) where
  run_within : run.number < length words
  run_within = omega (arith, t.sized, of.number)

  run_past : (a : ℕ) → word_of a ≡ run.number → n ≤ a → inputs_in new a ≡ no_inputs
  run_past a e le =
      let was = sym (row_here inputs_in no_inputs words run.number a d e run_within) ∙ t.blank a le in
      put a ∙ (λ i. with_all_plain (of.blank a e le i) (was i))

  pub join_table : IsInputTable n (slice_set words run.number new)
  join_table = table_put inputs_in no_inputs n words run.number new t run_within run_past

  pub join_rows : (a : ℕ) → input_row (inputs_of n (slice_set words run.number new)) a ≡ joined a run (input_row (inputs_of n words) a)
  join_rows a =
      inputs_rows n (slice_set words run.number new) join_table a ∙ row_set inputs_in no_inputs words run.number a new run_within
      ∙ elim (cases_eq (word_of a) run.number) [
        | inl e ↦ rw (eq-eqb (word_of a) run.number e) (put a ∙ ap (with_all_plain (plain_in run.plain a))
            (sym (row_here inputs_in no_inputs words run.number a d e run_within) ∙ sym (inputs_rows n words t a)))
        | inr apart ↦ rw (ne_eqb (word_of a) run.number apart) (sym (inputs_rows n words t a))
      ]
