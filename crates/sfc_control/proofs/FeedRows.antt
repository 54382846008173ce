-- Published rows, with one entry more.
use Rattle.std.proofs.Common.{◌≡◌, ℕ, zero, suc, ◌+◌, ◌-◌, ◌<◌, Bool, true, false, List, [], ◌∷◌, ◌++◌, All, Some, refl, ap, length, arith, ◌⊎◌, inl, inr}
use Rattle.std.specs.Bool.{MatchBool}
use Rattle.std.specs.Prelude.{slice_get, slice_index_or}
use Rattle.std.proofs.lemmas.List.Elements.{All-push, All-weaker}
use Rattle.std.proofs.lemmas.List.Quantifiers.{all_pairs_push}
use Rattle.std.proofs.lemmas.Option.{slice_get_within}
use Rattle.sfc_plant.specs.Plants.{PlantData}
use Rattle.sfc_events.specs.declared.command.TraceRow.{TraceRow}
use Rattle.sfc_debug.specs.declared.break_condition.BreakCondition.{BreakCondition}
use Rattle.sfc_debug.specs.declared.trace_mask.TraceMask.{TraceMask}
use Rattle.sfc_debug.specs.Histories.{CommandHistory}
use Rattle.sfc_debug.specs.Tracing.{is_wanted, row_of}
use Rattle.sfc_control.specs.declared.entry.Entry.{Entry}
use Rattle.sfc_control.specs.LegalHistory.{timed, told, commands_of}
use Rattle.sfc_control.specs.Rows.{ComesAfter, Rise, rows_after, IsRow}
use Rattle.sfc_control.proofs.Legal.{length-told}

get-append : (xs ys : List TraceRow) (i : ℕ) (x : TraceRow) → slice_get xs i ≡ Some x → slice_get (xs ++ ys) i ≡ Some x
get-append [] ys i x e = cc
get-append (y ∷ xs) ys zero x e = e
get-append (y ∷ xs) ys (suc i) x e = get-append xs ys i x e

get-end : (xs : List TraceRow) (x : TraceRow) (i : ℕ) → i ≡ length xs → slice_get (xs ++ x ∷ []) i ≡ Some x
get-end [] x i is = rw is refl
get-end (y ∷ xs) x i is = rw is (get-end xs x (length xs) refl)

module _ (plant : PlantData) (table : List BreakCondition) (mask : TraceMask) where
  -- the row of an entry after a history
  abbrev pub row_at : CommandHistory → Entry → TraceRow
  row_at h e = row_of plant table h e.command e.raw e.answer

  rows-push : (h : CommandHistory) (es : List Entry) (e : Entry) →
      rows_after plant table h (es ++ e ∷ []) ≡ rows_after plant table h es ++ row_at (told h es) e ∷ []
  rows-push h [] e = refl
  rows-push h (x ∷ es) e = ap (λ rows. row_at h x ∷ rows) (rows-push (timed x ∷ h) es e)

  length-rows : (h : CommandHistory) (es : List Entry) → length (rows_after plant table h es) ≡ length es
  length-rows h [] = refl
  length-rows h (x ∷ es) = ap (λ k. suc k) (length-rows (timed x ∷ h) es)

  module _ (es : List Entry) (e : Entry) where
    abbrev all : List TraceRow
    all = rows_after plant table [] es

    abbrev pub newest : TraceRow
    newest = row_at (commands_of es) e

    number_is : newest.number ≡ length es + 1
    number_is =
        let count : length (commands_of es) ≡ 0 + length es = length-told [] es in
        omega (arith, count)

    still : (row : TraceRow) → IsRow plant table mask es row → IsRow plant table mask (es ++ e ∷ []) row
    still row is = (is.0, rw (rows-push [] es e) (get-append all (newest ∷ []) (row.number - 1) row is.1), is.2)

    stands : is_wanted mask e.command ≡ true → IsRow plant table mask (es ++ e ∷ []) newest
    stands wanted =
        let place : newest.number - 1 ≡ length all = omega (arith, length-rows [] es, number_is) in
        (omega (arith, number_is), rw (rows-push [] es e) (get-end all newest (newest.number - 1) place), wanted)

    pub below : (rows : List TraceRow) → All (IsRow plant table mask es) rows → ComesAfter rows newest
    below rows are =
        All-weaker (IsRow plant table mask es) (λ row. row.number < newest.number)
        (λ row is. omega (arith, is.0, slice_get_within all (row.number - 1) row is.1, length-rows [] es, number_is)) rows are

    -- the next index is behind those that were published
    pub next_number : (rows : List TraceRow) (index : ℕ) → index ≡ length es + 1 → All (IsRow plant table mask es) rows →
        (k : ℕ) (d : TraceRow) → k < length rows → (slice_index_or rows k d).number < index
    next_number rows index at are k d low = omega (arith, below rows are k d low, number_is, at)

    module _ (old new : List TraceRow) (X : Type 0) where
      abbrev Said : Bool → Type 0
      Said b = MatchBool b ((new ≡ old ++ newest ∷ []) ⊎ ((new ≡ old) × X)) (new ≡ old)

      more : (rows : List TraceRow) → All (IsRow plant table mask es) rows → All (IsRow plant table mask (es ++ e ∷ [])) rows
      more rows are = All-weaker (IsRow plant table mask es) (IsRow plant table mask (es ++ e ∷ [])) still rows are

      rows_by : (b : Bool) → is_wanted mask e.command ≡ b → All (IsRow plant table mask es) old → Said b →
          All (IsRow plant table mask (es ++ e ∷ [])) new
      rows_by true wanted are (inl is) = rw is (All-push (IsRow plant table mask (es ++ e ∷ [])) old newest (more old are) (stands wanted))
      rows_by true wanted are (inr is) = rw is.0 (more old are)
      rows_by false wanted are is = rw is (more old are)

      -- each published row stays that of its entry
      pub rows_kept : All (IsRow plant table mask es) old → Said (is_wanted mask e.command) →
          All (IsRow plant table mask (es ++ e ∷ [])) new
      rows_kept are said = rows_by (is_wanted mask e.command) refl are said

      rise_by : (b : Bool) → All (IsRow plant table mask es) old → Rise old → Said b → Rise new
      rise_by true are rise (inl is) = rw is (all_pairs_push (λ (x y : TraceRow). x.number < y.number) old newest rise (below old are))
      rise_by true are rise (inr is) = rw is.0 rise
      rise_by false are rise is = rw is rise

      pub rise_kept : All (IsRow plant table mask es) old → Rise old → Said (is_wanted mask e.command) → Rise new
      rise_kept are rise said = rise_by (is_wanted mask e.command) are rise said
