-- A breakpoint with a condition that joins the table.
use Rattle.std.proofs.Common.{◌≡◌, ◌∙◌, refl, sym, ap, subst, ℕ, ◌+◌, ◌<◌, ◌≤◌, arith, nat_lt, cond, Bool, true, false, List, [], ◌∷◌, ◌++◌, length, Result, Ok, Err, ℤ, rules}
use Rattle.std.proofs.lemmas.Bool.Decides.{nat_tests}
use Rattle.std.proofs.lemmas.List.{length-append}
use Rattle.std.specs.Prelude.{IfOk, OnOk, OnErr, is_ok, reverse}
use Rattle.sfc_events.specs.declared.refusal.Refusal.{Refusal}
use Rattle.sfc_events.specs.declared.command.Command.{Command}
use Rattle.sfc_events.specs.declared.command.Point.{Point}
use Rattle.sfc_events.specs.declared.command.TraceRow.{TraceRow}
use Rattle.sfc_output.specs.sfc_debug.declared.break_condition.BreakCondition.{BreakCondition}
use Rattle.sfc_output.specs.sfc_debug.declared.debugger.Debugger.{Debugger}
use Rattle.sfc_output.specs.sfc_debug.Agreement.{Agrees}
use Rattle.sfc_output.specs.sfc_debug.Histories.{CommandHistory, TimedCommand}
use Rattle.sfc_output.specs.sfc_debug.Meaning.{IsAccepted}
use Rattle.sfc_output.specs.sfc_debug.Verdict.{history_by}
use Rattle.sfc_output.specs.Commands.{refusal_line}
use Rattle.sfc_output.specs.sfc_debug.Steered.{Steered}
use Rattle.sfc_output.specs.Output.{Verdict, debugger_of, text_of}
use Rattle.sfc_session.specs.declared.session.Session.{Session}
use Rattle.sfc_session.specs.Sessions.{HasSaid, count_in, debugger_in, history_lines, instant_in, rows_after, rows_in, rows_of, steered_in, with_lines}
use Rattle.sfc_session.specs.Sessions.{lines_by, steered_after, waiting, waiting_verdict, with_one_more}
use Rattle.sfc_output.proofs.of_sfc_debug.LongerAccepted.{accepted_longer, rows_same}
use Rattle.sfc_session.proofs.Longer.{history_same}
use Rattle.sfc_session.proofs.Saying.{row_more}

-- ---- the debugger

pub numbered : {E : Type 0} (result : Result Verdict E) (v : Verdict) (r : Refusal) (n m : ℕ) → (m ≤ n → IfOk result (λ a. a ≡ Err r))
    → (n < m → IfOk result (λ a. a ≡ v)) → IfOk result (λ a. a ≡ cond (nat_lt n m) v (Err r))
numbered {E} result v r n m full few = by_test (nat_lt n m) refl
  where
    by_test : (b : Bool) → nat_lt n m ≡ b → IfOk result (λ a. a ≡ cond (nat_lt n m) v (Err r))
    by_test true is = subst (λ (b : Bool). IfOk result (λ a. a ≡ cond b v (Err r))) (sym is) (few (grind (arith, nat_tests)))
    by_test false is = subst (λ (b : Bool). IfOk result (λ a. a ≡ cond b v (Err r))) (sym is) (full (grind (arith, nat_tests)))

pub agrees_by : {E : Type 0} (result : Result Verdict E) (d : Debugger) (timed : TimedCommand) (h : CommandHistory)
    → IfOk result (λ a. OnOk a (Agrees d (timed ∷ h))) → IfOk result (λ a. OnErr a (Agrees d h))
    → IfOk result (λ a. Agrees d (history_by a timed h))
agrees_by (Ok (Ok answer)) d timed h accepted refused = accepted
agrees_by (Ok (Err refusal)) d timed h accepted refused = refused
agrees_by (Err error) d timed h accepted refused = tt

-- what was accepted has a number, and was answered with the longer table
joined : (v w : Verdict) (r : Refusal) (n m : ℕ) → v ≡ cond (nat_lt n m) w (Err r) → OnOk v ((n < m) × (v ≡ w))
joined (Err refusal) w r n m is = tt
joined (Ok answer) w r n m is = by_test (nat_lt n m) refl
  where
    no : Ok answer ≡ Err r → (n < m) × (Ok answer ≡ w)
    no e = search rules

    by_test : (b : Bool) → nat_lt n m ≡ b → (n < m) × (Ok answer ≡ w)
    by_test true test = (grind (arith, nat_tests), is ∙ ap (λ b. cond b w (Err r)) test)
    by_test false test = no (is ∙ ap (λ b. cond b w (Err r)) test)

-- ---- lines

module _ (st : Steered) (placed : Point × ℤ) (condition : BreakCondition) (h : CommandHistory) where
  abbrev longer : Steered
  longer = with_one_more st condition

  abbrev timed : TimedCommand
  timed = waiting st placed condition

  pub lines_are : (new : Steered) (told : TimedCommand) (v : Verdict) → new ≡ steered_after v st condition
      → v ≡ waiting_verdict st h placed condition → (length st.table < 65535 → told.0 ≡ timed.0)
      → (text_of new).command ((debugger_of new).state (history_by v timed h)) told v ≡ lines_by v longer h timed
  lines_are new told (Err refusal) same is named = ap (λ (s : Steered). refusal_line s.plant refusal) same
  lines_are new told (Ok answer) same is named =
      let few = (joined (Ok answer) ((debugger_of longer).verdict h timed) _ (length st.table) 65535 is).0 in
      ap (λ (s : Steered). (text_of s).command ((debugger_of s).state (timed ∷ h)) told (Ok answer)) same
      ∙ ap (λ (command : Command). (text_of longer).command ((debugger_of longer).state (timed ∷ h)) (command, placed.1) (Ok answer))
      (named few)

  -- its row, where it was accepted
  pub row_waiting : (new : Steered) (told : TimedCommand) (v : Verdict) (d : Debugger) (before behind : List TraceRow)
      → new ≡ steered_after v st condition → v ≡ waiting_verdict st h placed condition → (length st.table < 65535 → told ≡ timed)
      → Agrees d (history_by v timed h) → (Agrees d (history_by v told h) → behind ≡ rows_after v new h told before)
      → behind ≡ rows_after v longer h timed before
  row_waiting new told (Err refusal) d before behind same is named agrees kept = kept agrees
  row_waiting new told (Ok answer) d before behind same is named agrees kept =
      let few = (joined (Ok answer) ((debugger_of longer).verdict h timed) _ (length st.table) 65535 is).0 in
      let one : told ≡ timed = named few in
      kept (subst (λ (t : TimedCommand). Agrees d (t ∷ h)) (sym one) agrees)
      ∙ (λ i. rows_after (Ok answer) (same i) h (one i) before)

-- ---- sessions

module _ (old new : Session) (placed : Point × ℤ) (condition : BreakCondition) (h : CommandHistory) (lines : List ℕ)
    (said : HasSaid old h lines) where
  abbrev st : Steered
  st = steered_in old

  abbrev long : Steered
  long = with_one_more st condition

  abbrev set : TimedCommand
  set = waiting st placed condition

  by_answer : (v : Verdict) → v ≡ waiting_verdict st h placed condition → steered_in new ≡ steered_after v st condition
      → Agrees (debugger_in new) (history_by v set h) → (count_in old < 65535 → OnOk v (count_in new ≡ count_in old + 1))
      → OnErr v (count_in new ≡ count_in old) → IfOk v (λ _. instant_in new ≡ placed.1) → OnErr v (instant_in new ≡ instant_in old)
      → rows_in new ≡ rows_after v long h set (rows_in old)
      → HasSaid new (history_by v set h) (with_lines v lines (lines_by v long h set))
  by_answer (Ok answer) is same agrees counted stayed later stays rows =
      let both = joined (Ok answer) ((debugger_of long).verdict h set) _ (length st.table) 65535 is in
      let few : count_in old < 65535 = subst (λ (n : ℕ). n < 65535) (sym said.count) both.0 in
      record {
        agrees = agrees;
        accepted =
            subst (λ (s : Steered). IsAccepted s.plant s.table (set ∷ h)) (sym same)
            (ap is_ok (sym both.1), accepted_longer st.plant st.table (condition ∷ []) h said.accepted);
        instant = later;
        count =
            counted few ∙ ap (λ n. n + 1) said.count ∙ sym (length-append st.table (condition ∷ []))
            ∙ ap (λ (s : Steered). length s.table) (sym same);
        text =
            ap (λ l. l ++ lines_by (Ok answer) long h set)
            (said.text ∙ sym (history_same st.plant st.table (condition ∷ []) h said.accepted))
            ∙ ap (λ (v : Verdict). history_lines long h ++ lines_by v long h set) both.1
            ∙ ap (λ (s : Steered). history_lines s (set ∷ h)) (sym same);
        rows =
            rows
            ∙ row_more long h set answer (rows_in old) (sym both.1)
            (said.rows ∙ ap reverse (sym (rows_same st.plant st.table (condition ∷ []) h said.accepted)))
            ∙ ap (λ (s : Steered). rows_of s (set ∷ h)) (sym same);
      }
  by_answer (Err refusal) is same agrees counted stayed later stays rows = record {
    agrees = agrees;
    accepted = subst (λ (s : Steered). IsAccepted s.plant s.table h) (sym same) said.accepted;
    instant = stays ∙ said.instant;
    count = stayed ∙ said.count ∙ ap (λ (s : Steered). length s.table) (sym same);
    text = said.text ∙ ap (λ (s : Steered). history_lines s h) (sym same);
    rows = rows ∙ said.rows ∙ ap (λ (s : Steered). rows_of s h) (sym same);
  }

  pub waits_on : (v : Verdict) → v ≡ waiting_verdict st h placed condition → steered_in new ≡ steered_after v st condition
      → Agrees (debugger_in new) (history_by v set h) → (count_in old < 65535 → OnOk v (count_in new ≡ count_in old + 1))
      → OnErr v (count_in new ≡ count_in old) → IfOk v (λ _. instant_in new ≡ placed.1) → OnErr v (instant_in new ≡ instant_in old)
      → rows_in new ≡ rows_after v long h set (rows_in old)
      → HasSaid new (history_by (waiting_verdict st h placed condition) set h) (with_lines (waiting_verdict st h placed condition) lines
      (lines_by (waiting_verdict st h placed condition) long h set))
  waits_on v is same agrees counted stayed later stays rows =
      subst (λ (v : Verdict). HasSaid new (history_by v set h) (with_lines v lines (lines_by v long h set))) is
      (by_answer v is same agrees counted stayed later stays rows)
