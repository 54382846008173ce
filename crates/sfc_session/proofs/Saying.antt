-- A session that goes on, and what a replay writes of it.
use Rattle.std.proofs.Common.{◌≡◌, ◌∙◌, refl, sym, ap, subst, ℕ, List, [], ◌∷◌, ◌++◌, length, append_assoc, Ok, Err, rules}
use Rattle.std.specs.Prelude.{IsOk, is_ok, reverse, IfOk, OnErr}
use Rattle.sfc_events.specs.declared.command.Answer.{Answer}
use Rattle.sfc_events.specs.declared.command.TraceRow.{TraceRow}
use Rattle.std.proofs.lemmas.List.{append-nil, reverse-append}
use Rattle.sfc_output.specs.sfc_debug.Agreement.{Agrees}
use Rattle.sfc_output.specs.sfc_debug.Histories.{CommandHistory, TimedCommand}
use Rattle.sfc_output.specs.sfc_debug.Meaning.{IsAccepted}
use Rattle.sfc_output.specs.sfc_debug.Sums.{all_rows, answer_in}
use Rattle.sfc_output.specs.sfc_debug.Tracing.{row_of}
use Rattle.sfc_output.specs.sfc_debug.Verdict.{verdict, history_by}
use Rattle.sfc_output.specs.sfc_debug.Steered.{Steered}
use Rattle.sfc_output.specs.Output.{Verdict, command_lines, commands_lines, debugger_of, session_after, text_of}
use Rattle.sfc_session.specs.declared.session.Session.{Session}
use Rattle.sfc_session.specs.Sessions.{HasSaid, count_in, debugger_in, history_lines, instant_in, rows_after, rows_in, rows_of, steered_in, with_lines}

-- ---- a replay of what was accepted

reversed : (timed : TimedCommand) (h : CommandHistory) → reverse (timed ∷ h) ≡ reverse h ++ timed ∷ []
reversed timed h = reverse-append (timed ∷ []) h

kept : (v : Verdict) (timed : TimedCommand) (h : CommandHistory) → IsOk v → history_by v timed h ≡ timed ∷ h
kept (Ok answer) timed h ok = refl
kept (Err refusal) timed h ok = search rules

module _ (steered : Steered) where
  after_more : (commands : List TimedCommand) (timed : TimedCommand) (h : CommandHistory)
      → session_after (debugger_of steered) h (commands ++ timed ∷ [])
      ≡ (debugger_of steered).after (session_after (debugger_of steered) h commands) timed
  after_more [] timed h = refl
  after_more (first ∷ commands) timed h = after_more commands timed ((debugger_of steered).after h first)

  lines_more : (commands : List TimedCommand) (timed : TimedCommand) (h : CommandHistory)
      → commands_lines (debugger_of steered) (text_of steered) h (commands ++ timed ∷ [])
      ≡ commands_lines (debugger_of steered) (text_of steered) h commands
      ++ command_lines (debugger_of steered) (text_of steered) (session_after (debugger_of steered) h commands) timed
  lines_more [] timed h = append-nil (command_lines (debugger_of steered) (text_of steered) h timed)
  lines_more (first ∷ commands) timed h =
      let later = (debugger_of steered).after h first in
      let one = command_lines (debugger_of steered) (text_of steered) h first in
      ap (λ text. one ++ text) (lines_more commands timed later)
      ∙ sym (append_assoc one (commands_lines (debugger_of steered) (text_of steered) later commands)
      (command_lines (debugger_of steered) (text_of steered) (session_after (debugger_of steered) later commands) timed))

  pub replayed : (h : CommandHistory) → IsAccepted steered.plant steered.table h → session_after (debugger_of steered) [] (reverse h) ≡ h
  replayed [] accepted = refl
  replayed (timed ∷ h) accepted =
      ap (session_after (debugger_of steered) []) (reversed timed h) ∙ after_more (reverse h) timed []
      ∙ ap (λ g. (debugger_of steered).after g timed) (replayed h accepted.1)
      ∙ kept (verdict steered.plant steered.table h timed.0 timed.1) timed h accepted.0

  pub written : (h : CommandHistory) → IsAccepted steered.plant steered.table h
      → commands_lines (debugger_of steered) (text_of steered) [] (reverse h) ≡ history_lines steered h
  written [] accepted = refl
  written (timed ∷ h) accepted =
      let front = written h accepted.1 in
      let history = replayed h accepted.1 in
      ap (commands_lines (debugger_of steered) (text_of steered) []) (reversed timed h) ∙ lines_more (reverse h) timed []
      ∙ (λ i. front i ++ command_lines (debugger_of steered) (text_of steered) (history i) timed)

-- ---- the row of one command more

pub row_more : (steered : Steered) (h : CommandHistory) (timed : TimedCommand) (answer : Answer) (rows : List TraceRow)
    → verdict steered.plant steered.table h timed.0 timed.1 ≡ Ok answer → rows ≡ rows_of steered h
    → rows ++ row_of steered.plant steered.table h timed.0 timed.1 answer ∷ [] ≡ rows_of steered (timed ∷ h)
row_more steered h timed answer rows is same =
    let row : Answer → TraceRow = λ given. row_of steered.plant steered.table h timed.0 timed.1 given in
    (λ i. same i ++ row (answer_in (sym is i)) ∷ [])
    ∙ sym (reverse-append (row (answer_in (verdict steered.plant steered.table h timed.0 timed.1)) ∷ []) (all_rows steered.plant steered.table h))

-- ---- one command more

module _ (old new : Session) (timed : TimedCommand) (h : CommandHistory) (lines : List ℕ) (said : HasSaid old h lines)
    (same : steered_in new ≡ steered_in old) (count : count_in new ≡ count_in old) where
  abbrev st : Steered
  st = steered_in old

  abbrev more : List ℕ
  more = command_lines (debugger_of st) (text_of st) h timed

  counted : count_in new ≡ length (steered_in new).table
  counted = count ∙ said.count ∙ ap (λ (s : Steered). length s.table) (sym same)

  said_by : (v : Verdict) → verdict st.plant st.table h timed.0 timed.1 ≡ v → Agrees (debugger_in new) (history_by v timed h)
      → IfOk v (λ _. instant_in new ≡ timed.1) → OnErr v (instant_in new ≡ instant_in old)
      → rows_in new ≡ rows_after v st h timed (rows_in old) → HasSaid new (history_by v timed h) (with_lines v lines more)
  said_by (Ok answer) is agrees later stays rows = record {
    agrees = agrees;
    accepted = subst (λ (s : Steered). IsAccepted s.plant s.table (timed ∷ h)) (sym same) (ap is_ok is, said.accepted);
    instant = later;
    count = counted;
    text = ap (λ l. l ++ more) said.text ∙ ap (λ (s : Steered). history_lines s (timed ∷ h)) (sym same);
    rows = rows ∙ row_more st h timed answer (rows_in old) is said.rows ∙ ap (λ (s : Steered). rows_of s (timed ∷ h)) (sym same);
  }
  said_by (Err refusal) is agrees later stays rows = record {
    agrees = agrees;
    accepted = subst (λ (s : Steered). IsAccepted s.plant s.table h) (sym same) said.accepted;
    instant = stays ∙ said.instant;
    count = counted;
    text = said.text ∙ ap (λ (s : Steered). history_lines s h) (sym same);
    rows = rows ∙ said.rows ∙ ap (λ (s : Steered). rows_of s h) (sym same);
  }

  pub goes_on : (answer : Verdict) → answer ≡ verdict st.plant st.table h timed.0 timed.1
      → Agrees (debugger_in new) (history_by (verdict st.plant st.table h timed.0 timed.1) timed h)
      → IfOk answer (λ _. instant_in new ≡ timed.1) → OnErr answer (instant_in new ≡ instant_in old)
      → rows_in new ≡ rows_after answer st h timed (rows_in old)
      → HasSaid new (history_by (verdict st.plant st.table h timed.0 timed.1) timed h)
      (with_lines (verdict st.plant st.table h timed.0 timed.1) lines more)
  goes_on answer is agrees later stays rows =
      said_by (verdict st.plant st.table h timed.0 timed.1) refl agrees
      (subst (λ (v : Verdict). IfOk v (λ _. instant_in new ≡ timed.1)) is later)
      (subst (λ (v : Verdict). OnErr v (instant_in new ≡ instant_in old)) is stays)
      (rows ∙ ap (λ (v : Verdict). rows_after v st h timed (rows_in old)) is)
