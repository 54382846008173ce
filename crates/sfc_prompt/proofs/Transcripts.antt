-- What a session has written since its opening.
use Rattle.std.proofs.Common.{◌≡◌, ◌∙◌, refl, sym, ap, subst, ℕ, suc, ◌+◌, ◌≤◌, nat_lt, arith, Bool, false, List, [], ◌∷◌, ◌++◌, length, append_assoc, Some, Result, Ok, Err, ℤ, codes}
use Rattle.std.specs.Prelude.{MatchBool, reverse}
use Rattle.std.proofs.lemmas.Bool.Decides.{nat_tests}
use Rattle.std.proofs.lemmas.List.{append-nil, reverse-append, reverse-reverse}
use Rattle.sfc_asking.specs.sfc_debug.Histories.{CommandHistory, TimedCommand}
use Rattle.sfc_asking.specs.sfc_debug.Steered.{Steered}
use Rattle.sfc_plant.specs.Plants.{PlantData}
use Rattle.sfc_asking.specs.sfc_load.Accepted.{IsAccepted}
use Rattle.sfc_asking.specs.sfc_script.Lines.{lines_of}
use Rattle.sfc_asking.specs.sfc_script.Scripts.{LinesRead, ScriptData, ScriptReads}
use Rattle.sfc_asking.proofs.of_sfc_script.TimedLines.{in_front}
use Rattle.sfc_asking.specs.sfc_output.Output.{closing_lines, commands_lines, debugger_of, lines_of_play, session_after, text_of}
use Rattle.sfc_replay.specs.Replay.{played_on}
use Rattle.sfc_session.specs.declared.session.Session.{Session}
use Rattle.sfc_session.specs.Sessions.{script_in, script_line, steered_in}
use Rattle.sfc_prompt.specs.Pieces.{Piece, Accepted, Hidden, Other, added, commands, history_after, saved, line_text, AreSaid}
use Rattle.sfc_prompt.specs.Transcripts.{HasGoneOn, IsReplayed, IsTranscript, opened_on}
use Rattle.sfc_prompt.proofs.Named.{are_named}
use Rattle.sfc_session.proofs.Saying.{replayed, written}

turned : (pieces : List Piece) (h : CommandHistory) → history_after h pieces ≡ reverse (commands pieces) ++ h
turned [] h = refl
turned (Accepted timed conditions words text ∷ pieces) h =
    turned pieces (timed ∷ h) ∙ sym (append_assoc (reverse (commands pieces)) (timed ∷ []) h)
    ∙ ap (λ (g : List TimedCommand). g ++ h) (sym (reverse-append (timed ∷ []) (commands pieces)))
turned (Hidden timed words text ∷ pieces) h =
    turned pieces (timed ∷ h) ∙ sym (append_assoc (reverse (commands pieces)) (timed ∷ []) h)
    ∙ ap (λ (g : List TimedCommand). g ++ h) (sym (reverse-append (timed ∷ []) (commands pieces)))
turned (Other text ∷ pieces) h = turned pieces h

pub transcribed : (begun : Steered) (session : Session) (text : List ℕ) → HasGoneOn begun [] [] [] text session → IsTranscript session text
transcribed begun session text gone =
    let st : Steered = steered_in session in
    let history : history_after [] gone.pieces ≡ reverse (commands gone.pieces) =
    turned gone.pieces [] ∙ append-nil (reverse (commands gone.pieces)) in
    let order : reverse (history_after [] gone.pieces) ≡ commands gone.pieces =
    ap reverse history ∙ reverse-reverse (commands gone.pieces) in
    let has = gone.said in
    record {
      pieces = gone.pieces;
      whole = gone.whole;
      lines = has.text ∙ sym (written st (history_after [] gone.pieces) has.accepted)
          ∙ ap (λ (cs : List TimedCommand). commands_lines (debugger_of st) (text_of st) [] cs) order;
      accepted = sym (ap (λ (cs : List TimedCommand). session_after (debugger_of st) [] cs) order)
          ∙ replayed st (history_after [] gone.pieces) has.accepted ∙ history;
      script = gone.script;
    }

-- ---- the script, read again

-- what the commands and the conditions of these pieces are as a script
abbrev script_of : List Piece → ScriptData
script_of pieces = record { commands = commands pieces; table = added pieces }

ended : (raw : ℤ) (words rest : List ℕ) → script_line raw words ++ rest ≡ line_text raw words ++ 10 ∷ rest
ended raw words rest = append_assoc (line_text raw words) (codes "\n") rest

lines_read : (plant : PlantData) (n k : ℕ) (pieces : List Piece) → AreSaid plant k pieces
    → LinesRead plant n k (lines_of (saved pieces)) (Ok (script_of pieces))
lines_read plant n k [] says = refl
lines_read plant n k (Other text ∷ pieces) says = lines_read plant n k pieces says
lines_read plant n k (Accepted timed conditions words text ∷ pieces) says =
    let line : List ℕ = line_text timed.1 words in
    let first : lines_of (saved (Accepted timed conditions words text ∷ pieces)) ≡ line ∷ lines_of (saved pieces) =
    ap lines_of (ended timed.1 words (saved pieces)) ∙ in_front line (saved pieces) says.0.whole in
    let one : ScriptData = record { commands = timed ∷ []; table = conditions } in
    subst (λ (lines : List (List ℕ)). LinesRead plant n k lines (Ok (script_of (Accepted timed conditions words text ∷ pieces)))) (sym first)
    (Some one, says.0.says, (Ok (script_of pieces), lines_read plant (suc n) (k + length conditions) pieces says.1, refl))
lines_read plant n k (Hidden timed words text ∷ pieces) says =
    let line : List ℕ = line_text timed.1 words in
    let first : lines_of (saved (Hidden timed words text ∷ pieces)) ≡ line ∷ lines_of (saved pieces) =
    ap lines_of (ended timed.1 words (saved pieces)) ∙ in_front line (saved pieces) says.0.whole in
    let one : ScriptData = record { commands = timed ∷ []; table = [] } in
    let rest : LinesRead plant (suc n) (k + 0) (lines_of (saved pieces)) (Ok (script_of pieces)) =
    subst (λ (m : ℕ). LinesRead plant (suc n) m (lines_of (saved pieces)) (Ok (script_of pieces))) (omega arith)
    (lines_read plant (suc n) k pieces says.1) in
    subst (λ (lines : List (List ℕ)). LinesRead plant n k lines (Ok (script_of (Hidden timed words text ∷ pieces)))) (sym first)
    (Some one, says.0.says, (Ok (script_of pieces), rest, refl))

script_read : (plant : PlantData) (pieces : List Piece) → AreSaid plant 0 pieces → length (saved pieces) ≤ 1048576
    → ScriptReads plant (saved pieces) (Ok (script_of pieces))
script_read plant pieces says short =
    let fits : nat_lt 1048576 (length (saved pieces)) ≡ false = grind (arith, nat_tests) in
    subst (λ (b : Bool). MatchBool b (◌≡◌ {A = Result ScriptData ℕ} (Ok (script_of pieces)) (Err 0)) (LinesRead plant 1 0 (lines_of (saved pieces)) (Ok (script_of pieces))))
    (sym fits) (lines_read plant 1 0 pieces says)

-- ---- a replay of it

pub replays : (chart : List ℕ) (plant : PlantData) (session : Session) (text : List ℕ) → IsAccepted chart plant
    → HasGoneOn (opened_on plant) [] [] [] text session → length (script_in session) ≤ 1048576 → IsReplayed chart session text
unfolding transcribed
replays chart plant session text loaded gone short =
    let st : Steered = steered_in session in
    let t = transcribed (opened_on plant) session text gone in
    let pieces : List Piece = gone.pieces in
    let fits : length (saved pieces) ≤ 1048576 = subst (λ (s : List ℕ). length s ≤ 1048576) gone.script short in
    let read : ScriptReads plant (saved pieces) (Ok (script_of pieces)) =
    script_read plant pieces (gone.says (are_named chart plant loaded)) fits in
    let same : st ≡ played_on plant (script_of pieces) = λ i. record { plant = gone.plant i; table = gone.table i } in
    record {
      transcript = t;
      output = record {
        plant = plant;
        loaded = loaded;
        said = script_of pieces;
        parsed = subst (λ (s : List ℕ). ScriptReads plant s (Ok (script_of pieces))) (sym gone.script) read;
        lines = (λ i. t.lines i ++ closing_lines (debugger_of st) (text_of st) (sym t.accepted i))
            ∙ ap (λ (s : Steered). lines_of_play (debugger_of s) (text_of s) [] (commands pieces)) same;
      };
    }
