-- A script that is being played.
use Rattle.std.proofs.Common.{◌≡◌, ℕ, Bool, true, false, ◌||◌, List, [], ◌∷◌, ◌++◌, length, Option, Some, Result, refl, sym, ap, subst, ◌∙◌, append_assoc}
use Rattle.std.proofs.lemmas.List.{append-nil}
use Rattle.std.specs.Io.KnownBytes.{Appends}
use Rattle.sfc_base.specs.Writing.{AppendsFront, Writes}
use Rattle.sfc_base.proofs.Written.{UpTo, UpTo-front, UpTo-more, front_first, front_second, then_writes}
use Rattle.sfc_output.specs.sfc_debug.declared.debugger.Debugger.{Debugger}
use Rattle.sfc_output.specs.sfc_debug.Agreement.{Agrees}
use Rattle.sfc_output.specs.sfc_debug.Histories.{CommandHistory, TimedCommand}
use Rattle.sfc_output.specs.sfc_debug.States.{DebugState}
use Rattle.sfc_output.specs.sfc_debug.Steered.{Steered}
use Rattle.sfc_output.specs.Output.{Lines, Verdict, any_amiss, command_lines, commands_lines, debugger_of, is_amiss, session_after}

-- What the report says of each command and of the end, if a rule says it, and whether it agreed with the history when the commands began.
pub record Reported : Type 1 where
  pub lines : Option (Lines TimedCommand Verdict DebugState)
  pub Began : Type 0

-- The commands before `rest` were played: the debugger agrees with the history after them, and so does the report, if it did when they
-- began; and it is known whether something went amiss in them. Of the text before and their lines the first bytes were written, and
-- these wait.
pub record IsUnderWay (reported : Reported) (steered : Steered) (old now : Option (List ℕ)) (before waits : List ℕ) (debugger : Debugger)
    (Stands : CommandHistory → Type 0) (amiss : Bool) (h : CommandHistory) (commands rest : List TimedCommand) : Type 0 where
  pub history : CommandHistory
  pub agrees : Agrees debugger history
  pub stands : reported.Began → Stands history
  pub after_same : session_after (debugger_of steered) h commands ≡ session_after (debugger_of steered) history rest
  pub amiss_same : any_amiss steered h commands ≡ amiss || any_amiss steered history rest
  pub up : (rule : Lines TimedCommand Verdict DebugState) → reported.lines ≡ Some rule →
      UpTo old now (before ++ commands_lines (debugger_of steered) rule h commands) (waits ++ commands_lines (debugger_of steered) rule history rest)

-- what was found so far, with one more answer
amiss_more : (amiss found more all : Bool) → all ≡ amiss || (found || more) → (next : Bool) → next ≡ amiss || found → all ≡ next || more
amiss_more true found more all e next f = e ∙ ap (λ (b : Bool). b || more) (sym f)
amiss_more false found more all e next f = e ∙ ap (λ (b : Bool). b || more) (sym f)

module _ (reported : Reported) (steered : Steered) (old mid : Option (List ℕ)) (before waits : List ℕ) (debugger : Debugger)
    (Stands : CommandHistory → Type 0) (amiss : Bool) (h : CommandHistory) (commands : List TimedCommand) where
  -- one more command was played, and its lines wait
  pub ran : (timed : TimedCommand) (rest : List TimedCommand)
      (u : IsUnderWay reported steered old mid before waits debugger Stands amiss h commands (timed ∷ rest))
      (next : Debugger) (Next : CommandHistory → Type 0) (text : List ℕ) (more : Bool)
      → Agrees next ((debugger_of steered).after u.history timed)
      → (Stands u.history → Next ((debugger_of steered).after u.history timed))
      → more ≡ amiss || is_amiss ((debugger_of steered).verdict u.history timed)
      → ((rule : Lines TimedCommand Verdict DebugState) → reported.lines ≡ Some rule →
      text ≡ waits ++ command_lines (debugger_of steered) rule u.history timed)
      → IsUnderWay reported steered old mid before text next Next more h commands rest
  ran timed rest u next Next text more agrees stands found these =
      let session = debugger_of steered in
      record {
        history = session.after u.history timed;
        agrees = agrees;
        stands = λ began. stands (u.stands began);
        after_same = u.after_same;
        amiss_same = amiss_more amiss (is_amiss (session.verdict u.history timed)) (any_amiss steered (session.after u.history timed) rest)
            (any_amiss steered h commands) u.amiss_same more found;
        up = λ rule is_rule.
            let others = commands_lines session rule (session.after u.history timed) rest in
            let up = u.up rule is_rule in
            record {
              done = up.done;
              parts = up.parts ∙ ap (λ (x : List ℕ). up.done ++ x)
                  (sym (append_assoc waits (command_lines session rule u.history timed) others)
                  ∙ ap (λ (x : List ℕ). x ++ others) (sym (these rule is_rule)));
              appends = up.appends;
            };
      }

  -- some of what waits was written
  pub passed : (rest : List TimedCommand) (new : Option (List ℕ)) (text done : List ℕ)
      → IsUnderWay reported steered old mid before waits debugger Stands amiss h commands rest
      → waits ≡ done ++ text → Appends mid new done
      → IsUnderWay reported steered old new before text debugger Stands amiss h commands rest
  passed rest new text done u parts appends = record {
    history = u.history;
    agrees = u.agrees;
    stands = u.stands;
    after_same = u.after_same;
    amiss_same = u.amiss_same;
    up = λ rule is_rule.
        let others = commands_lines (debugger_of steered) rule u.history rest in
        UpTo-more old mid new (before ++ commands_lines (debugger_of steered) rule h commands) (waits ++ others) done (text ++ others)
        (u.up rule is_rule) (ap (λ (x : List ℕ). x ++ others) parts ∙ append_assoc done text others) appends;
  }

  module _ (rule : Lines TimedCommand Verdict DebugState) (is_rule : reported.lines ≡ Some rule) where
    -- a fault came behind a front of what waits
    pub stopped : (rest : List TimedCommand) (new : Option (List ℕ))
        → IsUnderWay reported steered old mid before waits debugger Stands amiss h commands rest
        → AppendsFront mid new waits → AppendsFront old new (before ++ commands_lines (debugger_of steered) rule h commands)
    stopped rest new u front =
        let up = u.up rule is_rule in
        let others = commands_lines (debugger_of steered) rule u.history rest in
        subst (λ (t : List ℕ). AppendsFront old new t) (sym up.parts)
        (front_second old mid new up.done (waits ++ others) up.appends (front_first mid new waits others front))

    -- a fault came before the next command was played
    pub stopped_before : (rest : List TimedCommand) → IsUnderWay reported steered old mid before waits debugger Stands amiss h commands rest
        → AppendsFront old mid (before ++ commands_lines (debugger_of steered) rule h commands)
    stopped_before rest u =
        UpTo-front old mid (before ++ commands_lines (debugger_of steered) rule h commands)
        (waits ++ commands_lines (debugger_of steered) rule u.history rest) (u.up rule is_rule)

    -- all were played
    pub all_written : (u : IsUnderWay reported steered old mid before waits debugger Stands amiss h commands [])
        → (done : List ℕ) × (before ++ commands_lines (debugger_of steered) rule h commands ≡ done ++ waits) × Appends old mid done
    all_written u =
        let up = u.up rule is_rule in
        (up.done, up.parts ∙ ap (λ (x : List ℕ). up.done ++ x) (append-nil waits), up.appends)

  pub all_played : (u : IsUnderWay reported steered old mid before waits debugger Stands amiss h commands [])
      → Agrees debugger (session_after (debugger_of steered) h commands)
  all_played u = subst (λ (x : CommandHistory). Agrees debugger x) (sym u.after_same) u.agrees

  pub all_stands : (u : IsUnderWay reported steered old mid before waits debugger Stands amiss h commands [])
      → reported.Began → Stands (session_after (debugger_of steered) h commands)
  all_stands u began = subst (λ (x : CommandHistory). Stands x) (sym u.after_same) (u.stands began)

  or_false : (b : Bool) → b || false ≡ b
  or_false true = refl
  or_false false = refl

  pub all_found : (u : IsUnderWay reported steered old mid before waits debugger Stands amiss h commands []) → amiss ≡ any_amiss steered h commands
  all_found u = sym (u.amiss_same ∙ or_false amiss)

-- none are left
pub none_left : (rest : List TimedCommand) → length rest ≡ 0 → rest ≡ []
none_left [] e = refl
none_left (timed ∷ rest) e = absurd cc

-- ---- and then how it stands

-- of the lines of commands the first were written and these wait, and then these were written, and the lines of the end
pub closed : {X E : Type 0} (old mid new : Option (List ℕ)) (page commands done waits closing : List ℕ) (r : Result X E)
    → page ≡ [] → page ++ commands ≡ done ++ waits → Appends old mid done → Writes mid new r (waits ++ closing)
    → Writes old new r (commands ++ closing)
closed old mid new page commands done waits closing r empty parts written writes =
    let all : commands ++ closing ≡ done ++ (waits ++ closing) =
    ap (λ (x : List ℕ). x ++ closing) (ap (λ (p : List ℕ). p ++ commands) (sym empty) ∙ parts) ∙ append_assoc done waits closing in
    subst (λ (t : List ℕ). Writes old new r t) (sym all) (then_writes old mid new done (waits ++ closing) r written writes)
