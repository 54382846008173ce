-- What a session writes, piece by piece.
use Rattle.std.proofs.Common.{◌≡◌, ◌∙◌, refl, sym, ap, subst, ℕ, ◌+◌, List, [], ◌∷◌, ◌++◌, length, append_assoc, Bool, true, false, Option, Some, None, Result, Ok, Err, ℤ, arith}
use Rattle.std.specs.Prelude.{IsOk, OnOk}
use Rattle.std.proofs.lemmas.List.{append-nil, length-append}
use Rattle.sfc_events.specs.declared.command.Command.TheVariants.{BreakIf}
use Rattle.sfc_events.specs.declared.command.Point.{Point}
use Rattle.sfc_asking.specs.sfc_debug.declared.break_condition.BreakCondition.{BreakCondition}
use Rattle.sfc_asking.specs.sfc_debug.Histories.{CommandHistory, TimedCommand}
use Rattle.sfc_asking.specs.sfc_debug.Verdict.{history_by}
use Rattle.sfc_asking.specs.sfc_debug.Steered.{Steered}
use Rattle.sfc_plant.specs.Plants.{PlantData}
use Rattle.sfc_asking.specs.sfc_script.Commands.{Conditional}
use Rattle.sfc_asking.specs.sfc_script.Scripts.{ConditionReads}
use Rattle.sfc_asking.specs.sfc_output.Output.{Verdict, command_lines, debugger_of, text_of}
use Rattle.sfc_session.specs.declared.session.Session.{Session}
use Rattle.sfc_prompt.specs.Orders.{BreaksBy, Hints, IsShown, Obeys, Order, Gives, Waits, Shows, halted_note, is_stopped}
use Rattle.sfc_prompt.specs.Pieces.{Piece, Accepted, Hidden, Other, piece_text, written, history_after, said, saved, added, AreNamed, AreSaid, IsSaid}
use Rattle.sfc_session.specs.declared.step.Step.{Step}
use Rattle.sfc_session.specs.Scanning.{step_after}
use Rattle.sfc_session.specs.Sessions.{HasSaid, IsGiven, IsTaken, IsWaiting, lines_by, script_after, script_in, script_line, steered_after, steered_in}
use Rattle.sfc_session.specs.Sessions.{waiting, waiting_verdict, with_lines, with_one_more, words_of}
use Rattle.sfc_prompt.specs.Transcripts.{HasGoneOn, GoesOn, Puts}
use Rattle.sfc_prompt.proofs.Ordering.{OrderSays, condition_says, never_there, step_says}

-- ---- pieces, and then more

written-append : (a b : List Piece) → written (a ++ b) ≡ written a ++ written b
written-append [] b = refl
written-append (piece ∷ a) b =
    ap (λ text. piece_text piece ++ text) (written-append a b) ∙ sym (append_assoc (piece_text piece) (written a) (written b))

history-append : (h : CommandHistory) (a b : List Piece) → history_after h (a ++ b) ≡ history_after (history_after h a) b
history-append h [] b = refl
history-append h (Accepted timed conditions words text ∷ a) b = history-append (timed ∷ h) a b
history-append h (Hidden timed words text ∷ a) b = history-append (timed ∷ h) a b
history-append h (Other text ∷ a) b = history-append h a b

said-append : (a b : List Piece) → said (a ++ b) ≡ said a ++ said b
said-append [] b = refl
said-append (Accepted timed conditions words text ∷ a) b = ap (λ rest. text ++ rest) (said-append a b) ∙ sym (append_assoc text (said a) (said b))
said-append (Hidden timed words text ∷ a) b = ap (λ rest. text ++ rest) (said-append a b) ∙ sym (append_assoc text (said a) (said b))
said-append (Other text ∷ a) b = said-append a b

saved-append : (a b : List Piece) → saved (a ++ b) ≡ saved a ++ saved b
saved-append [] b = refl
saved-append (Accepted timed conditions words text ∷ a) b =
    ap (λ rest. script_line timed.1 words ++ rest) (saved-append a b)
    ∙ sym (append_assoc (script_line timed.1 words) (saved a) (saved b))
saved-append (Hidden timed words text ∷ a) b =
    ap (λ rest. script_line timed.1 words ++ rest) (saved-append a b)
    ∙ sym (append_assoc (script_line timed.1 words) (saved a) (saved b))
saved-append (Other text ∷ a) b = saved-append a b

added-append : (a b : List Piece) → added (a ++ b) ≡ added a ++ added b
added-append [] b = refl
added-append (Accepted timed conditions words text ∷ a) b =
    ap (λ rest. conditions ++ rest) (added-append a b) ∙ sym (append_assoc conditions (added a) (added b))
added-append (Hidden timed words text ∷ a) b = added-append a b
added-append (Other text ∷ a) b = added-append a b

further : (k : ℕ) (more rest : List BreakCondition) → k + length more + length rest ≡ k + length (more ++ rest)
further k more rest = omega (arith, length-append more rest)

says-append : (plant : PlantData) (k : ℕ) (a b : List Piece) → AreSaid plant k a → AreSaid plant (k + length (added a)) b → AreSaid plant k (a ++ b)
says-append plant k [] b one two = subst (λ (n : ℕ). AreSaid plant n b) (omega arith) two
says-append plant k (Accepted timed conditions words text ∷ a) b one two = (
  one.0,
  says-append plant (k + length conditions) a b one.1 (subst (λ (n : ℕ). AreSaid plant n b) (sym (further k conditions (added a))) two),
)
says-append plant k (Hidden timed words text ∷ a) b one two = (one.0, says-append plant k a b one.1 two)
says-append plant k (Other text ∷ a) b one two = says-append plant k a b one two

-- ---- sessions

-- what was steered first, and then
says_then : (st mid : Steered) (a b : List Piece) → mid.plant ≡ st.plant → mid.table ≡ st.table ++ added a
    → (AreNamed st.plant → AreSaid st.plant (length st.table) a) → (AreNamed mid.plant → AreSaid mid.plant (length mid.table) b)
    → AreNamed st.plant → AreSaid st.plant (length st.table) (a ++ b)
says_then st mid a b plant table one two named =
    let count : length mid.table ≡ length st.table + length (added a) =
    ap (λ (t : List BreakCondition). length t) table ∙ length-append st.table (added a) in
    says-append st.plant (length st.table) a b (one named)
    (subst (λ (n : ℕ). AreSaid st.plant n b) count
    (subst (λ (p : PlantData). AreNamed p → AreSaid p (length mid.table) b) plant two named))

pub goes_then : (st : Steered) (b d : Session) (h : CommandHistory) (lines script first second : List ℕ)
    → (one : HasGoneOn st h lines script first b)
    → HasGoneOn (steered_in b) (history_after h one.pieces) (lines ++ said one.pieces) (script_in b) second d
    → HasGoneOn st h lines script (first ++ second) d
goes_then st b d h lines script first second one two =
    let lines_same : (lines ++ said one.pieces) ++ said two.pieces ≡ lines ++ said (one.pieces ++ two.pieces) =
    append_assoc lines (said one.pieces) (said two.pieces) ∙ ap (λ l. lines ++ l) (sym (said-append one.pieces two.pieces)) in
    record {
      pieces = one.pieces ++ two.pieces;
      whole = (λ i. one.whole i ++ two.whole i) ∙ sym (written-append one.pieces two.pieces);
      said = subst (λ (g : CommandHistory). HasSaid d g (lines ++ said (one.pieces ++ two.pieces)))
          (sym (history-append h one.pieces two.pieces))
          (subst (λ (l : List ℕ). HasSaid d (history_after (history_after h one.pieces) two.pieces) l) lines_same two.said);
      script = two.script ∙ ap (λ s. s ++ saved two.pieces) one.script
          ∙ append_assoc script (saved one.pieces) (saved two.pieces)
          ∙ ap (λ s. script ++ s) (sym (saved-append one.pieces two.pieces));
      plant = two.plant ∙ one.plant;
      table = two.table ∙ ap (λ (t : List BreakCondition). t ++ added two.pieces) one.table
          ∙ append_assoc st.table (added one.pieces) (added two.pieces)
          ∙ ap (λ (t : List BreakCondition). st.table ++ t) (sym (added-append one.pieces two.pieces));
      says = says_then st (steered_in b) one.pieces two.pieces one.plant one.table one.says two.says;
    }

-- with these conditions behind all others, where it was accepted
abbrev joined_by : Verdict → Steered → List BreakCondition → Steered
joined_by (Ok answer) st conditions = record { plant = st.plant; table = st.table ++ conditions }
joined_by (Err refusal) st conditions = st

-- a command that was answered so
goes_by : (st : Steered) (new : Session) (timed : TimedCommand) (conditions : List BreakCondition) (words : List ℕ) (v : Verdict)
    (h : CommandHistory) (lines script more : List ℕ) → steered_in new ≡ joined_by v st conditions
    → HasSaid new (history_by v timed h) (with_lines v lines more) → script_in new ≡ script_after v script timed.1 words
    → (AreNamed st.plant → IsOk v → IsSaid st.plant (length st.table) timed conditions words)
    → HasGoneOn st h lines script more new
goes_by st new timed conditions words (Ok answer) h lines script more steered has is says = record {
  pieces = Accepted timed conditions words more ∷ [];
  whole = sym (append-nil more);
  said = subst (λ (l : List ℕ). HasSaid new (timed ∷ h) l) (ap (λ l. lines ++ l) (sym (append-nil more))) has;
  script = is ∙ ap (λ s. script ++ s) (sym (append-nil (script_line timed.1 words)));
  plant = ap (λ (s : Steered). s.plant) steered;
  table = ap (λ (s : Steered). s.table) steered
      ∙ ap (λ (t : List BreakCondition). st.table ++ t) (sym (append-nil conditions));
  says = λ named. (says named refl, tt);
}
goes_by st new timed conditions words (Err refusal) h lines script more steered has is says = record {
  pieces = Other more ∷ [];
  whole = sym (append-nil more);
  said = subst (λ (l : List ℕ). HasSaid new h l) (sym (append-nil lines)) has;
  script = is ∙ sym (append-nil script);
  plant = ap (λ (s : Steered). s.plant) steered;
  table = ap (λ (s : Steered). s.table) steered ∙ sym (append-nil st.table);
  says = λ named. tt;
}

-- one that was accepted and isn't shown
hides_by : (st : Steered) (new : Session) (timed : TimedCommand) (words : List ℕ) (v : Verdict) (h : CommandHistory) (lines script more : List ℕ)
    → IsOk v → steered_in new ≡ st → HasSaid new (history_by v timed h) (with_lines v lines more)
    → script_in new ≡ script_after v script timed.1 words → (AreNamed st.plant → IsOk v → IsSaid st.plant (length st.table) timed [] words)
    → HasGoneOn st h lines script [] new
hides_by st new timed words (Ok answer) h lines script more ok steered has is says = record {
  pieces = Hidden timed words more ∷ [];
  whole = refl;
  said = subst (λ (l : List ℕ). HasSaid new (timed ∷ h) l) (ap (λ l. lines ++ l) (sym (append-nil more))) has;
  script = is ∙ ap (λ s. script ++ s) (sym (append-nil (script_line timed.1 words)));
  plant = ap (λ (s : Steered). s.plant) steered;
  table = ap (λ (s : Steered). s.table) steered ∙ sym (append-nil st.table);
  says = λ named. (says named refl, tt);
}
hides_by st new timed words (Err refusal) h lines script more ok steered has is says = absurd (let bad : false ≡ true = ok in cc)

-- no condition joins the table
joins_none : (v : Verdict) (st : Steered) → st ≡ joined_by v st []
joins_none (Ok answer) st = ap (λ (t : List BreakCondition). record { plant = st.plant; table = t }) (sym (append-nil st.table))
joins_none (Err refusal) st = refl

joins_one : (v : Verdict) (st : Steered) (condition : BreakCondition) → steered_after v st condition ≡ joined_by v st (condition ∷ [])
joins_one (Ok answer) st condition = refl
joins_one (Err refusal) st condition = refl

-- ---- behind other text

module _ (old new : Session) (before behind : List ℕ) (h : CommandHistory) (lines : List ℕ) where
  abbrev st : Steered
  st = steered_in old

  pub goes_given : (told : Verdict) (timed : TimedCommand) (words : List ℕ) → IsGiven old new before behind told h lines timed words
      → (AreNamed st.plant → IsOk ((debugger_of st).verdict h timed) → IsSaid st.plant (length st.table) timed [] words)
      → GoesOn old new before behind h lines
  goes_given told timed words given says =
      let v : Verdict = (debugger_of st).verdict h timed in
      let more : List ℕ = command_lines (debugger_of st) (text_of st) h timed in (
        more,
        given.written,
        goes_by st new timed [] words v h lines (script_in old) more (given.steered ∙ joins_none v st) given.said
            (given.script ∙ ap (λ (w : Verdict). script_after w (script_in old) timed.1 words) given.answer) says,
      )

  pub goes_hidden : (told : Verdict) (timed : TimedCommand) (words : List ℕ) → IsOk told → IsGiven old new before behind told h lines timed words
      → (AreNamed st.plant → IsOk ((debugger_of st).verdict h timed) → IsSaid st.plant (length st.table) timed [] words)
      → GoesOn old new before before h lines
  goes_hidden told timed words ok given says =
      let v : Verdict = (debugger_of st).verdict h timed in
      let more : List ℕ = command_lines (debugger_of st) (text_of st) h timed in (
        [],
        sym (append-nil before),
        hides_by st new timed words v h lines (script_in old) more (subst (λ (w : Verdict). IsOk w) given.answer ok) given.steered given.said
            (given.script ∙ ap (λ (w : Verdict). script_after w (script_in old) timed.1 words) given.answer) says,
      )

  pub goes_waiting : (told : Verdict) (placed : Point × ℤ) (condition : BreakCondition) (words : List ℕ)
      → IsWaiting old new before behind told h lines placed condition words
      → (AreNamed st.plant → IsOk (waiting_verdict st h placed condition)
      → IsSaid st.plant (length st.table) (waiting st placed condition) (condition ∷ []) words)
      → GoesOn old new before behind h lines
  goes_waiting told placed condition words set says =
      let v : Verdict = waiting_verdict st h placed condition in
      let more : List ℕ = lines_by v (with_one_more st condition) h (waiting st placed condition) in (
        more,
        set.written,
        goes_by st new (waiting st placed condition) (condition ∷ []) words v h lines (script_in old) more
            (set.steered ∙ ap (λ (w : Verdict). steered_after w st condition) set.answer ∙ joins_one v st condition) set.said
            (set.script ∙ ap (λ (w : Verdict). script_after w (script_in old) placed.1 words) set.answer) says,
      )

  pub goes_shown : IsShown old new before behind h lines → GoesOn old new before behind h lines
  goes_shown shown = (
    shown.0,
    shown.1,
    record {
      pieces = Other shown.0 ∷ [];
      whole = sym (append-nil shown.0);
      said = subst (λ (l : List ℕ). HasSaid new h l) (sym (append-nil lines)) shown.2.said;
      script = shown.2.script ∙ sym (append-nil (script_in old));
      plant = ap (λ (s : Steered). s.plant) shown.2.steered;
      table = ap (λ (s : Steered). s.table) shown.2.steered ∙ sym (append-nil st.table);
      says = λ named. tt;
    },
  )

  goes_breaking : (conditional : Conditional) (raw : ℤ) (words : List ℕ) (read : Option (List BreakCondition))
      → OrderSays st h (Waits conditional raw words) → ConditionReads st.plant 0 conditional.place.program conditional.text read
      → BreaksBy old new before behind h lines conditional raw words read → GoesOn old new before behind h lines
  goes_breaking conditional raw words (Some (condition ∷ conditions)) says reads broken =
      goes_waiting broken.0 (conditional.place.point, raw) condition words broken.1
      (λ named ok. condition_says st h conditional raw words condition conditions says reads ok)
  goes_breaking conditional raw words (Some []) says reads broken =
      goes_given broken.0 (BreakIf conditional.place.program conditional.place.point (record { 0 = 0 }), raw) words broken.1
      (λ named ok. absurd (never_there st h conditional raw reads ok))
  goes_breaking conditional raw words None says reads broken = goes_shown broken

-- one after the other
pub goes_more : (a b d : Session) (x y z : List ℕ) (h : CommandHistory) (lines : List ℕ) → GoesOn a b x y h lines → Puts b d y z
    → GoesOn a d x z h lines
goes_more a b d x y z h lines one second =
    let two = second (history_after h one.2.pieces) (lines ++ said one.2.pieces) one.2.said in (
      one.0 ++ two.0,
      two.1 ∙ ap (λ t. t ++ two.0) one.1 ∙ append_assoc x one.0 two.0,
      goes_then (steered_in a) b d h lines (script_in a) one.0 two.0 one.2 two.2,
    )

pub puts_then : (a b d : Session) (x y z : List ℕ) → Puts a b x y → Puts b d y z → Puts a d x z
puts_then a b d x y z first second h lines has = goes_more a b d x y z h lines (first h lines has) second

-- a text beside it
pub puts_text : (session : Session) (x y text : List ℕ) → y ≡ x ++ text → Puts session session x y
puts_text session x y text is h lines has =
    goes_shown session session x y h lines (text, is, record { steered = refl; said = has; script = refl })

pub puts_nothing : (session : Session) (x : List ℕ) → Puts session session x x
puts_nothing session x = puts_text session x x [] (sym (append-nil x))

-- what serves was told behind it, or nothing
pub hinted : (old new : Session) (before middle behind : List ℕ) (h : CommandHistory) (lines : List ℕ) (b : Bool) → Hints b middle behind
    → GoesOn old new before middle h lines → GoesOn old new before behind h lines
hinted old new before middle behind h lines true is on =
    goes_more old new new before middle behind h lines on (puts_text new middle behind halted_note is)
hinted old new before middle behind h lines false is on = subst (λ (t : List ℕ). GoesOn old new before t h lines) (sym is) on

-- whatever a line says
pub goes_obeyed : (old new : Session) (before behind : List ℕ) (h : CommandHistory) (lines : List ℕ) (order : Order)
    → OrderSays (steered_in old) h order → Obeys old new before behind h lines order → GoesOn old new before behind h lines
goes_obeyed old new before behind h lines (Gives timed words) says obeyed =
    hinted old new before obeyed.1 behind h lines (is_stopped obeyed.0) obeyed.3
    (goes_given old new before obeyed.1 h lines obeyed.0 timed words obeyed.2 says)
goes_obeyed old new before behind h lines (Waits conditional raw words) says obeyed =
    goes_breaking old new before behind h lines conditional raw words obeyed.0 says obeyed.1 obeyed.2
goes_obeyed old new before behind h lines Shows says obeyed = goes_shown old new before behind h lines obeyed

-- a step that was taken, whatever was accepted before
pub puts_taken : (old new : Session) (x y : List ℕ) (told : Verdict) (step : Step)
    → ((h : CommandHistory) (lines : List ℕ) → HasSaid old h lines → IsTaken old new x y told h lines (step_after (steered_in old) h step))
    → Puts old new x y
puts_taken old new x y told step taken h lines has =
    let timed : TimedCommand = step_after (steered_in old) h step in
    goes_given old new x y h lines told timed (words_of (steered_in old) timed.0) (taken h lines has)
    (step_says (steered_in old) h has.accepted step)

-- the same of one that was accepted and isn't shown
pub puts_hidden : (old new : Session) (x y : List ℕ) (told : Verdict) (step : Step) → IsOk told
    → ((h : CommandHistory) (lines : List ℕ) → HasSaid old h lines → IsTaken old new x y told h lines (step_after (steered_in old) h step))
    → Puts old new x x
puts_hidden old new x y told step ok taken h lines has =
    let timed : TimedCommand = step_after (steered_in old) h step in
    goes_hidden old new x y h lines told timed (words_of (steered_in old) timed.0) ok (taken h lines has)
    (step_says (steered_in old) h has.accepted step)

-- ---- of what a call returned

pub on_ok : {X E : Type 0} (result : Result X E) (P Q : Type 0) → (P → Q) → OnOk result P → OnOk result Q
on_ok (Ok x) P Q every has = every has
on_ok (Err e) P Q every has = tt
