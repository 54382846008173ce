-- What the line of a script says that a session writes for an order.
use Rattle.std.proofs.Common.{◌≡◌, ◌∙◌, refl, sym, ap, subst, ℕ, zero, suc, ◌<◌, ◌≤◌, nat_lt, cond, arith, Bool, true, false, List, [], ◌∷◌, ◌++◌, append_assoc, length, codes, ℤ, Option, Some, None, Ok, Err, rules}
use Rattle.std.specs.Option.{option_and_then, option_map}
use Rattle.std.specs.Prelude.{IsOk, if◌then◌else◌, is_none, slice_get, unsigned_abs, unwrap_or, ⊤}
use Rattle.std.proofs.lemmas.Bool.Decides.{nat_tests}
use Rattle.sfc_base.specs.Case.{same_word}
use Rattle.sfc_base.specs.Durations.{greatest}
use Rattle.sfc_base.specs.TimeText.{time_text}
use Rattle.sfc_base.specs.declared.ids.ProgId.{ProgId}
use Rattle.sfc_base.specs.declared.ids.TaskId.{TaskId}
use Rattle.sfc_plant.specs.InstanceSpaces.{space_of}
use Rattle.sfc_asking.specs.sfc_program.Names.{names_in}
use Rattle.sfc_base.specs.declared.var_type.VarType.TheVariants as types
use Rattle.sfc_plant.specs.Plants.{PlantData}
use Rattle.sfc_plant.specs.declared.instance.Instance.{Instance}
use Rattle.sfc_tokens.specs.Lexing.DurationWords.{duration_value}
use Rattle.sfc_events.specs.ReadErrors.{Read}
use Rattle.sfc_tokens.proofs.DurationWords.{word_again}
use Rattle.sfc_tokens.proofs.TimeLaw.{time_is}
use Rattle.sfc_text.specs.Trees.{Tree}
use Rattle.sfc_asking.specs.sfc_check.Checking.{checked}
use Rattle.sfc_asking.specs.sfc_check.TypeFaults.{Checked}
use Rattle.sfc_expr.specs.Trees as typed
use Rattle.sfc_events.specs.declared.command.Command.{Command}
use Rattle.sfc_events.specs.declared.command.Command.TheVariants as commands
use Rattle.sfc_events.specs.declared.command.Command.TheVariants.{BreakIf, Scan}
use Rattle.sfc_events.specs.declared.command.Point.{Point}
use Rattle.sfc_events.specs.declared.refusal.Refusal.{Refusal}
use Rattle.sfc_asking.specs.sfc_debug.declared.break_condition.BreakCondition.{BreakCondition}
use Rattle.sfc_asking.specs.sfc_debug.Histories.{CommandHistory, TimedCommand}
use Rattle.sfc_asking.specs.sfc_debug.Meaning.{IsAccepted}
use Rattle.sfc_plant.specs.PlantNames.{task_name}
use Rattle.sfc_asking.specs.sfc_debug.Steered.{Steered}
use Rattle.sfc_asking.specs.sfc_script.Conditions.{condition_by, condition_in}
use Rattle.sfc_asking.specs.sfc_script.Commands.{Conditional, Said as ScriptSaid, Plain, When, command_of, conditional_of, said_by, said_of, scan_of, single_of}
use Rattle.sfc_asking.specs.sfc_script.Lines.{first_word, is_blank, is_one_line, only_word, split_before, two_words}
use Rattle.sfc_asking.specs.sfc_script.Names.{task_of}
use Rattle.sfc_asking.specs.sfc_script.Scripts.{ConditionReads, LineReads, ScriptData, added_by, added_of, in_table}
use Rattle.sfc_asking.proofs.of_sfc_script.PlainInstants.{ArePlain}
use Rattle.sfc_asking.proofs.of_sfc_script.PlainTimes.{letter_first, time_plain}
use Rattle.sfc_asking.proofs.of_sfc_script.Splits.{split_more, split_stop}
use Rattle.sfc_asking.proofs.of_sfc_script.TimedLines.{timed_says}
use Rattle.sfc_asking.specs.sfc_output.Output.{Verdict, debugger_of}
use Rattle.sfc_session.specs.declared.step.Step.{Step}
use Rattle.sfc_session.specs.declared.step.Step.TheVariants as steps
use Rattle.sfc_prompt.specs.Lines.{Said, Nothing, Remark, Says, Asks}
use Rattle.sfc_prompt.specs.Orders.{Order, Gives, Waits, Shows, command_order, free_scan, order_by, order_of, other_step, step_order}
use Rattle.sfc_prompt.specs.Pieces.{AreNamed, IsNamed, IsSaid, line_text}
use Rattle.sfc_session.specs.Scanning.{first_scan_after, scan_after, step_after}
use Rattle.sfc_session.specs.Sessions.{last_instant, waiting, waiting_verdict, with_one_more, words_of}
use Rattle.sfc_prompt.proofs.Accepted.{program_there, raw_small, scan_there, single_small, single_there}
use Rattle.sfc_prompt.proofs.NameBytes.{Word, name_word}
use Rattle.sfc_prompt.proofs.Texts.{HasLine, one_more, plain_front}

-- ---- lines

-- a text that is one line, behind its instant
line_whole : (raw : ℤ) (words : List ℕ) → unsigned_abs raw ≤ greatest → is_one_line words ≡ true → is_one_line (line_text raw words) ≡ true
line_whole raw words small one =
    ap is_one_line (append_assoc (time_text raw) (codes " ") words)
    ∙ plain_front (time_text raw) (32 ∷ words) (time_plain raw small) (one_more 32 words refl refl one)

-- the line of words that are a command without a condition
plain_said : (plant : PlantData) (k : ℕ) (command : Command) (raw : ℤ) (words : List ℕ) → unsigned_abs raw ≤ greatest
    → is_one_line words ≡ true → command_of plant words ≡ Some command → IsSaid plant k (command, raw) [] words
plain_said plant k command raw words small one is =
    let says : said_of plant (line_text raw words) ≡ Plain command raw =
    timed_says plant raw words small ∙ ap (λ (o : Option Command). said_by o (conditional_of plant words) raw) is in
    let read : Option ScriptData = Some (record { commands = (command, raw) ∷ []; table = [] }) in
    record {
      whole = line_whole raw words small one;
      says = subst (λ (s : ScriptSaid). LineReads plant k s read) (sym says) refl;
    }

-- that of a breakpoint with a condition
when_said : (plant : PlantData) (k : ℕ) (conditional : Conditional) (raw : ℤ) (words : List ℕ) (condition : BreakCondition)
    → unsigned_abs raw ≤ greatest → is_one_line words ≡ true → command_of plant words ≡ None → conditional_of plant words ≡ Some conditional
    → ConditionReads plant k conditional.place.program conditional.text (Some (condition ∷ [])) → k < 65535
    → IsSaid plant k (BreakIf conditional.place.program conditional.place.point (record { 0 = k }), raw) (condition ∷ []) words
when_said plant k conditional raw words condition small one none is reads few =
    let says : said_of plant (line_text raw words) ≡ When conditional raw =
    timed_says plant raw words small ∙ ap (λ (o : Option Command). said_by o (conditional_of plant words) raw) none
    ∙ ap (λ (o : Option Conditional). said_by None o raw) is in
    let command : TimedCommand = (BreakIf conditional.place.program conditional.place.point (record { 0 = k }), raw) in
    let read : ScriptData = record { commands = command ∷ []; table = condition ∷ [] } in
    let numbered : Some read ≡ in_table k conditional raw (Some (condition ∷ [])) =
    ap (λ (b : Bool). if b then Some read else None) (sym (below k few)) in
    record {
      whole = line_whole raw words small one;
      says = subst (λ (s : ScriptSaid). LineReads plant k s (Some read)) (sym says) (Some (condition ∷ []), reads, numbered);
    }
  where
    below : (k : ℕ) → k < 65535 → nat_lt k 65535 ≡ true
    below k few = grind (arith, nat_tests)

-- ---- words

-- a word with nothing behind it
split_all : (word : List ℕ) → ArePlain word → split_before is_blank word ≡ (word, [])
unfolding split_before
split_all [] plain = refl
split_all (b ∷ word) plain =
    split_more is_blank b word plain.0.blank ∙ ap (λ (s : List ℕ × List ℕ). (b ∷ s.0, s.1)) (split_all word plain.1)

-- a word before a blank
split_at : (word text : List ℕ) → ArePlain word → split_before is_blank (word ++ 32 ∷ text) ≡ (word, 32 ∷ text)
split_at [] text plain = split_stop is_blank 32 text refl
split_at (b ∷ word) text plain =
    split_more is_blank b (word ++ 32 ∷ text) plain.0.blank ∙ ap (λ (s : List ℕ × List ℕ). (b ∷ s.0, s.1)) (split_at word text plain.1)

first_alone : (word : List ℕ) → Word word → first_word word ≡ Some (word, [])
first_alone [] w = absurd w
first_alone (b ∷ word) w =
    ap (λ (t : Bool). if t then first_word word else Some (split_before is_blank (b ∷ word))) w.0.blank
    ∙ ap (λ (s : List ℕ × List ℕ). Some s) (split_all (b ∷ word) w)

first_before : (word text : List ℕ) → Word word → first_word (word ++ 32 ∷ text) ≡ Some (word, 32 ∷ text)
first_before [] text w = absurd w
first_before (b ∷ word) text w =
    ap (λ (t : Bool). if t then first_word (word ++ 32 ∷ text) else Some (split_before is_blank (b ∷ (word ++ 32 ∷ text)))) w.0.blank
    ∙ ap (λ (s : List ℕ × List ℕ). Some s) (split_at (b ∷ word) text w)

abbrev by_only : List ℕ × List ℕ → Option (List ℕ)
by_only w = if is_none (first_word w.1) then Some w.0 else None

only_alone : (word : List ℕ) → Word word → only_word word ≡ Some word
only_alone word w = ap (λ (o : Option (List ℕ × List ℕ)). option_and_then by_only o) (first_alone word w)

time_word : (z : ℤ) → unsigned_abs z ≤ greatest → Word (time_text z)
time_word z small = subst Word (sym (letter_first z)) (subst ArePlain (letter_first z) (time_plain z small))

-- ---- scans

task_again : (plant : PlantData) (task : TaskId) → IsNamed plant task.0 → task_of plant (task_name plant task) ≡ task
task_again plant task named = ap (λ (o : Option TaskId). unwrap_or o (record { 0 = 255 })) named.found

-- what stands behind the keywords of scans
scan_words : (plant : PlantData) (text : List ℕ) → command_of plant (codes "SCAN " ++ text) ≡ scan_of plant (32 ∷ text)
unfolding split_before same_word
scan_words plant text = refl

single_words : (plant : PlantData) (text : List ℕ) → command_of plant (codes "SINGLE " ++ text) ≡ single_of plant (32 ∷ text)
unfolding split_before same_word
single_words plant text = refl

-- a text behind them is one line, where it is one by itself
behind_scan : (text : List ℕ) → is_one_line text ≡ true → is_one_line (codes "SCAN " ++ text) ≡ true
behind_scan text one =
    one_more 83 (codes "CAN " ++ text) refl refl (one_more 67 (codes "AN " ++ text) refl refl (one_more 65 (codes "N " ++ text) refl refl
    (one_more 78 (32 ∷ text) refl refl (one_more 32 text refl refl one))))

behind_single : (text : List ℕ) → is_one_line text ≡ true → is_one_line (codes "SINGLE " ++ text) ≡ true
behind_single text one =
    one_more 83 (codes "INGLE " ++ text) refl refl (one_more 73 (codes "NGLE " ++ text) refl refl (one_more 78 (codes "GLE " ++ text) refl refl
    (one_more 71 (codes "LE " ++ text) refl refl (one_more 76 (codes "E " ++ text) refl refl
    (one_more 69 (32 ∷ text) refl refl (one_more 32 text refl refl one))))))

one_plain : (word : List ℕ) → ArePlain word → is_one_line word ≡ true
one_plain [] plain = refl
one_plain (b ∷ word) plain = one_more b word plain.0.lf plain.0.cr (one_plain word plain.1)

one_word : (word : List ℕ) → Word word → is_one_line word ≡ true
one_word [] w = absurd w
one_word (b ∷ word) w = one_plain (b ∷ word) w

name_plain : (word : List ℕ) → Word word → ArePlain word
name_plain [] w = absurd w
name_plain (b ∷ word) w = w

module _ (st : Steered) (h : CommandHistory) (raw : ℤ) (named : AreNamed st.plant) where
  abbrev k : ℕ
  k = length st.table

  scan_said : (task : TaskId) → IsOk ((debugger_of st).verdict h (Scan task, raw))
      → IsSaid st.plant (length st.table) (Scan task, raw) [] (words_of st (Scan task))
  scan_said task ok =
      let is = named task.0 (scan_there st.plant st.table h raw task ok) in
      let name : List ℕ = task_name st.plant task in
      let word : Word name = name_word name is.name in
      let command : command_of st.plant (codes "SCAN " ++ name) ≡ Some (Scan task) =
      scan_words st.plant name
      ∙ ap (λ (o : Option (List ℕ)). option_map (λ (n : List ℕ). Scan (task_of st.plant n)) o) (only_alone name word)
      ∙ ap (λ (t : TaskId). Some (Scan t)) (task_again st.plant task is) in
      plain_said st.plant (length st.table) (Scan task) raw (codes "SCAN " ++ name) (raw_small st.plant st.table h (Scan task) raw ok)
      (behind_scan name (one_word name word)) command

  single_said : IsAccepted st.plant st.table h → (task : TaskId) (delta : ℤ) → IsOk ((debugger_of st).verdict h (commands.Single task delta, raw))
      → IsSaid st.plant (length st.table) (commands.Single task delta, raw) [] (words_of st (commands.Single task delta))
  single_said accepted task delta ok =
      let is = named task.0 (single_there st.plant st.table h raw task delta ok) in
      let small = single_small st.plant st.table h task delta raw accepted ok in
      let name : List ℕ = task_name st.plant task in
      let time : List ℕ = time_text delta in
      let word : Word name = name_word name is.name in
      let text : List ℕ = name ++ codes " " ++ time in
      let same : text ≡ name ++ 32 ∷ time = append_assoc name (codes " ") time in
      let value : duration_value time ≡ Some delta = word_again (time_is delta small) in
      let two : two_words (32 ∷ text) ≡ Some (name, time) =
      ap two_words (ap (λ (t : List ℕ). 32 ∷ t) same)
      ∙ ap (λ (o : Option (List ℕ × List ℕ)). option_and_then (λ w. option_map (λ second. (w.0, second)) (only_word w.1)) o)
      (first_before name time word)
      ∙ ap (λ (o : Option (List ℕ)). option_map (λ second. (name, second)) o) (only_alone time (time_word delta small)) in
      let command : command_of st.plant (codes "SINGLE " ++ text) ≡ Some (commands.Single task delta) =
      single_words st.plant text
      ∙ ap (λ (o : Option (List ℕ × List ℕ)). option_and_then
      (λ w. option_map (λ d. commands.Single (task_of st.plant w.0) d) (duration_value w.1)) o) two
      ∙ ap (λ (o : Option ℤ). option_map (λ d. commands.Single (task_of st.plant name) d) o) value
      ∙ ap (λ (t : TaskId). Some (commands.Single t delta)) (task_again st.plant task is) in
      plain_said st.plant (length st.table) (commands.Single task delta) raw (codes "SINGLE " ++ text)
      (raw_small st.plant st.table h (commands.Single task delta) raw ok)
      (behind_single text (ap is_one_line same
      ∙ plain_front name (32 ∷ time) (name_plain name word) (one_more 32 time refl refl (one_word time (time_word delta small))))) command

-- ---- conditions

slice_get_within_some : {A : Type 0} (xs : List A) (i : ℕ) → i < length xs → (x : A) × (slice_get xs i ≡ Some x)
slice_get_within_some [] i less = absurd (omega arith)
slice_get_within_some (x ∷ xs) zero less = (x, refl)
slice_get_within_some (x ∷ xs) (suc i) less = slice_get_within_some xs i (omega arith)

module _ (plant : PlantData) (p : ProgId) (text : List ℕ) where
  added_at : (k : ℕ) (condition : BreakCondition) (conditions : List BreakCondition) (o : Option Instance)
      (c : Checked typed.Expression) → added_by (condition_in o 0 (condition_by p 0 c)) ≡ Some (condition ∷ conditions)
      → (Some (condition ∷ []) ≡ added_by (condition_in o k (condition_by p k c))) × (condition.program ≡ p)
  added_at k condition conditions None c e = absurd cc
  added_at k condition conditions (Some instance) (Ok x) e =
      let found : BreakCondition = record { program = p; condition = x } in
      let same : found ≡ condition = cc in
      (ap (λ (b : BreakCondition). Some (b ∷ [])) (sym same), ap (λ (b : BreakCondition). b.program) (sym same))
  added_at k condition conditions (Some instance) (Err fault) e = absurd cc

  read_at : (k : ℕ) (condition : BreakCondition) (conditions : List BreakCondition) (r : Read Tree)
      → Some (condition ∷ conditions) ≡ added_of plant 0 p r → (Some (condition ∷ []) ≡ added_of plant k p r) × (condition.program ≡ p)
  read_at k condition conditions (Ok tree) e =
      added_at k condition conditions (slice_get plant.instances p.0) (checked (names_in (space_of plant p) None) tree types.Bool) (sym e)
  read_at k condition conditions (Err kind) e = absurd cc

  -- it is the same at any place, and of the instance
  reads_at : (k : ℕ) (condition : BreakCondition) (conditions : List BreakCondition)
      → ConditionReads plant 0 p text (Some (condition ∷ conditions))
      → ConditionReads plant k p text (Some (condition ∷ [])) × (condition.program ≡ p)
  reads_at k condition conditions reads =
      let at = read_at k condition conditions reads.0 reads.2 in
      ((reads.0, reads.1, at.0), at.1)

  no_instance : (o : Option Instance) (c : Checked typed.Expression) → added_by (condition_in o 0 (condition_by p 0 c)) ≡ Some [] → o ≡ None
  no_instance None c e = refl
  no_instance (Some instance) (Ok x) e = absurd cc
  no_instance (Some instance) (Err fault) e = absurd cc

  read_without : (r : Read Tree) → Some [] ≡ added_of plant 0 p r → slice_get plant.instances p.0 ≡ None
  read_without (Ok tree) e =
      no_instance (slice_get plant.instances p.0) (checked (names_in (space_of plant p) None) tree types.Bool) (sym e)
  read_without (Err kind) e = absurd cc

  -- its instance isn't there
  unknown : ConditionReads plant 0 p text (Some []) → p.0 < length plant.instances → ⊥
  unknown reads less =
      let none = read_without reads.0 reads.2 in
      let there = slice_get_within_some plant.instances p.0 less in
      let bad : Some there.0 ≡ None = sym there.1 ∙ none in
      absurd cc

-- ---- orders

-- what was accepted with the longer table has a number for its condition
waited : (w : Verdict) (r : Refusal) (n m : ℕ) → IsOk (cond (nat_lt n m) w (Err r)) → (n < m) × IsOk w
waited w r n m = by (nat_lt n m) refl
  where
    by : (b : Bool) → nat_lt n m ≡ b → IsOk (cond b w (Err r)) → (n < m) × IsOk w
    by true test ok = (grind (arith, nat_tests), ok)
    by false test ok = absurd (search rules)

-- the task of a scan
abbrev task_in : Command → TaskId
task_in (Scan task) = task
task_in _ = record { 0 = 0 }

-- that of SCAN alone
abbrev task_first : Steered → CommandHistory → TaskId
task_first st h = task_in (first_scan_after st h).0

-- The line that the order writes says its command, where it is accepted.
abbrev pub OrderSays : Steered → CommandHistory → Order → Type 0
OrderSays st h (Gives timed words) =
    AreNamed st.plant → IsOk ((debugger_of st).verdict h timed) → IsSaid st.plant (length st.table) timed [] words
OrderSays st h (Waits conditional raw words) =
    (is_one_line words ≡ true) × (command_of st.plant words ≡ None) × (conditional_of st.plant words ≡ Some conditional)
OrderSays st h Shows = ⊤

pub condition_says : (st : Steered) (h : CommandHistory) (conditional : Conditional) (raw : ℤ) (words : List ℕ) (condition : BreakCondition)
    (conditions : List BreakCondition) → OrderSays st h (Waits conditional raw words)
    → ConditionReads st.plant 0 conditional.place.program conditional.text (Some (condition ∷ conditions))
    → IsOk (waiting_verdict st h (conditional.place.point, raw) condition)
    → IsSaid st.plant (length st.table) (waiting st (conditional.place.point, raw) condition) (condition ∷ []) words
condition_says st h conditional raw words condition conditions says reads ok =
    let p : ProgId = conditional.place.program in
    let point : Point = conditional.place.point in
    let longer : Steered = with_one_more st condition in
    let timed : TimedCommand = waiting st (point, raw) condition in
    let granted = waited ((debugger_of longer).verdict h timed) _ (length st.table) 65535 ok in
    let at = reads_at st.plant p conditional.text (length st.table) condition conditions reads in
    subst (λ (q : ProgId). IsSaid st.plant (length st.table) (BreakIf q point (record { 0 = length st.table }), raw) (condition ∷ []) words)
    (sym at.1)
    (when_said st.plant (length st.table) conditional raw words condition (raw_small longer.plant longer.table h timed.0 raw granted.1)
    says.0 says.1 says.2 at.0 granted.0)

-- a condition without an instance is of no accepted breakpoint
pub never_there : (st : Steered) (h : CommandHistory) (conditional : Conditional) (raw : ℤ)
    → ConditionReads st.plant 0 conditional.place.program conditional.text (Some [])
    → IsOk ((debugger_of st).verdict h (BreakIf conditional.place.program conditional.place.point (record { 0 = 0 }), raw)) → ⊥
never_there st h conditional raw reads ok =
    unknown st.plant conditional.place.program conditional.text reads
    (program_there st.plant st.table h raw conditional.place.program conditional.place.point (record { 0 = 0 }) ok)

pub step_says : (st : Steered) (h : CommandHistory) → IsAccepted st.plant st.table h → (step : Step) → AreNamed st.plant
    → IsOk ((debugger_of st).verdict h (step_after st h step))
    → IsSaid st.plant (length st.table) (step_after st h step) [] (words_of st (step_after st h step).0)
step_says st h accepted steps.First named ok = scan_said st h (first_scan_after st h).1 named (task_first st h) ok
step_says st h accepted (steps.Task task) named ok = scan_said st h (scan_after st h task).1 named task ok
step_says st h accepted (steps.Single task micros) named ok = single_said st h (last_instant h) named accepted task micros ok

module _ (st : Steered) (h : CommandHistory) (accepted : IsAccepted st.plant st.table h) (instant : Option ℤ) (text : List ℕ)
    (one : is_one_line text ≡ true) where
  says_command : (command : Command) (free : Option TaskId) → command_of st.plant text ≡ Some command
      → OrderSays st h (command_order st h instant text command free)
  says_command command (Some task) is = λ named ok. scan_said st h (scan_after st h task).1 named task ok
  says_command command None is = λ named ok.
      let raw : ℤ = unwrap_or instant (last_instant h) in
      plain_said st.plant (length st.table) command raw text (raw_small st.plant st.table h command raw ok) one is

  says_text : (c : Option Command) (d : Option Conditional) → command_of st.plant text ≡ c → conditional_of st.plant text ≡ d
      → OrderSays st h (order_by st h instant text c d)
  says_text (Some command) d is has = says_command command (free_scan instant command) is
  says_text None (Some conditional) is has = (one, is, has)
  says_text None None is has = says_step (other_step st.plant instant text)
    where
      says_step : (o : Option Step) → OrderSays st h (step_order st h o)
      says_step None = tt
      says_step (Some step) = λ named ok. step_says st h accepted step named ok

pub order_says : (st : Steered) (h : CommandHistory) → IsAccepted st.plant st.table h → (said : Said) → HasLine said
    → OrderSays st h (order_of st h said)
order_says st h accepted (Says instant text) one =
    says_text st h accepted instant text one (command_of st.plant text) (conditional_of st.plant text) refl refl
order_says st h accepted (Asks word text) one = tt
order_says st h accepted Remark one = tt
order_says st h accepted Nothing one = tt
