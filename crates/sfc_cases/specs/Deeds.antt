-- What a line of a test says (our choice of format).
use Rattle.std.specs.Prelude.{ℕ, ◌==◌, Bool, true, false, if◌then◌else◌, List, [], ◌∷◌, codes, map, ℤ, Option, Some, None, option_map}
use Rattle.std.specs.Option.{option_and_then}
use Rattle.sfc_base.specs.Case.{same_word}
use Rattle.sfc_base.specs.declared.ids.ProgId.{ProgId}
use Rattle.sfc_base.specs.declared.references.StepId.{StepId}
use Rattle.sfc_events.specs.declared.command.Command.{Command}
use Rattle.sfc_events.specs.declared.command.Point.{Point}
use Rattle.sfc_plant.specs.Finding.{instance_named, step_named, task_named}
use Rattle.sfc_plant.specs.Plants.{PlantData}
use Rattle.sfc_tokens.specs.Lexing.DurationWords.{duration_value}
use Rattle.sfc_debug.specs.declared.break_condition.BreakCondition.{BreakCondition}
use Rattle.sfc_cases.specs.declared.joined.Condition.{Condition}
use Rattle.sfc_expr.specs.declared.fault.Fault.TheVariants.{DivZero, Range}
use Rattle.sfc_script.specs.sfc_instance.sfc_action.declared.fault.ControlFault.TheVariants.{TwoTimed, SdWhileSl, SlWhileSd}
use Rattle.sfc_script.specs.sfc_instance.declared.scan_fault.ScanFault.{ScanFault}
use Rattle.sfc_script.specs.sfc_instance.declared.scan_fault.ScanFault.TheVariants.{Expression, Control}
use Rattle.sfc_script.specs.Commands.{Conditional, begins_comment, command_of, conditional_of}
use Rattle.sfc_script.specs.Lines.{first_word, in_line, only_word, two_words}
use Rattle.sfc_script.specs.Values.{decimal_of, limited}
use Rattle.sfc_cases.specs.declared.deed.Deed.{Deed}
use Rattle.sfc_cases.specs.declared.deed.Deed.TheVariants as deeds
use Rattle.sfc_cases.specs.declared.instant.Instant.{Instant}
use Rattle.sfc_cases.specs.declared.instant.Instant.TheVariants.{Same, Later}
use Rattle.sfc_cases.specs.declared.named.Named.{Named}
use Rattle.sfc_cases.specs.declared.said.Said.{Said}
use Rattle.sfc_cases.specs.declared.said.Said.TheVariants.{Nothing, Names, Does, Waits, Wrong}
use Rattle.sfc_cases.specs.declared.watch.End.{End}
use Rattle.sfc_cases.specs.declared.watch.End.TheVariants.{CaseEnds, When, After}
use Rattle.sfc_cases.specs.declared.watch.Watch.TheVariants.{Stays, Responds}
use Rattle.sfc_cases.specs.Conditions.{Reader, asked, condition, condition_by}
use Rattle.sfc_cases.specs.Lines.{divided, from_word, instant_of, replaced}
use Rattle.sfc_cases.specs.Stimuli.{at_of, every_of, ramp_of}

-- ---- RUN and UNTIL

-- RUN instant
abbrev pub run_of : List ℕ → Option Deed
run_of text = option_map (deeds.Runs None) (option_and_then instant_of (only_word text))

abbrev pub until_by : Option Condition → Option ℤ → Option Deed
until_by (Some until) (Some d) = Some (deeds.Runs (Some until) (Later d))
until_by _ _ = None

abbrev pub duration_of : List ℕ → Option ℤ
duration_of text = option_and_then duration_value (only_word text)

-- UNTIL condition WITHIN duration
abbrev pub until_of : PlantData → Reader → List ℕ → Option Deed
until_of plant read text =
    option_and_then (λ d. until_by (condition plant read d.0) (duration_of d.1)) (divided (codes "WITHIN") text)

-- ---- EXPECT

-- REFUSED number command
abbrev pub refused_by : Option ℕ → Option Command → Option Deed
refused_by (Some n) (Some command) = Some (deeds.Refuses n command)
refused_by _ _ = None

abbrev pub refused_of : PlantData → List ℕ → Option Deed
refused_of plant text =
    option_and_then (λ w. refused_by (limited 255 (decimal_of w.0)) (command_of plant w.1)) (first_word text)

-- FAULT kind program
abbrev pub fault_said : List ℕ → Option ScanFault
fault_said word =
    if same_word word (codes "DivZero") then Some (Expression DivZero) else
    if same_word word (codes "Range") then Some (Expression Range) else
    if same_word word (codes "TwoTimed") then Some (Control TwoTimed) else
    if same_word word (codes "SdWhileSl") then Some (Control SdWhileSl) else
    if same_word word (codes "SlWhileSd") then Some (Control SlWhileSd) else None

abbrev pub faulted_by : Option ScanFault → Option ProgId → Option Deed
faulted_by (Some fault) (Some p) = Some (deeds.Faulted fault p)
faulted_by _ _ = None

abbrev pub faulted_of : PlantData → List ℕ → Option Deed
faulted_of plant text = option_and_then (λ w. faulted_by (fault_said w.0) (instance_named plant w.1)) (two_words text)

-- OVERRUNS number task
abbrev pub overran_of : PlantData → List ℕ → Option Deed
overran_of plant text =
    option_and_then (λ w. option_and_then (λ n. option_map (deeds.Overran n) (task_named plant w.1))
    (limited 2147483647 (decimal_of w.0))) (two_words text)

-- ACTIVE step, step: the parts between commas are a word each
abbrev pub is_comma : ℕ → Bool
is_comma b = b == 44

abbrev pub parts : List ℕ → List (List ℕ)
parts [] = [] ∷ []
parts (b ∷ text) = if is_comma b then [] ∷ parts text else in_line b (parts text)

abbrev pub step_said : PlantData → ProgId → List ℕ → Option StepId
step_said plant p part = option_and_then (step_named plant p) (only_word part)

abbrev pub all_steps : List (Option StepId) → Option (List StepId)
all_steps [] = Some []
all_steps (None ∷ steps) = None
all_steps (Some step ∷ steps) = option_map (λ others. step ∷ others) (all_steps steps)

abbrev pub active_of : PlantData → ProgId → List ℕ → Option Deed
active_of plant p text = option_map (deeds.Active p) (all_steps (map (step_said plant p) (parts text)))

-- of a program instance, what stands behind ACTIVE
abbrev pub listed_by : ProgId → List ℕ × List ℕ → Option (ProgId × List ℕ)
listed_by p w = if same_word w.0 (codes "ACTIVE") then Some (p, w.1) else None

abbrev pub listed : PlantData → List ℕ → Option (ProgId × List ℕ)
listed plant text = option_and_then (λ a. option_and_then (listed_by a.0) (first_word a.1)) (asked plant text)

-- the steps that are active, or a condition
abbrev pub stated_by : PlantData → Reader → List ℕ → Option (ProgId × List ℕ) → Option Deed
stated_by plant read text (Some l) = active_of plant l.0 l.1
stated_by plant read text None = option_map deeds.Expects (condition plant read text)

abbrev pub stated : PlantData → Reader → List ℕ → Option Deed
stated plant read text = stated_by plant read text (listed plant text)

abbrev pub expected_by : PlantData → Reader → List ℕ → List ℕ × List ℕ → Option Deed
expected_by plant read text w =
    if same_word w.0 (codes "REFUSED") then refused_of plant w.1 else
    if same_word w.0 (codes "FAULT") then faulted_of plant w.1 else
    if same_word w.0 (codes "OVERRUNS") then overran_of plant w.1 else stated plant read text

abbrev pub expected_of : PlantData → Reader → List ℕ → Option Deed
expected_of plant read text = option_and_then (expected_by plant read text) (first_word text)

-- ---- ALWAYS and NEVER

abbrev pub watched_by : Bool → Option Condition → Option End → Option Deed
watched_by wanted (Some watched) (Some end) =
    Some (deeds.Watches (Stays (record { wanted = wanted; condition = watched; end = end })))
watched_by wanted _ _ = None

-- up to where UNTIL, FOR or nothing says
abbrev pub watched_up_to : PlantData → Reader → Bool → List ℕ → Option (List ℕ × List ℕ) → Option (List ℕ × List ℕ) → Option Deed
watched_up_to plant read wanted text (Some d) duration =
    watched_by wanted (condition plant read d.0) (option_map When (condition plant read d.1))
watched_up_to plant read wanted text None (Some d) =
    watched_by wanted (condition plant read d.0) (option_map After (duration_of d.1))
watched_up_to plant read wanted text None None = watched_by wanted (condition plant read text) (Some CaseEnds)

abbrev pub watched_of : PlantData → Reader → Bool → List ℕ → Option Deed
watched_of plant read wanted text =
    watched_up_to plant read wanted text (divided (codes "UNTIL") text) (divided (codes "FOR") text)

-- ---- WITHIN, AFTER and EXPECT

abbrev pub response_by : Option ℤ → Option Condition → Option Condition → Option Deed
response_by (Some d) (Some cause) (Some effect) =
    Some (deeds.Watches (Responds (record { cause = cause; effect = effect; within = d })))
response_by _ _ _ = None

-- condition EXPECT condition
abbrev pub responded : PlantData → Reader → Option ℤ → List ℕ → Option Deed
responded plant read d text =
    option_and_then (λ e. response_by d (condition plant read e.0) (condition plant read e.1)) (divided (codes "EXPECT") text)

-- WITHIN duration AFTER condition EXPECT condition
abbrev pub response_of : PlantData → Reader → List ℕ → Option Deed
response_of plant read text =
    option_and_then (λ a. responded plant read (duration_of a.0) a.1) (divided (codes "AFTER") text)

-- ---- lines

abbrev pub does : Instant → Option Deed → Said
does instant None = Wrong
does instant (Some deed) = Does instant deed

abbrev pub waits : Instant → Point → Option BreakCondition → Said
waits instant point None = Wrong
waits instant point (Some awaited) = Waits instant point awaited

-- a command of a script; the program instance of a breakpoint with a condition has to be there
abbrev pub given_by : PlantData → Reader → Instant → Option Command → Option Conditional → Said
given_by plant read instant (Some command) conditional = Does instant (deeds.Gives command)
given_by plant read instant None (Some c) = waits instant c.place.point (condition_by plant c.place.program (read c.text))
given_by plant read instant None None = Wrong

-- a stimulus, or a command of a script
abbrev pub stirred_by : PlantData → Reader → Instant → List ℕ → Option (List ℕ × List ℕ) → Said
stirred_by plant read instant text None = Wrong
stirred_by plant read instant text (Some w) =
    if same_word w.0 (codes "EVERY") then does instant (option_map deeds.Stirs (every_of plant w.1)) else
    if same_word w.0 (codes "AT") then does instant (option_map deeds.Stirs (at_of plant w.1)) else
    if same_word w.0 (codes "RAMP") then does instant (option_map deeds.Stirs (ramp_of plant w.1)) else
    given_by plant read instant (command_of plant text) (conditional_of plant text)

-- what stands behind an instant, or without one: by its first word
abbrev pub deed_by : PlantData → Reader → Instant → List ℕ → Option (List ℕ × List ℕ) → Said
deed_by plant read instant text None = Wrong
deed_by plant read instant text (Some w) =
    if same_word w.0 (codes "RUN") then does instant (run_of w.1) else
    if same_word w.0 (codes "UNTIL") then does instant (until_of plant read w.1) else
    if same_word w.0 (codes "EXPECT") then does instant (expected_of plant read w.1) else
    if same_word w.0 (codes "ALWAYS") then does instant (watched_of plant read true w.1) else
    if same_word w.0 (codes "NEVER") then does instant (watched_of plant read false w.1) else
    if same_word w.0 (codes "WITHIN") then does instant (response_of plant read w.1) else
    stirred_by plant read instant text (Some w)

abbrev pub timed_at : PlantData → Reader → List ℕ → List ℕ → Option Instant → Said
timed_at plant read text rest None = deed_by plant read Same text (first_word text)
timed_at plant read text rest (Some instant) = deed_by plant read instant rest (first_word rest)

abbrev pub timed_by : PlantData → Reader → List ℕ → Option (List ℕ × List ℕ) → Said
timed_by plant read text None = Wrong
timed_by plant read text (Some w) = timed_at plant read text w.1 (instant_of w.0)

-- TEST name
abbrev pub begun : List ℕ → Said
begun [] = Wrong
begun (b ∷ name) = Does Same (deeds.Begins (b ∷ name))

-- LET name = word
abbrev pub named_by : List ℕ → Option (List ℕ × List ℕ) → Said
named_by name None = Wrong
named_by name (Some w) =
    if same_word w.0 (codes "=") then Names (record { name = name; word = w.1 }) else Wrong

abbrev pub named_of : Option (List ℕ × List ℕ) → Said
named_of None = Wrong
named_of (Some w) = named_by w.0 (two_words w.1)

-- A line without words, and one whose first word begins with a semicolon, says nothing. TEST and LET are read as they stand, any other line
-- with the words for which its names stand.
abbrev pub said_by : PlantData → Reader → List Named → List ℕ → Option (List ℕ × List ℕ) → Said
said_by plant read names line None = Nothing
said_by plant read names line (Some w) =
    if begins_comment w.0 then Nothing else
    if same_word w.0 (codes "TEST") then begun (from_word w.1) else
    if same_word w.0 (codes "LET") then named_of (first_word w.1) else
    timed_by plant read (replaced names line) (first_word (replaced names line))

abbrev pub said_of : PlantData → Reader → List Named → List ℕ → Said
said_of plant read names line = said_by plant read names line (first_word line)
