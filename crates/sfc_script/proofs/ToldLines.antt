-- What is told of a line, and what it says.
use Rattle.std.proofs.Common.{◌≡◌, ℕ, ℤ, Bool, true, false, not, ◌||◌, if◌then◌else◌, List, [], ◌∷◌, codes, Option, Some, None, refl, sym, ap, subst, ◌∙◌}
use Rattle.std.specs.Prelude.{is_none, is_some, option_map, option_and_then, unwrap_or}
use Rattle.std.specs.Option.{option_or}
use Rattle.sfc_base.specs.Case.{same_word}
use Rattle.sfc_base.specs.declared.ids.ProgId.{ProgId}
use Rattle.sfc_base.specs.declared.ids.TransitionId.{TransitionId}
use Rattle.sfc_base.specs.declared.ids.VarId.{VarId}
use Rattle.sfc_base.specs.declared.var_type.VarType.{VarType}
use Rattle.sfc_base.specs.declared.value.Value.{Value}
use Rattle.sfc_base.specs.declared.value.Value.TheVariants as value
use Rattle.sfc_base.proofs.SameWords.{same_word_equiv}
use Rattle.sfc_events.specs.declared.command.Command.{Command}
use Rattle.sfc_events.specs.declared.command.Command.TheVariants.{Scan, Input, Force, Release, Reset}
use Rattle.sfc_events.specs.declared.command.Command.TheVariants.{Read, Break, Unbreak, Stop, Go, Single, End, Epoch}
use Rattle.sfc_events.specs.declared.command.Point.{Point}
use Rattle.sfc_events.specs.declared.command.Point.TheVariants.{Step, Transition, Action}
use Rattle.sfc_plant.specs.Finding.{transition_named}
use Rattle.sfc_plant.specs.Plants.{PlantData}
use Rattle.sfc_tokens.specs.Lexing.DurationWords.{duration_value}
use Rattle.sfc_script.specs.declared.line_fault.LineFault.{LineFault}
use Rattle.sfc_script.specs.declared.line_fault.LineFault.TheVariants.{Word, Condition}
use Rattle.sfc_script.specs.declared.point.Place.{Place}
use Rattle.sfc_script.specs.declared.wanted.Wanted.{Wanted}
use Rattle.sfc_script.specs.declared.wanted.Wanted.TheVariants as wanted
use Rattle.sfc_script.specs.Commands as commands
use Rattle.sfc_script.specs.Commands.{Conditional, said_by, said_at, said_behind, said_of, begins_comment}
use Rattle.sfc_script.specs.LineFaults as faults
use Rattle.sfc_script.specs.LineFaults.{IsWord, IsToldOf}
use Rattle.sfc_script.specs.Lines.{first_word, only_word, two_words}
use Rattle.sfc_script.specs.Names.{task_of, program_of, variable_of, type_of}
use Rattle.sfc_script.specs.Points as points
use Rattle.sfc_script.specs.Values.{value_of_word, value_of_number, dint_of}

-- the words of a line from one on: the first of them, and what stands behind it
abbrev Front : Type 0
Front = Option (List ℕ × List ℕ)

-- what is told of a command without a condition, or of none
abbrev Agree : Option Command → Option LineFault → Type 0
Agree (Some command) fault = fault ≡ None
Agree None fault = IsWord fault

says : (o : Option Command) (t : ℤ) (fault : Option LineFault) → Agree o fault → IsToldOf (said_by o None t) fault
says (Some command) t fault e = e
says None t fault e = e

-- ---- words in a row

one : (w : Wanted) (make : List ℕ → Command) (rest : List ℕ) → ((word : List ℕ) → faults.fits w word ≡ true)
    → Agree (option_map make (only_word rest)) (faults.words_fault 2 (w ∷ []) rest)
one w make rest any = by (first_word rest)
  where
    behind : (x : List ℕ × List ℕ) (o : Front) → Agree (option_map make (if is_none o then Some x.0 else None)) (if is_none o then None else Some (Word 3 wanted.LineEnd))
    behind x None = refl
    behind x (Some y) = (3, wanted.LineEnd, refl)

    by : (o : Front) → Agree (option_map make (option_and_then (λ x. if is_none (first_word x.1) then Some x.0 else None) o))
        (faults.on_word (Word 2 w) (λ f. if faults.fits w f.0 then faults.words_fault 3 [] f.1 else Some (Word 2 w)) o)
    by None = (2, w, refl)
    by (Some x) = subst (λ b. Agree (option_map make (if is_none (first_word x.1) then Some x.0 else None))
        (if b then faults.words_fault 3 [] x.1 else Some (Word 2 w))) (sym (any x.0)) (behind x (first_word x.1))

two : (v w : Wanted) (make : List ℕ → List ℕ → Option Command) (rest : List ℕ) → ((word : List ℕ) → faults.fits v word ≡ true)
    → ((a b : List ℕ) → is_some (make a b) ≡ faults.fits w b)
    → Agree (option_and_then (λ p. make p.0 p.1) (two_words rest)) (faults.words_fault 2 (v ∷ w ∷ []) rest)
two v w make rest any made = by (first_word rest)
  where
    last : (x y : List ℕ × List ℕ) (o : Front) (c : Option Command) → Agree (option_and_then {T = List ℕ × List ℕ} (λ p. c) (option_map (λ s. (x.0, s)) (if is_none o then Some y.0 else None)))
        (if is_some c then (if is_none o then None else Some (Word 4 wanted.LineEnd)) else Some (Word 3 w))
    last x y None (Some c) = refl
    last x y None None = (3, w, refl)
    last x y (Some z) (Some c) = (4, wanted.LineEnd, refl)
    last x y (Some z) None = (3, w, refl)

    same : (x y : List ℕ × List ℕ) (o : Front) → option_and_then {T = List ℕ × List ℕ} (λ p. make p.0 p.1) (option_map (λ s. (x.0, s)) (if is_none o then Some y.0 else None))
        ≡ option_and_then {T = List ℕ × List ℕ} (λ p. make x.0 y.0) (option_map (λ s. (x.0, s)) (if is_none o then Some y.0 else None))
    same x y None = refl
    same x y (Some z) = refl

    second : (x : List ℕ × List ℕ) (o : Front)
        → Agree (option_and_then {T = List ℕ × List ℕ} (λ p. make p.0 p.1) (option_map (λ s. (x.0, s)) (option_and_then (λ y. if is_none (first_word y.1) then Some y.0 else None) o)))
        (faults.on_word (Word 3 w) (λ f. if faults.fits w f.0 then faults.words_fault 4 [] f.1 else Some (Word 3 w)) o)
    second x None = (3, w, refl)
    second x (Some y) =
        subst (λ c. Agree c (if faults.fits w y.0 then faults.words_fault 4 [] y.1 else Some (Word 3 w))) (sym (same x y (first_word y.1)))
        (subst (λ b. Agree (option_and_then {T = List ℕ × List ℕ} (λ p. make x.0 y.0) (option_map (λ s. (x.0, s)) (if is_none (first_word y.1) then Some y.0 else None)))
        (if b then faults.words_fault 4 [] y.1 else Some (Word 3 w))) (made x.0 y.0) (last x y (first_word y.1) (make x.0 y.0)))

    by : (o : Front) → Agree (option_and_then {T = List ℕ × List ℕ} (λ p. make p.0 p.1) (option_and_then (λ x. option_map (λ s. (x.0, s)) (only_word x.1)) o))
        (faults.on_word (Word 2 v) (λ f. if faults.fits v f.0 then faults.words_fault 3 (w ∷ []) f.1 else Some (Word 2 v)) o)
    by None = (2, v, refl)
    by (Some x) = subst (λ b. Agree (option_and_then {T = List ℕ × List ℕ} (λ p. make p.0 p.1) (option_map (λ s. (x.0, s)) (only_word x.1)))
        (if b then faults.words_fault 3 (w ∷ []) x.1 else Some (Word 2 v))) (sym (any x.0)) (second x (first_word x.1))

-- whether a word is a value isn't a matter of the type
valued : (t u : Option VarType) (word : List ℕ) → is_some (value_of_word t word) ≡ is_some (value_of_word u word)
valued t u word = by (same_word word (codes "TRUE")) (same_word word (codes "FALSE")) (duration_value word) (dint_of word)
  where
    by : (a b : Bool) (d : Option ℤ) (n : Option ℤ)
        → is_some (if a then Some (value.Bool true) else if b then Some (value.Bool false) else option_or (option_map value.Time d) (option_map (value_of_number t) n))
        ≡ is_some (if a then Some (value.Bool true) else if b then Some (value.Bool false) else option_or (option_map value.Time d) (option_map (value_of_number u) n))
    by true b d n = refl
    by false true d n = refl
    by false false (Some d) n = refl
    by false false None (Some n) = refl
    by false false None None = refl

mapped : {A : Type 0} (f : A → Command) (o : Option A) → is_some (option_map f o) ≡ is_some o
mapped f (Some a) = refl
mapped f None = refl

mapped_value : {A : Type 0} (f : Value → A) (o : Option Value) → is_some (option_map f o) ≡ is_some o
mapped_value f (Some a) = refl
mapped_value f None = refl

inside : {A B : Type 0} (f : B → Command) (g : A → Option B) (o : Option A) → option_and_then (λ a. option_map f (g a)) o ≡ option_map f (option_and_then g o)
inside f g (Some a) = refl
inside f g None = refl

-- INPUT and FORCE
assigns : (plant : PlantData) (make : VarId → Value → Command) (rest : List ℕ)
    → Agree (option_map (λ a. make a.0 a.1) (commands.assigned plant rest)) (faults.words_fault 2 (wanted.Variable ∷ wanted.Value ∷ []) rest)
assigns plant make rest =
    subst (λ c. Agree c (faults.words_fault 2 (wanted.Variable ∷ wanted.Value ∷ []) rest))
    (inside {A = List ℕ × List ℕ} {B = VarId × Value} (λ a. make a.0 a.1) (λ w. commands.valued plant (variable_of plant w.0) w.1) (two_words rest))
    (two wanted.Variable wanted.Value (λ a b. option_map (λ (x : VarId × Value). make x.0 x.1) (commands.valued plant (variable_of plant a) b)) rest (λ word. refl)
    (λ a b. mapped {A = VarId × Value} (λ x. make x.0 x.1) (commands.valued plant (variable_of plant a) b)
    ∙ mapped_value {A = VarId × Value} (λ v. (variable_of plant a, v)) (value_of_word (type_of plant (variable_of plant a)) b)
    ∙ valued (type_of plant (variable_of plant a)) None b))

singles : (plant : PlantData) (rest : List ℕ) → Agree (commands.single_of plant rest) (faults.words_fault 2 (wanted.Task ∷ wanted.Duration ∷ []) rest)
singles plant rest = two wanted.Task wanted.Duration (λ a b. option_map (λ d. Single (task_of plant a) d) (duration_value b)) rest (λ word. refl)
    (λ a b. mapped {A = ℤ} (λ d. Single (task_of plant a) d) (duration_value b))

bare : (keyword rest : List ℕ) → Agree (commands.bare_of keyword rest) (faults.by_words (if faults.is_bare keyword then Some [] else None) rest)
bare keyword rest = by (same_word keyword (codes "STOP")) (same_word keyword (codes "GO")) (same_word keyword (codes "END")) (same_word keyword (codes "EPOCH"))
  where
    ended : (o : Front) (command : Command) → Agree (if is_none o then Some command else None) (if is_none o then None else Some (Word 2 wanted.LineEnd))
    ended None command = refl
    ended (Some x) command = (2, wanted.LineEnd, refl)

    nothing : (o : Front) → Agree (if is_none o then None else None) (Some (Word 1 wanted.Command))
    nothing None = (1, wanted.Command, refl)
    nothing (Some x) = (1, wanted.Command, refl)

    by : (s g e p : Bool)
        → Agree (if is_none (first_word rest) then (if s then Some Stop else if g then Some Go else if e then Some End else if p then Some Epoch else None) else None)
        (faults.by_words (if s || g || e || p then Some [] else None) rest)
    by true g e p = ended (first_word rest) Stop
    by false true e p = ended (first_word rest) Go
    by false false true p = ended (first_word rest) End
    by false false false true = ended (first_word rest) Epoch
    by false false false false = nothing (first_word rest)

-- ---- points

-- a point in front of a line and what stands behind it, and what is told of them
abbrev AgreePlace : Option (Place × List ℕ) → (Bool → Option LineFault) → Type 0
AgreePlace None fault = (may : Bool) → IsWord (fault may)
AgreePlace (Some x) fault = (may : Bool) → fault may ≡ faults.behind_point may (first_word x.1)

transition : (plant : PlantData) (p : ProgId) (word : List ℕ) → faults.names_transition word ≡ is_some (points.transition_of plant p word)
transition plant p word = by (points.are_digits word) (points.numbered_transition word)
  where
    by : (d : Bool) (n : Option TransitionId) → (not d || is_some n) ≡ is_some (if d then n else Some (unwrap_or (transition_named plant p word) (record { 0 = 65535 })))
    by true n = refl
    by false n = refl

-- a kind of points and the name of one
named : (plant : PlantData) (p : ProgId) (kind rest : List ℕ)
    → AgreePlace (option_map {T = Point × List ℕ} {U = Place × List ℕ} (λ f. (record { program = p; point = f.0 }, f.1)) (points.point_behind plant p (kind, rest)))
    (λ may. if faults.is_point_kind kind then faults.point_fault may kind rest else Some (Word 3 wanted.PointKind))
named plant p kind rest = by (first_word rest)
  where
    unnamed : (k may : Bool) → IsWord (if k then Some (Word 4 wanted.PointName) else Some (Word 3 wanted.PointKind))
    unnamed true may = (4, wanted.PointName, refl)
    unnamed false may = (3, wanted.PointKind, refl)

    point : (n : List ℕ × List ℕ) (s a t : Bool) (step action : Point) (o : Option TransitionId) → faults.names_transition n.0 ≡ is_some o
        → AgreePlace (option_map {T = Point × List ℕ} {U = Place × List ℕ} (λ f. (record { program = p; point = f.0 }, f.1)) (option_map (λ point. (point, n.1))
        (if s then Some step else if a then Some action else if t then option_map (λ t. Transition t) o else None)))
        (λ may. if s || a || t then (if faults.fits (if s then wanted.PointName else if a then wanted.PointName else wanted.TransitionNumber) n.0
        then faults.behind_point may (first_word n.1) else Some (Word 4 wanted.TransitionNumber)) else Some (Word 3 wanted.PointKind))
    point n true a t step action o e = λ may. refl
    point n false true t step action o e = λ may. refl
    point n false false true step action (Some x) e = λ may.
        ap (λ b. if b then faults.behind_point may (first_word n.1) else Some (Word 4 wanted.TransitionNumber)) e
    point n false false true step action None e = λ may.
        (4, wanted.TransitionNumber, ap (λ b. if b then faults.behind_point may (first_word n.1) else Some (Word 4 wanted.TransitionNumber)) e)
    point n false false false step action o e = λ may. (3, wanted.PointKind, refl)

    by : (o : Front)
        → AgreePlace (option_map {T = Point × List ℕ} {U = Place × List ℕ} (λ f. (record { program = p; point = f.0 }, f.1))
        (option_and_then {T = List ℕ × List ℕ} (λ w. option_map (λ point. (point, w.1)) (points.point_of plant p kind w.0)) o))
        (λ may. if faults.is_point_kind kind then faults.on_word (Word 4 wanted.PointName)
        (λ n. if faults.fits (faults.point_wanted kind) n.0 then faults.behind_point may (first_word n.1) else Some (Word 4 wanted.TransitionNumber)) o
        else Some (Word 3 wanted.PointKind))
    by None = λ may. unnamed (faults.is_point_kind kind) may
    by (Some n) = point n (same_word kind (codes "STEP")) (same_word kind (codes "ACTION")) (same_word kind (codes "TRANSITION"))
        (Step (points.step_of plant p n.0)) (Action (points.action_of plant p n.0)) (points.transition_of plant p n.0) (transition plant p n.0)

placed : (plant : PlantData) (rest : List ℕ) → AgreePlace (commands.first_place plant rest) (λ may. faults.place_fault may rest)
placed plant rest = by (first_word rest)
  where
    kind : (p : ProgId) (o : Front)
        → AgreePlace (option_map {T = Point × List ℕ} {U = Place × List ℕ} (λ f. (record { program = p; point = f.0 }, f.1)) (option_and_then (points.point_behind plant p) o))
        (λ may. faults.on_word (Word 3 wanted.PointKind)
        (λ k. if faults.is_point_kind k.0 then faults.point_fault may k.0 k.1 else Some (Word 3 wanted.PointKind)) o)
    kind p None = λ may. (3, wanted.PointKind, refl)
    kind p (Some k) = named plant p k.0 k.1

    by : (o : Front) → AgreePlace (option_and_then (λ w. commands.place_in plant (program_of plant w.0) w.1) o)
        (λ may. faults.on_word (Word 2 wanted.Program) (λ p. faults.kind_fault may p.1) o)
    by None = λ may. (2, wanted.Program, refl)
    by (Some n) = kind (program_of plant n.0) (first_word n.1)

-- nothing stands behind the point
alone : (make : Place → Command) (plant : PlantData) (rest : List ℕ) → Agree (option_map make (commands.only_place plant rest)) (faults.place_fault false rest)
alone make plant rest = by (commands.first_place plant rest) (placed plant rest)
  where
    behind : (x : Place × List ℕ) (o : Front) → Agree (option_map make (if is_none o then Some x.0 else None)) (faults.behind_point false o)
    behind x None = refl
    behind x (Some w) = (5, wanted.LineEnd, refl)

    by : (f : Option (Place × List ℕ)) → AgreePlace f (λ may. faults.place_fault may rest)
        → Agree (option_map make (option_and_then (λ f. if is_none (first_word f.1) then Some f.0 else None) f)) (faults.place_fault false rest)
    by None agree = agree false
    by (Some x) agree = subst (λ fault. Agree (option_map make (if is_none (first_word x.1) then Some x.0 else None)) fault) (sym (agree false)) (behind x (first_word x.1))

-- a condition may stand there
conditioned : (plant : PlantData) (rest : List ℕ) (t : ℤ) → IsToldOf (said_by (commands.break_of plant rest) (commands.when_of plant rest) t) (faults.place_fault true rest)
conditioned plant rest t = by (commands.first_place plant rest) (placed plant rest)
  where
    command : Place → Command
    command b = Break b.program b.point

    keyword : (x : Place × List ℕ) (w : List ℕ × List ℕ) (b : Bool)
        → IsToldOf (said_by None (if b then Some (record { place = x.0; text = w.1 }) else None) t) (if b then Some (Condition 6) else Some (Word 5 wanted.When))
    keyword x w true = refl
    keyword x w false = (5, wanted.When, refl)

    behind : (x : Place × List ℕ) (o : Front)
        → IsToldOf (said_by (option_map command (if is_none o then Some x.0 else None)) (option_and_then (commands.when_behind x.0) o) t) (faults.behind_point true o)
    behind x None = refl
    behind x (Some w) = keyword x w (same_word w.0 (codes "WHEN"))

    by : (f : Option (Place × List ℕ)) → AgreePlace f (λ may. faults.place_fault may rest)
        → IsToldOf (said_by (option_map command (option_and_then (λ f. if is_none (first_word f.1) then Some f.0 else None) f))
        (option_and_then (λ f. option_and_then (commands.when_behind f.0) (first_word f.1)) f) t) (faults.place_fault true rest)
    by None agree = agree true
    by (Some x) agree =
        subst (λ fault. IsToldOf (said_by (option_map command (if is_none (first_word x.1) then Some x.0 else None)) (option_and_then (commands.when_behind x.0) (first_word x.1)) t) fault)
        (sym (agree true)) (behind x (first_word x.1))

-- ---- commands

-- one test more
test : (b : Bool) (c d : Option Command) (v w : Option (List Wanted)) (rest : List ℕ) → Agree c (faults.by_words v rest) → Agree d (faults.by_words w rest)
    → Agree (if b then c else d) (faults.by_words (if b then v else w) rest)
test true c d v w rest x y = x
test false c d v w rest x y = y

-- two tests that lead to the same words
test_both : (a b : Bool) (c d e : Option Command) (v w : Option (List Wanted)) (rest : List ℕ) → Agree c (faults.by_words v rest) → Agree d (faults.by_words v rest)
    → Agree e (faults.by_words w rest) → Agree (if a then c else if b then d else e) (faults.by_words (if a || b then v else w) rest)
test_both true b c d e v w rest x y z = x
test_both false true c d e v w rest x y z = y
test_both false false c d e v w rest x y z = z

-- two tests that fail
test_neither : (a b : Bool) (c d e : Option Command) (v w : Option (List Wanted)) (rest : List ℕ) → a ≡ false → b ≡ false
    → Agree e (faults.by_words w rest) → Agree (if a then c else if b then d else e) (faults.by_words (if a || b then v else w) rest)
test_neither true b c d e v w rest f g z = absurd cc
test_neither false true c d e v w rest f g z = absurd cc
test_neither false false c d e v w rest f g z = z

-- a word that is none of a point
other : (plant : PlantData) (keyword rest : List ℕ) → same_word keyword (codes "BREAK") ≡ false → same_word keyword (codes "UNBREAK") ≡ false
    → Agree (commands.command_by plant keyword rest) (faults.by_words (faults.words_behind keyword) rest)
other plant keyword rest no_break no_unbreak =
    test (same_word keyword (codes "SCAN")) (commands.scan_of plant rest) _ (Some (wanted.Task ∷ [])) _ rest
    (one wanted.Task (λ name. Scan (task_of plant name)) rest (λ word. refl))
    (test_both (same_word keyword (codes "INPUT")) (same_word keyword (codes "FORCE")) (commands.input_of plant rest) (commands.force_of plant rest) _
    (Some (wanted.Variable ∷ wanted.Value ∷ [])) _ rest (assigns plant (λ id v. Input id v) rest) (assigns plant (λ id v. Force id v) rest)
    (test (same_word keyword (codes "RELEASE")) (commands.release_of plant rest) _ (Some (wanted.Variable ∷ [])) _ rest
    (one wanted.Variable (λ name. Release (variable_of plant name)) rest (λ word. refl))
    (test (same_word keyword (codes "RESET")) (commands.reset_of plant rest) _ (Some (wanted.Program ∷ [])) _ rest
    (one wanted.Program (λ name. Reset (program_of plant name)) rest (λ word. refl))
    (test (same_word keyword (codes "READ")) (commands.read_of plant rest) _ (Some (wanted.Variable ∷ [])) _ rest
    (one wanted.Variable (λ name. Read (variable_of plant name)) rest (λ word. refl))
    (test_neither (same_word keyword (codes "BREAK")) (same_word keyword (codes "UNBREAK")) (commands.break_of plant rest) (commands.unbreak_of plant rest) _
    (Some (wanted.Program ∷ wanted.PointKind ∷ wanted.PointName ∷ [])) _ rest no_break no_unbreak
    (test (same_word keyword (codes "SINGLE")) (commands.single_of plant rest) _ (Some (wanted.Task ∷ wanted.Duration ∷ [])) _ rest (singles plant rest)
    (bare keyword rest)))))))

-- a word that is one is no other
unlike : (keyword a b : List ℕ) → same_word keyword a ≡ true → same_word a b ≡ false → same_word keyword b ≡ false
unlike keyword a b e f = same_word_equiv.congr keyword a b e ∙ f

apart : (same_word (codes "BREAK") (codes "SCAN") ≡ false) × (same_word (codes "BREAK") (codes "INPUT") ≡ false) × (same_word (codes "BREAK") (codes "FORCE") ≡ false)
    × (same_word (codes "BREAK") (codes "RELEASE") ≡ false) × (same_word (codes "BREAK") (codes "RESET") ≡ false) × (same_word (codes "BREAK") (codes "READ") ≡ false)
unfolding same_word
apart = (refl, refl, refl, refl, refl, refl)

apart_too : (same_word (codes "UNBREAK") (codes "SCAN") ≡ false) × (same_word (codes "UNBREAK") (codes "INPUT") ≡ false) × (same_word (codes "UNBREAK") (codes "FORCE") ≡ false)
    × (same_word (codes "UNBREAK") (codes "RELEASE") ≡ false) × (same_word (codes "UNBREAK") (codes "RESET") ≡ false) × (same_word (codes "UNBREAK") (codes "READ") ≡ false)
    × (same_word (codes "UNBREAK") (codes "BREAK") ≡ false)
unfolding same_word
apart_too = (refl, refl, refl, refl, refl, refl, refl)

-- a chain of tests of which the first ones fail
fails : {A : Type 0} (b : Bool) (x y z : A) → b ≡ false → y ≡ z → (if b then x else y) ≡ z
fails true x y z e f = absurd cc
fails false x y z e f = f

holds : {A : Type 0} (b : Bool) (x y : A) → b ≡ true → (if b then x else y) ≡ x
holds true x y e = refl
holds false x y e = absurd cc

is_break : (plant : PlantData) (keyword rest : List ℕ) → same_word keyword (codes "BREAK") ≡ true → commands.command_by plant keyword rest ≡ commands.break_of plant rest
is_break plant keyword rest e =
    let no : (b : List ℕ) → same_word (codes "BREAK") b ≡ false → same_word keyword b ≡ false = λ b f. unlike keyword (codes "BREAK") b e f in
    fails _ _ _ _ (no (codes "SCAN") apart.0) (fails _ _ _ _ (no (codes "INPUT") apart.1) (fails _ _ _ _ (no (codes "FORCE") apart.2)
    (fails _ _ _ _ (no (codes "RELEASE") apart.3) (fails _ _ _ _ (no (codes "RESET") apart.4) (fails _ _ _ _ (no (codes "READ") apart.5)
    (holds _ _ _ e))))))

-- UNBREAK, in the place of BREAK
is_unbreak : (plant : PlantData) (keyword rest : List ℕ) → same_word keyword (codes "UNBREAK") ≡ true → commands.command_by plant keyword rest ≡ commands.unbreak_of plant rest
is_unbreak plant keyword rest e =
    let no : (b : List ℕ) → same_word (codes "UNBREAK") b ≡ false → same_word keyword b ≡ false = λ b f. unlike keyword (codes "UNBREAK") b e f in
    fails _ _ _ _ (no (codes "SCAN") apart_too.0) (fails _ _ _ _ (no (codes "INPUT") apart_too.1) (fails _ _ _ _ (no (codes "FORCE") apart_too.2)
    (fails _ _ _ _ (no (codes "RELEASE") apart_too.3) (fails _ _ _ _ (no (codes "RESET") apart_too.4) (fails _ _ _ _ (no (codes "READ") apart_too.5)
    (fails _ _ _ _ (no (codes "BREAK") apart_too.6) (holds _ _ _ e)))))))

by_keyword : (plant : PlantData) (keyword rest : List ℕ) (t : ℤ) (b u : Bool) → same_word keyword (codes "BREAK") ≡ b → same_word keyword (codes "UNBREAK") ≡ u
    → IsToldOf (said_by (commands.command_by plant keyword rest) (if b then commands.when_of plant rest else None) t)
    (if b then faults.place_fault true rest else if u then faults.place_fault false rest else faults.by_words (faults.words_behind keyword) rest)
by_keyword plant keyword rest t true u e f =
    subst (λ c. IsToldOf (said_by c (commands.when_of plant rest) t) (faults.place_fault true rest)) (sym (is_break plant keyword rest e)) (conditioned plant rest t)
by_keyword plant keyword rest t false true e f =
    says (commands.command_by plant keyword rest) t (faults.place_fault false rest)
    (subst (λ c. Agree c (faults.place_fault false rest)) (sym (is_unbreak plant keyword rest f)) (alone (λ b. Unbreak b.program b.point) plant rest))
by_keyword plant keyword rest t false false e f =
    says (commands.command_by plant keyword rest) t (faults.by_words (faults.words_behind keyword) rest) (other plant keyword rest e f)

-- ---- lines

pub told : (plant : PlantData) (line : List ℕ) → IsToldOf (said_of plant line) (faults.line_fault line)
told plant line = by (first_word line)
  where
    command : (t : ℤ) (o : Front)
        → IsToldOf (said_by (option_and_then (λ c. commands.command_by plant c.0 c.1) o)
        (option_and_then (λ c. if same_word c.0 (codes "BREAK") then commands.when_of plant c.1 else None) o) t)
        (faults.on_word (Word 1 wanted.Command) (λ c. faults.command_fault c.0 c.1) o)
    command t None = (1, wanted.Command, refl)
    command t (Some c) = by_keyword plant c.0 c.1 t (same_word c.0 (codes "BREAK")) (same_word c.0 (codes "UNBREAK")) refl refl

    mark : (b : Bool) → IsWord (if b then Some (Word 0 wanted.NoMark) else Some (Word 0 wanted.Instant))
    mark true = (0, wanted.NoMark, refl)
    mark false = (0, wanted.Instant, refl)

    instant : (word rest : List ℕ) (o : Option ℤ)
        → IsToldOf (said_at plant o rest)
        (if is_some o then faults.on_word (Word 1 wanted.Command) (λ c. faults.command_fault c.0 c.1) (first_word rest)
        else if faults.begins_with_mark word then Some (Word 0 wanted.NoMark) else Some (Word 0 wanted.Instant))
    instant word rest None = mark (faults.begins_with_mark word)
    instant word rest (Some t) = command t (first_word rest)

    comment : (word rest : List ℕ) (b : Bool)
        → IsToldOf (if b then commands.Nothing else said_at plant (duration_value word) rest) (if b then None else faults.instant_fault word rest)
    comment word rest true = refl
    comment word rest false = instant word rest (duration_value word)

    by : (o : Front) → IsToldOf (said_behind plant o) (faults.fault_behind o)
    by None = refl
    by (Some w) = comment w.0 w.1 (begins_comment w.0)
