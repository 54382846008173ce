-- Which word makes a line no command, and what may stand in its place (our choice of format).
use Rattle.std.specs.Prelude.{◌≡◌, ℕ, zero, suc, ◌==◌, Bool, true, false, not, ◌&&◌, ◌||◌, if◌then◌else◌, is_none, is_some, List, [], ◌∷◌, codes}
use Rattle.std.specs.Prelude.{Option, Some, None, option_and_then, MatchOption}
use Rattle.sfc_base.specs.Case.{same_word}
use Rattle.sfc_tokens.specs.Lexing.DurationWords.{duration_value}
use Rattle.sfc_script.specs.declared.line_fault.LineFault.{LineFault}
use Rattle.sfc_script.specs.declared.line_fault.LineFault.TheVariants.{Word, Condition}
use Rattle.sfc_script.specs.declared.wanted.Wanted.{Wanted}
use Rattle.sfc_script.specs.declared.wanted.Wanted.TheVariants as wanted
use Rattle.sfc_script.specs.Commands.{Said, Nothing, Plain, When, Wrong, begins_comment}
use Rattle.sfc_script.specs.Lines.{first_word}
use Rattle.sfc_script.specs.Points.{are_digits, numbered_transition}
use Rattle.sfc_script.specs.Values.{value_of_word}

-- ---- the words of commands

-- STOP, GO, END and EPOCH: nothing stands behind them
abbrev pub is_bare : List ℕ → Bool
is_bare keyword =
    same_word keyword (codes "STOP") || same_word keyword (codes "GO") || same_word keyword (codes "END")
    || same_word keyword (codes "EPOCH")

-- the debugger's own
abbrev pub words_behind_debugging : List ℕ → Option (List Wanted)
words_behind_debugging keyword =
    if same_word keyword (codes "READ") then Some (wanted.Variable ∷ []) else
    if same_word keyword (codes "BREAK") || same_word keyword (codes "UNBREAK")
    then Some (wanted.Program ∷ wanted.PointKind ∷ wanted.PointName ∷ []) else
    if same_word keyword (codes "SINGLE") then Some (wanted.Task ∷ wanted.Duration ∷ []) else
    if is_bare keyword then Some [] else None

-- What stands behind the word that begins a command; behind that of BREAK a condition may follow.
abbrev pub words_behind : List ℕ → Option (List Wanted)
words_behind keyword =
    if same_word keyword (codes "SCAN") then Some (wanted.Task ∷ []) else
    if same_word keyword (codes "INPUT") || same_word keyword (codes "FORCE")
    then Some (wanted.Variable ∷ wanted.Value ∷ []) else
    if same_word keyword (codes "RELEASE") then Some (wanted.Variable ∷ []) else
    if same_word keyword (codes "RESET") then Some (wanted.Program ∷ []) else words_behind_debugging keyword

-- STEP, ACTION or TRANSITION
abbrev pub is_point_kind : List ℕ → Bool
is_point_kind word =
    same_word word (codes "STEP") || same_word word (codes "ACTION") || same_word word (codes "TRANSITION")

-- a name, or a number from 1 to 65,535
abbrev pub names_transition : List ℕ → Bool
names_transition word = not (are_digits word) || is_some (numbered_transition word)

-- the bytes EF BB BF in front
abbrev pub begins_with_mark : List ℕ → Bool
begins_with_mark [] = false
begins_with_mark (b ∷ []) = false
begins_with_mark (b ∷ c ∷ []) = false
begins_with_mark (b ∷ c ∷ d ∷ bytes) = b == 239 && c == 187 && d == 191

-- whether the word may stand in such a place: any word is a name
abbrev pub fits : Wanted → List ℕ → Bool
fits wanted.Instant word = is_some (duration_value word)
fits wanted.NoMark word = not (begins_with_mark word)
fits wanted.Command word = is_some (words_behind word)
fits wanted.Task word = true
fits wanted.Variable word = true
fits wanted.Program word = true
fits wanted.Value word = is_some (value_of_word None word)
fits wanted.Duration word = is_some (duration_value word)
fits wanted.PointKind word = is_point_kind word
fits wanted.PointName word = true
fits wanted.TransitionNumber word = names_transition word
fits wanted.When word = same_word word (codes "WHEN")
fits wanted.LineEnd word = false

-- ---- what is wrong behind the word that begins a command

-- what is told where a word is wanted: of the line's end, or of the word and what stands behind it
abbrev pub on_word : LineFault → (List ℕ × List ℕ → Option LineFault) → Option (List ℕ × List ℕ) → Option LineFault
on_word fault behind None = Some fault
on_word fault behind (Some w) = behind w

-- nothing more may stand on the line
abbrev pub ended : ℕ → List ℕ → Option LineFault
ended place rest = if is_none (first_word rest) then None else Some (Word place wanted.LineEnd)

-- these words, the first in this place of the line, and nothing more
abbrev pub words_fault : ℕ → List Wanted → List ℕ → Option LineFault
words_fault place [] rest = ended place rest
words_fault place (w ∷ ws) rest =
    on_word (Word place w) (λ f. if fits w f.0 then words_fault (suc place) ws f.1 else Some (Word place w)) (first_word rest)

-- behind a point: nothing more, or behind BREAK a condition
abbrev pub behind_point : Bool → Option (List ℕ × List ℕ) → Option LineFault
behind_point may None = None
behind_point true (Some w) = if same_word w.0 (codes "WHEN") then Some (Condition 6) else Some (Word 5 wanted.When)
behind_point false (Some w) = Some (Word 5 wanted.LineEnd)

-- STEP name, ACTION name, TRANSITION number or TRANSITION name
abbrev pub point_wanted : List ℕ → Wanted
point_wanted kind =
    if same_word kind (codes "STEP") then wanted.PointName else
    if same_word kind (codes "ACTION") then wanted.PointName else wanted.TransitionNumber

abbrev pub point_fault : Bool → List ℕ → List ℕ → Option LineFault
point_fault may kind rest =
    on_word (Word 4 wanted.PointName)
    (λ n. if fits (point_wanted kind) n.0 then behind_point may (first_word n.1) else Some (Word 4 wanted.TransitionNumber))
    (first_word rest)

abbrev pub kind_fault : Bool → List ℕ → Option LineFault
kind_fault may rest =
    on_word (Word 3 wanted.PointKind)
    (λ k. if is_point_kind k.0 then point_fault may k.0 k.1 else Some (Word 3 wanted.PointKind)) (first_word rest)

-- a program instance and one of its points; whether a condition may follow
abbrev pub place_fault : Bool → List ℕ → Option LineFault
place_fault may rest = on_word (Word 2 wanted.Program) (λ p. kind_fault may p.1) (first_word rest)

-- ---- lines

abbrev pub by_words : Option (List Wanted) → List ℕ → Option LineFault
by_words None rest = Some (Word 1 wanted.Command)
by_words (Some ws) rest = words_fault 2 ws rest

-- a word that begins a command, and what stands behind it
abbrev pub command_fault : List ℕ → List ℕ → Option LineFault
command_fault keyword rest =
    if same_word keyword (codes "BREAK") then place_fault true rest else
    if same_word keyword (codes "UNBREAK") then place_fault false rest else by_words (words_behind keyword) rest

-- what stands behind an instant
abbrev pub text_fault : List ℕ → Option LineFault
text_fault text = on_word (Word 1 wanted.Command) (λ c. command_fault c.0 c.1) (first_word text)

-- an instant and what stands behind it
abbrev pub instant_fault : List ℕ → List ℕ → Option LineFault
instant_fault word rest =
    if is_some (duration_value word) then text_fault rest else
    if begins_with_mark word then Some (Word 0 wanted.NoMark) else Some (Word 0 wanted.Instant)

abbrev pub fault_behind : Option (List ℕ × List ℕ) → Option LineFault
fault_behind None = None
fault_behind (Some w) = if begins_comment w.0 then None else instant_fault w.0 w.1

-- The first word of a line, counted from 0, that isn't what is wanted there, or the line's end in its place. Nothing is told
-- of a line that is skipped, or is a command without a condition; of a breakpoint with a condition that condition is told.
abbrev pub line_fault : List ℕ → Option LineFault
line_fault line = fault_behind (first_word line)

-- ---- what is told of what a line says

abbrev pub IsWord : Option LineFault → Type 0
IsWord fault = (place : ℕ) × (wanted : Wanted) × (fault ≡ Some (Word place wanted))

-- Nothing of a line that says nothing or a command; of a breakpoint with a condition the condition, which begins with the seventh
-- word; a word of one that is no command.
abbrev pub IsToldOf : Said → Option LineFault → Type 0
IsToldOf Nothing fault = fault ≡ None
IsToldOf (Plain command t) fault = fault ≡ None
IsToldOf (When conditional t) fault = fault ≡ Some (Condition 6)
IsToldOf Wrong fault = IsWord fault

-- ---- where the word that is told stands

-- what stands behind so many words of a line, where it has them
abbrev pub behind_words : ℕ → List ℕ → Option (List ℕ)
behind_words zero line = Some line
behind_words (suc n) line = option_and_then (λ w. behind_words n w.1) (first_word line)

-- whether the line may end there
abbrev pub may_end : Wanted → Bool
may_end wanted.When = true
may_end wanted.LineEnd = true
may_end _ = false

-- So many words stand in front, and behind them one that isn't what is wanted there, or the line ends, which it may not.
abbrev pub IsWrongAt : List ℕ → ℕ → Wanted → Type 0
IsWrongAt line place wanted = (rest : List ℕ) × (behind_words place line ≡ Some rest)
    × MatchOption (first_word rest) (may_end wanted ≡ false) (λ w. fits wanted w.0 ≡ false)
