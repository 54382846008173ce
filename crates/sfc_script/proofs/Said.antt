-- What the lines before the others said.
use Rattle.std.proofs.Common.{◌≡◌, ℕ, suc, ◌+◌, List, [], ◌∷◌, ◌++◌, length, Option, Some, None, Result, Ok, Err, refl, sym, ap, subst, ◌∙◌, append_assoc, length-append, add-one}
use Rattle.sfc_plant.specs.Plants.{PlantData}
use Rattle.sfc_script.specs.declared.script.Script.{Script}
use Rattle.sfc_script.specs.declared.script.ScriptError.{ScriptError}
use Rattle.sfc_script.specs.declared.script.ScriptError.TheVariants.{Faulty, Memory}
use Rattle.sfc_script.specs.Answers.{Tells, script_data}
use Rattle.sfc_script.specs.Commands.{Said}
use Rattle.sfc_script.specs.Lines.{lines_of}
use Rattle.sfc_script.specs.Scripts.{ScriptData, nothing_said, joined, LineReads, and_then, Continues, LinesRead}
use Rattle.sfc_script.specs.Private.Adding.{AddsLine}
use Rattle.sfc_script.specs.Private.Repeating.{Begins}

-- ---- scripts, one after the other

pub append_nothing : {X : Type 0} (xs : List X) → xs ++ [] ≡ xs
append_nothing [] = refl
append_nothing (x ∷ xs) = ap (λ ys. x ∷ ys) (append_nothing xs)

pub joined_nothing : (a : ScriptData) → joined a nothing_said ≡ a
joined_nothing a =
    ap (λ commands. let s : ScriptData = record { commands = commands; table = a.table ++ [] } in s) (append_nothing a.commands)
    ∙ ap (λ table. let s : ScriptData = record { commands = a.commands; table = table } in s) (append_nothing a.table)

joined_assoc : (a b c : ScriptData) → joined a (joined b c) ≡ joined (joined a b) c
joined_assoc a b c =
    ap (λ commands. let s : ScriptData = record { commands = commands; table = a.table ++ (b.table ++ c.table) } in s) (sym (append_assoc a.commands b.commands c.commands))
    ∙ ap (λ table. let s : ScriptData = record { commands = (a.commands ++ b.commands) ++ c.commands; table = table } in s) (sym (append_assoc a.table b.table c.table))

and_then_nothing : (outcome : Result ScriptData ℕ) → and_then nothing_said outcome ≡ outcome
and_then_nothing (Ok script) = refl
and_then_nothing (Err n) = refl

and_then_both : (a b : ScriptData) (outcome : Result ScriptData ℕ) → and_then a (and_then b outcome) ≡ and_then (joined a b) outcome
and_then_both a b (Ok script) = ap (λ s. Ok s) (joined_assoc a b script)
and_then_both a b (Err n) = refl

-- ---- line by line

-- what the lines from number n on say goes behind what was said
abbrev pub GoesOn : PlantData → List (List ℕ) → ℕ → Script → List (List ℕ) → Type 0
GoesOn plant all n script lines =
    (outcome : Result ScriptData ℕ) → LinesRead plant n (length script.conditions.items) lines outcome → LinesRead plant 1 0 all (and_then (script_data script) outcome)

-- before the first line
pub begun : (plant : PlantData) (all : List (List ℕ)) (script : Script) → script.commands.items ≡ [] → script.conditions.items ≡ [] → GoesOn plant all 1 script all
begun plant all script e f = λ outcome reads.
    let none : script_data script ≡ nothing_said = cc in
    subst (λ o. LinesRead plant 1 0 all o) (sym (ap (λ s. and_then s outcome) none ∙ and_then_nothing outcome))
    (subst (λ table. LinesRead plant 1 (length table) all outcome) f reads)

-- a line in front of others
line_first : (plant : PlantData) (n k : ℕ) (bytes rest : List ℕ) (line : Said) (said : Option ScriptData) (outcome : Result ScriptData ℕ)
    → Begins plant bytes line rest → LineReads plant k line said
    → Continues n k (λ j later. LinesRead plant (suc n) j (lines_of rest) later) said outcome → LinesRead plant n k (lines_of bytes) outcome
line_first plant n k bytes rest line said outcome b reads more =
    subst (λ lines. LinesRead plant n k lines outcome) (sym b.lines) (said, subst (λ l. LineReads plant k l said) (sym b.is) reads, more)

-- one line more
pub goes_on : (plant : PlantData) (all : List (List ℕ)) (n m : ℕ) (old new : Script) (bytes rest : List ℕ) (line : Said) → m ≡ n + 1
    → GoesOn plant all n old (lines_of bytes) → Begins plant bytes line rest → AddsLine plant line n old new (Ok tt) → GoesOn plant all m new (lines_of rest)
goes_on plant all n m old new bytes rest line next before b adds = λ outcome reads.
    let first = adds.2.0 in
    let k : length new.conditions.items ≡ length old.conditions.items + length first.table =
    ap (λ (s : ScriptData). length s.table) adds.2.2 ∙ length-append old.conditions.items first.table in
    let later : LinesRead plant (suc n) (length old.conditions.items + length first.table) (lines_of rest) outcome =
    subst (λ j. LinesRead plant (suc n) j (lines_of rest) outcome) k
    (subst (λ i. LinesRead plant i (length new.conditions.items) (lines_of rest) outcome) (next ∙ add-one n) reads) in
    let here : LinesRead plant n (length old.conditions.items) (lines_of bytes) (and_then first outcome) =
    line_first plant n (length old.conditions.items) bytes rest line (Some first) (and_then first outcome) b
    (subst (λ s. LineReads plant (length old.conditions.items) line s) adds.2.1 adds.1) (outcome, later, refl) in
    subst (λ o. LinesRead plant 1 0 all o)
    (and_then_both (script_data old) first outcome ∙ ap (λ s. and_then s outcome) (sym adds.2.2))
    (before (and_then first outcome) here)

-- a line that is no command
faulty : (plant : PlantData) (all : List (List ℕ)) (n m : ℕ) (old new : Script) (bytes rest : List ℕ) (line : Said)
    → GoesOn plant all n old (lines_of bytes) → Begins plant bytes line rest → AddsLine plant line n old new (Err (Faulty m))
    → LinesRead plant 1 0 all (Err m)
faulty plant all n m old new bytes rest line before b adds =
    subst (λ i. LinesRead plant 1 0 all (Err i)) (sym adds.2.0)
    (before (Err n) (line_first plant n (length old.conditions.items) bytes rest line None (Err n) b
    (subst (λ s. LineReads plant (length old.conditions.items) line s) adds.2.1 adds.1) refl))

pub refused : (plant : PlantData) (all : List (List ℕ)) (n : ℕ) (old new : Script) (bytes rest : List ℕ) (line : Said) (error : ScriptError)
    → GoesOn plant all n old (lines_of bytes) → Begins plant bytes line rest → AddsLine plant line n old new (Err error)
    → Tells (λ outcome. LinesRead plant 1 0 all outcome) (Err error)
refused plant all n old new bytes rest line (Faulty m) before b adds = faulty plant all n m old new bytes rest line before b adds
refused plant all n old new bytes rest line Memory before b adds = tt

-- behind the last line
pub ended : (plant : PlantData) (all : List (List ℕ)) (n : ℕ) (script : Script) (bytes : List ℕ) → GoesOn plant all n script (lines_of bytes) → bytes ≡ []
    → LinesRead plant 1 0 all (Ok (script_data script))
ended plant all n script bytes before none =
    subst (λ s. LinesRead plant 1 0 all (Ok s)) (joined_nothing (script_data script))
    (before (Ok nothing_said) (subst (λ b. LinesRead plant n (length script.conditions.items) (lines_of b) (Ok nothing_said)) (sym none) refl))
