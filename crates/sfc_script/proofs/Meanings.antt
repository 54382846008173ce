-- A script says one thing.
use Rattle.std.proofs.Common.{◌≡◌, ℕ, suc, ◌+◌, nat_lt, Bool, true, false, MatchBool, List, [], ◌∷◌, length, Option, Some, None, Result, Ok, Err, refl, sym, ap, subst, ◌∙◌}
use Rattle.sfc_base.specs.declared.ids.ProgId.{ProgId}
use Rattle.sfc_plant.specs.Plants.{PlantData}
use Rattle.sfc_events.specs.ReadErrors.{Read}
use Rattle.sfc_text.specs.Reads.{AreOne}
use Rattle.sfc_text.specs.Trees.{Tree}
use Rattle.sfc_text.specs.Grammar.{expression}
use Rattle.sfc_text.proofs.Fine.{expression_fine}
use Rattle.sfc_text.proofs.Readings.{one, some}
use Rattle.sfc_debug.specs.declared.break_condition.BreakCondition.{BreakCondition}
use Rattle.sfc_script.specs.Commands.{Said, Nothing, Plain, When, Wrong, said_of}
use Rattle.sfc_script.specs.Lines.{lines_of}
use Rattle.sfc_script.specs.Scripts.{ScriptData, nothing_said, ConditionReads, LineReads, Continues, LinesRead, ScriptReads, added_of, in_table, and_then}

-- ---- one meaning

-- two outcomes of a text that may both be told add the same
same_added : (plant : PlantData) (k : ℕ) (p : ProgId) (r s : Read Tree) → AreOne r s → added_of plant k p r ≡ added_of plant k p s
same_added plant k p (Ok t) (Ok u) e = ap (λ tree. added_of plant k p (Ok tree)) e
same_added plant k p (Ok t) (Err j) e = absurd e
same_added plant k p (Err j) (Ok t) e = absurd e
same_added plant k p (Err i) (Err j) e = refl

one_condition : (plant : PlantData) (k : ℕ) (p : ProgId) (text : List ℕ) (a b : Option (List BreakCondition))
    → ConditionReads plant k p text a → ConditionReads plant k p text b → a ≡ b
one_condition plant k p text a b x y = x.2 ∙ same_added plant k p x.0 y.0 (one expression expression_fine text x.0 y.0 x.1 y.1) ∙ sym y.2

one_line : (plant : PlantData) (k : ℕ) (line : Said) (a b : Option ScriptData) → LineReads plant k line a → LineReads plant k line b → a ≡ b
one_line plant k Nothing a b x y = x ∙ sym y
one_line plant k (Plain command t) a b x y = x ∙ sym y
one_line plant k (When c t) a b x y = x.2 ∙ ap (in_table k c t) (one_condition plant k c.place.program c.text x.0 y.0 x.1 y.1) ∙ sym y.2
one_line plant k Wrong a b x y = x ∙ sym y

-- what may follow is one thing, where what stands behind is
one_rest : (n k : ℕ) (Behind : ℕ → Result ScriptData ℕ → Type 0) (said : Option ScriptData) (a b : Result ScriptData ℕ)
    → ((j : ℕ) (c d : Result ScriptData ℕ) → Behind j c → Behind j d → c ≡ d)
    → Continues n k Behind said a → Continues n k Behind said b → a ≡ b
one_rest n k Behind None a b same x y = x ∙ sym y
one_rest n k Behind (Some first) a b same x y =
    x.2 ∙ ap (and_then first) (same (k + length first.table) x.0 y.0 x.1 y.1) ∙ sym y.2

one_of_lines : (plant : PlantData) (n k : ℕ) (lines : List (List ℕ)) (a b : Result ScriptData ℕ) → LinesRead plant n k lines a → LinesRead plant n k lines b → a ≡ b
one_of_lines plant n k [] a b x y = x ∙ sym y
one_of_lines plant n k (line ∷ lines) a b x y =
    one_rest n k (λ j later. LinesRead plant (suc n) j lines later) x.0 a b (λ j c d. one_of_lines plant (suc n) j lines c d) x.2
    (subst (λ said. Continues n k (λ j later. LinesRead plant (suc n) j lines later) said b)
    (one_line plant k (said_of plant line) y.0 x.0 y.1 x.1) y.2)

pub one_script : (plant : PlantData) (bytes : List ℕ) (a b : Result ScriptData ℕ) → ScriptReads plant bytes a → ScriptReads plant bytes b → a ≡ b
one_script plant bytes a b = by (nat_lt 1048576 (length bytes))
  where
    by : (t : Bool) → MatchBool t (a ≡ Err 0) (LinesRead plant 1 0 (lines_of bytes) a) → MatchBool t (b ≡ Err 0) (LinesRead plant 1 0 (lines_of bytes) b) → a ≡ b
    by true x y = x ∙ sym y
    by false x y = one_of_lines plant 1 0 (lines_of bytes) a b x y

-- ---- some meaning

some_condition : (plant : PlantData) (k : ℕ) (p : ProgId) (text : List ℕ) → (a : Option (List BreakCondition)) × ConditionReads plant k p text a
some_condition plant k p text =
    let read = some expression expression_fine text in
    (added_of plant k p read.0, (read.0, read.1, refl))

some_line : (plant : PlantData) (k : ℕ) (line : Said) → (a : Option ScriptData) × LineReads plant k line a
some_line plant k Nothing = (Some nothing_said, refl)
some_line plant k (Plain command t) = (Some (record { commands = (command, t) ∷ []; table = [] }), refl)
some_line plant k (When c t) =
    let read = some_condition plant k c.place.program c.text in
    (in_table k c t read.0, (read.0, read.1, refl))
some_line plant k Wrong = (None, refl)

some_rest : (n k : ℕ) (Behind : ℕ → Result ScriptData ℕ → Type 0) (said : Option ScriptData) → ((j : ℕ) → (a : Result ScriptData ℕ) × Behind j a)
    → (a : Result ScriptData ℕ) × Continues n k Behind said a
some_rest n k Behind None later = (Err n, refl)
some_rest n k Behind (Some first) later =
    let rest = later (k + length first.table) in
    (and_then first rest.0, (rest.0, rest.1, refl))

some_of_lines : (plant : PlantData) (n k : ℕ) (lines : List (List ℕ)) → (a : Result ScriptData ℕ) × LinesRead plant n k lines a
some_of_lines plant n k [] = (Ok nothing_said, refl)
some_of_lines plant n k (line ∷ lines) =
    let said = some_line plant k (said_of plant line) in
    let more = some_rest n k (λ j later. LinesRead plant (suc n) j lines later) said.0 (λ j. some_of_lines plant (suc n) j lines) in
    (more.0, (said.0, said.1, more.1))

pub some_script : (plant : PlantData) (bytes : List ℕ) → (a : Result ScriptData ℕ) × ScriptReads plant bytes a
some_script plant bytes = by (nat_lt 1048576 (length bytes))
  where
    by : (t : Bool) → (a : Result ScriptData ℕ) × MatchBool t (a ≡ Err 0) (LinesRead plant 1 0 (lines_of bytes) a)
    by true = (Err 0, refl)
    by false = some_of_lines plant 1 0 (lines_of bytes)
