-- The reserved words (2.1.3).
use Rattle.std.specs.Prelude.{ℕ, List, [], ◌∷◌, if◌then◌else◌, Option, Some, None, codes}
use Rattle.sfc_base.specs.declared.keyword.Keyword.{Keyword}
use Rattle.sfc_base.specs.declared.keyword.Keyword.TheVariants as keyword
use Rattle.sfc_base.specs.Case.{same_word}

-- each reserved word, and what it stands for
abbrev pub reserved_words : List (List ℕ × Keyword)
reserved_words =
    (codes "ACTION", keyword.Action) ∷
    (codes "AND", keyword.And) ∷
    (codes "AT", keyword.At) ∷
    (codes "BOOL", keyword.Bool) ∷
    (codes "CONFIGURATION", keyword.Configuration) ∷
    (codes "DINT", keyword.Dint) ∷
    (codes "ELSE", keyword.Else) ∷
    (codes "ELSIF", keyword.Elsif) ∷
    (codes "END_ACTION", keyword.EndAction) ∷
    (codes "END_CONFIGURATION", keyword.EndConfiguration) ∷
    (codes "END_IF", keyword.EndIf) ∷
    (codes "END_PROGRAM", keyword.EndProgram) ∷
    (codes "END_RESOURCE", keyword.EndResource) ∷
    (codes "END_STEP", keyword.EndStep) ∷
    (codes "END_TRANSITION", keyword.EndTransition) ∷
    (codes "END_VAR", keyword.EndVar) ∷
    (codes "FALSE", keyword.False) ∷
    (codes "FROM", keyword.From) ∷
    (codes "IF", keyword.If) ∷
    (codes "INITIAL_STEP", keyword.InitialStep) ∷
    (codes "INT", keyword.Int) ∷
    (codes "MOD", keyword.Mod) ∷
    (codes "NOT", keyword.Not) ∷
    (codes "ON", keyword.On) ∷
    (codes "OR", keyword.Or) ∷
    (codes "PROGRAM", keyword.Program) ∷
    (codes "RESOURCE", keyword.Resource) ∷
    (codes "STEP", keyword.Step) ∷
    (codes "TASK", keyword.Task) ∷
    (codes "THEN", keyword.Then) ∷
    (codes "TIME", keyword.Time) ∷
    (codes "TO", keyword.To) ∷
    (codes "TRANSITION", keyword.Transition) ∷
    (codes "TRUE", keyword.True) ∷
    (codes "VAR", keyword.Var) ∷
    (codes "VAR_EXTERNAL", keyword.VarExternal) ∷
    (codes "VAR_GLOBAL", keyword.VarGlobal) ∷
    (codes "WITH", keyword.With) ∷
    (codes "XOR", keyword.Xor) ∷
    []

-- what the first of these words stands for that is the word w but for case
abbrev pub look_up : List (List ℕ × Keyword) → List ℕ → Option Keyword
look_up [] w = None
look_up (entry ∷ entries) w = if same_word w entry.0 then Some entry.1 else look_up entries w

-- the reserved word that a word is
unfoldable pub keyword_of : List ℕ → Option Keyword
keyword_of w = look_up reserved_words w
