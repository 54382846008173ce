-- The reserved words in parts, each small enough for one function of the code.
use Rattle.std.specs.Prelude.{ℕ, List, [], ◌∷◌, Option, Some, None, codes}
use Rattle.sfc_base.specs.declared.keyword.Keyword.{Keyword}
use Rattle.sfc_base.specs.declared.keyword.Keyword.TheVariants as keyword
use Rattle.sfc_base.specs.Words.{look_up}

unfoldable pub action_to_else : List (List ℕ × Keyword)
action_to_else =
    (codes "ACTION", keyword.Action) ∷
    (codes "AND", keyword.And) ∷
    (codes "AT", keyword.At) ∷
    (codes "BOOL", keyword.Bool) ∷
    (codes "CONFIGURATION", keyword.Configuration) ∷
    (codes "DINT", keyword.Dint) ∷
    (codes "ELSE", keyword.Else) ∷
    []

unfoldable pub elsif_to_end_step : List (List ℕ × Keyword)
elsif_to_end_step =
    (codes "ELSIF", keyword.Elsif) ∷
    (codes "END_ACTION", keyword.EndAction) ∷
    (codes "END_CONFIGURATION", keyword.EndConfiguration) ∷
    (codes "END_IF", keyword.EndIf) ∷
    (codes "END_PROGRAM", keyword.EndProgram) ∷
    (codes "END_RESOURCE", keyword.EndResource) ∷
    (codes "END_STEP", keyword.EndStep) ∷
    []

unfoldable pub end_transition_to_int : List (List ℕ × Keyword)
end_transition_to_int =
    (codes "END_TRANSITION", keyword.EndTransition) ∷
    (codes "END_VAR", keyword.EndVar) ∷
    (codes "FALSE", keyword.False) ∷
    (codes "FROM", keyword.From) ∷
    (codes "IF", keyword.If) ∷
    (codes "INITIAL_STEP", keyword.InitialStep) ∷
    (codes "INT", keyword.Int) ∷
    []

unfoldable pub mod_to_step : List (List ℕ × Keyword)
mod_to_step =
    (codes "MOD", keyword.Mod) ∷
    (codes "NOT", keyword.Not) ∷
    (codes "ON", keyword.On) ∷
    (codes "OR", keyword.Or) ∷
    (codes "PROGRAM", keyword.Program) ∷
    (codes "RESOURCE", keyword.Resource) ∷
    (codes "STEP", keyword.Step) ∷
    []

unfoldable pub task_to_var : List (List ℕ × Keyword)
task_to_var =
    (codes "TASK", keyword.Task) ∷
    (codes "THEN", keyword.Then) ∷
    (codes "TIME", keyword.Time) ∷
    (codes "TO", keyword.To) ∷
    (codes "TRANSITION", keyword.Transition) ∷
    (codes "TRUE", keyword.True) ∷
    (codes "VAR", keyword.Var) ∷
    []

unfoldable pub var_external_to_xor : List (List ℕ × Keyword)
var_external_to_xor =
    (codes "VAR_EXTERNAL", keyword.VarExternal) ∷
    (codes "VAR_GLOBAL", keyword.VarGlobal) ∷
    (codes "WITH", keyword.With) ∷
    (codes "XOR", keyword.Xor) ∷
    []

abbrev pub or_else : Option Keyword → Option Keyword → Option Keyword
or_else (Some k) other = Some k
or_else None other = other

-- one part after the other
unfoldable pub in_parts : List ℕ → Option Keyword
in_parts w =
    or_else (look_up action_to_else w)
    (or_else (look_up elsif_to_end_step w)
    (or_else (look_up end_transition_to_int w)
    (or_else (look_up mod_to_step w)
    (or_else (look_up task_to_var w) (look_up var_external_to_xor w)))))
