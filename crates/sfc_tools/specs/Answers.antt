-- What a prompt answers to questions, behind the lines of a script.
use Rattle.std.specs.Prelude.{◌≡◌, ℕ, List, [], ◌∷◌, ◌++◌}
use Rattle.sfc_prompt.specs.declared.prompt.Prompt.{Prompt}
use Rattle.sfc_prompt.specs.Desks.{IsOpened}
use Rattle.sfc_prompt.specs.Walks.{IsAnswered}
use Rattle.sfc_replay.specs.sfc_script.Lines.{lines_of}
use Rattle.sfc_tools.specs.Told.{Answer, Tells, IsUntold}

-- The lines were obeyed one after the other, no step that one began was taken, and this was put for them.
abbrev pub AreAnswered : List (List ℕ) → Prompt → Prompt → List ℕ → Type 0
AreAnswered [] old new text = (new ≡ old) × (text ≡ [])
AreAnswered (line ∷ lines) old new text =
    (mid : Prompt) × (first : List ℕ) × (rest : List ℕ) × IsAnswered old mid line first × AreAnswered lines mid new rest × (text ≡ first ++ rest)

-- At a prompt that was opened on the chart, the lines of the script were obeyed, and then the questions, for which this was put.
pub record IsAsked (chart script questions text : List ℕ) : Type 0 where
  pub old : Prompt
  pub mid : Prompt
  pub new : Prompt
  pub said : List ℕ
  pub opened : IsOpened chart old
  pub script_obeyed : AreAnswered (lines_of script) old mid said
  pub answered : AreAnswered (lines_of questions) mid new text

abbrev pub TellsAnswers : List ℕ → List ℕ → List ℕ → Answer → Type 0
TellsAnswers chart script questions answer = Tells (IsAsked chart script questions) (IsUntold chart) answer
