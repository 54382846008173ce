-- What a call tells of texts: another text, or why there is none.
use Rattle.std.specs.Prelude.{ℕ, List, take, Vec, Result, Ok, Err, ⊤}
use Rattle.std.specs.Global.{Global}
use Rattle.sfc_plant.specs.Plants.{PlantData}
use Rattle.sfc_replay.specs.sfc_load.Accepted.{IsAccepted}
use Rattle.sfc_replay.specs.sfc_script.Scripts.{ScriptData, ScriptReads}
use Rattle.sfc_replay.specs.Acceptance.{IsRefusedFor, most}
use Rattle.sfc_replay.specs.Opening.{IsScriptRefused}
use Rattle.sfc_replay.specs.declared.replay_error.ReplayError.TheVariants.{Chart, Script, Memory}
use Rattle.sfc_tools.specs.declared.tool_error.ToolError.{ToolError}
use Rattle.sfc_tools.specs.declared.tool_error.ToolError.TheVariants.{Replay, TooLarge}

-- what a call answers
abbrev pub Answer : Type 0
Answer = Result (Vec ℕ Global) ToolError

-- a text of which this holds, or an error of which that holds
abbrev pub Tells : (List ℕ → Type 0) → (ToolError → Type 0) → Answer → Type 0
Tells Text Untold (Ok text) = Text text.items
Tells Text Untold (Err error) = Untold error

-- So much is read of a text; a longer one is refused for its length.
abbrev pub read_of : List ℕ → List ℕ
read_of text = take most text

-- ---- why there is no text; want of memory says nothing

-- memory was refused
abbrev pub IsForWant : ToolError → Type 0
IsForWant (Replay Memory) = ⊤
IsForWant _ = ⊥

-- the chart is refused for this
abbrev pub IsUntold : List ℕ → ToolError → Type 0
IsUntold chart (Replay (Chart error)) = IsRefusedFor chart error
IsUntold chart (Replay Memory) = ⊤
IsUntold chart _ = ⊥

-- so is it, or the chart is a plant over which the script has this faulty line
abbrev pub IsUntoldOfBoth : List ℕ → List ℕ → ToolError → Type 0
IsUntoldOfBoth chart script (Replay (Chart error)) = IsRefusedFor chart error
IsUntoldOfBoth chart script (Replay (Script line)) = IsScriptRefused chart script line
IsUntoldOfBoth chart script (Replay Memory) = ⊤
IsUntoldOfBoth chart script _ = ⊥

-- so it is; or the text would be too large, which says nothing
abbrev pub OrTooLarge : (ToolError → Type 0) → ToolError → Type 0
OrTooLarge Untold TooLarge = ⊤
OrTooLarge Untold (Replay error) = Untold (Replay error)

-- ---- what is read

-- the chart is a plant, over which the script is one
pub record AreRead (chart script : List ℕ) : Type 0 where
  pub plant : PlantData
  pub loaded : IsAccepted chart plant
  pub said : ScriptData
  pub parsed : ScriptReads plant script (Ok said)
