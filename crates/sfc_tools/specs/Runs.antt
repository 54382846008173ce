-- What is read before `wave` and `cover` print something; what that is, the crates below say.
use Rattle.std.specs.Prelude.{ℕ, List, None}
use Rattle.sfc_plant.specs.Plants.{PlantData}
use Rattle.sfc_cover.specs.Unreached.{IsUnreachedOf}
use Rattle.sfc_cover.specs.declared.reach.Reach.{Reach}
use Rattle.sfc_tools.specs.Told.{Answer, AreRead, Tells, IsUntoldOfBoth, OrTooLarge}

-- the text is free, where both are read
abbrev pub TellsOfRun : List ℕ → List ℕ → Answer → Type 0
TellsOfRun chart script answer = Tells (λ text. AreRead chart script) (IsUntoldOfBoth chart script) answer

abbrev pub TellsWave : List ℕ → List ℕ → Answer → Type 0
TellsWave chart script answer = Tells (λ text. AreRead chart script) (OrTooLarge (IsUntoldOfBoth chart script)) answer

-- The text is a drawing of program instances with what was never reached of them marked, and nothing else. Of which plant, and how much was
-- reached, is free.
abbrev pub IsDrawingOfReached : List ℕ → Type 0
IsDrawingOfReached text = (plant : PlantData) × (reaches : List Reach) × IsUnreachedOf plant reaches None text

abbrev pub TellsReached : List ℕ → List ℕ → Answer → Type 0
TellsReached chart script answer =
    Tells (λ text. AreRead chart script × IsDrawingOfReached text) (OrTooLarge (IsUntoldOfBoth chart script)) answer
