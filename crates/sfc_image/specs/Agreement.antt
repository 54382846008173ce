-- What an `Image` agrees with.
use Rattle.std.specs.Prelude.{ℕ, ◌≡◌, Bool, length}
use Rattle.sfc_plant.specs.Plants.{PlantData}
use Rattle.sfc_image.specs.declared.image.Image.{Image}
use Rattle.sfc_expr.specs.Environment.{Environment}
use Rattle.sfc_image.specs.declared.view.ImageView.{ImageView}
use Rattle.sfc_image.specs.Changes.{Changes}
use Rattle.sfc_image.specs.Environments.{moment_of}
use Rattle.sfc_image.specs.Private.Keeping.{SlotsAgree, shown_by}
use Rattle.sfc_image.specs.Private.OutputMemos.{MemosHold}

-- how many variables and instances it is for
abbrev pub variable_total : Image → ℕ
variable_total image = length image.slots.items

abbrev pub instance_total : Image → ℕ
instance_total image = length image.locals.items

-- how many variables were written since a transaction was opened, each counted once
abbrev pub written_total : Image → ℕ
written_total image = image.count

-- a transaction is open
abbrev pub is_open : Image → Bool
is_open image = image.is_trying

-- for as many variables and instances
pub record IsAsLarge (old new : Image) : Type 0 where
  pub variables : variable_total new ≡ variable_total old
  pub instances : instance_total new ≡ instance_total old

-- what it keeps is what was done, and what it knows of outputs holds
pub record Keeps (plant : PlantData) (image : Image) (changes : Changes) : Type 0 where
  pub slots : SlotsAgree plant image.slots.items image.locals.items image.count image.is_trying changes
  pub memos : MemosHold plant image.slots.items image.memos.items image.generation

-- after what was done all answers are those of the definitions
unfoldable pub ImageAgrees : PlantData → Image → Changes → Type 0
ImageAgrees plant image changes = Keeps plant image changes

-- what a view reads
unfoldable pub environment_in : ImageView → Environment
environment_in view = shown_by view.slots.now view.globals view.locals (moment_of view.steps view.q)
