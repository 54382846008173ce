-- What happened to a variable (2.4).
use Rattle.std.specs.Prelude.{ℕ, ◌==◌, Bool, false}
use Rattle.sfc_plant.specs.Plants.{PlantData}
use Rattle.sfc_image.specs.Changes.{Change, Stored, Forced, Released, Reset}
use Rattle.sfc_image.specs.Values.{is_local_of}

-- the change writes variable i
abbrev pub writes : PlantData → ℕ → Change → Bool
writes plant i (Stored id v) = id.0 == i
writes plant i (Forced id v) = false
writes plant i (Released id) = false
writes plant i (Reset instance) = is_local_of plant instance i

-- the change forces or releases variable i
abbrev pub turns : ℕ → Change → Bool
turns i (Stored id v) = false
turns i (Forced id v) = id.0 == i
turns i (Released id) = id.0 == i
turns i (Reset instance) = false
