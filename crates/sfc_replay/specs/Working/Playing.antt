-- Playing a script on a debugger: lines that wait in a buffer, and are written once there are many.
use Rattle.std.specs.Prelude.{◌≡◌, ℕ, List, ◌++◌, Option, Result, Ok, Err}
use Rattle.std.specs.Io.KnownBytes.{Appends}
use Rattle.sfc_base.specs.Writing.{AppendsFront}

-- of the text the first bytes were written, and these wait; or a fault came behind a front of it
abbrev pub PassesOn : {X E : Type 0} → Option (List ℕ) → Option (List ℕ) → List ℕ → List ℕ → Result X E → Type 0
PassesOn old new text waits (Ok x) = (done : List ℕ) × (text ≡ done ++ waits) × Appends old new done
PassesOn old new text waits (Err e) = AppendsFront old new text
