-- What is taken from a reader.
use Rattle.std.specs.Prelude.{◌≡◌, ℕ, ◌≤◌, List, length, take, Option, Some, None, ⊤}
use Rattle.std.specs.Io.KnownBytes.{Consumes, Keeps}
use Rattle.sfc_replay.specs.declared.replay_error.ReplayError.{ReplayError}
use Rattle.sfc_replay.specs.declared.replay_error.ReplayError.TheVariants.{Read}

-- What is known of a device before and after a call: the bytes that a reader has left, or those that a writer holds.
abbrev pub Device : Type 0
Device = Option (List ℕ) × Option (List ℕ)

-- nothing was taken from it, or written to it
abbrev pub IsUntouched : Device → Type 0
IsUntouched device = Keeps device.0 device.1

-- of the bytes that are known, the first n, or all if there are fewer
abbrev pub IsFront : ℕ → Option (List ℕ) → List ℕ → Type 0
IsFront n None bytes = ⊤
IsFront n (Some all) bytes = bytes ≡ take n all

-- these are a reader's first n bytes, or all if there are fewer, and it lost these and no more
abbrev pub TakesAtMost : ℕ → Device → List ℕ → Type 0
TakesAtMost n reader bytes = IsFront n reader.0 bytes × Consumes reader.0 reader.1 bytes

-- a reader lost bytes from its front, n at most
abbrev pub LosesAtMost : ℕ → Device → Type 0
LosesAtMost n reader = (bytes : List ℕ) × (length bytes ≤ n) × Consumes reader.0 reader.1 bytes

-- a reader that failed lost nothing; where memory was refused, it lost bytes from its front, n at most
abbrev pub LosesFor : ReplayError → ℕ → Device → Type 0
LosesFor Read n reader = IsUntouched reader
LosesFor error n reader = LosesAtMost n reader
