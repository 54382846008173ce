-- Messages of a stream, of which some bytes are held and others are still to come.
use Rattle.std.specs.Prelude.{◌≡◌, ◌≢◌, ⊤, ℕ, List, [], Option, Some, None, Vec}
use Rattle.std.specs.Global.{Global}
use Rattle.sfc_frames.specs.Heads.{Whole, Short, Wrong, first}
use Rattle.sfc_frames.specs.declared.frame_fault.FrameFault.{FrameFault}
use Rattle.sfc_frames.specs.declared.frame_fault.FrameFault.TheVariants as faults

-- What is taken of a stream whose bytes are known: its first message, and the rest is left; nothing, where it has come to its
-- end.
abbrev pub Takes : Option (List ℕ) → Option (List ℕ) → Option (Vec ℕ Global) → Type 0
Takes None after found = ⊤
Takes (Some stream) after (Some message) = (rest : List ℕ) × (first stream ≡ Whole message.items rest) × (after ≡ Some rest)
Takes (Some stream) after None = (stream ≡ []) × (after ≡ Some [])

-- What is held after a fault shows it: no frame begins so; some bytes of one, behind which no more came.
abbrev pub Shows : List ℕ → FrameFault → Type 0
Shows held (faults.Malformed why) = first held ≡ Wrong why
Shows held faults.EndsWithin = (held ≢ []) × (first held ≡ Short)
Shows held faults.Read = ⊤
Shows held faults.Memory = ⊤
