-- What is cut off the bytes that are held.
use Rattle.std.specs.Prelude.{◌≡◌, ◌≢◌, ⊤, ℕ, List, Option, Some, None, Vec, Result, Ok, Err}
use Rattle.std.specs.Global.{Global}
use Rattle.sfc_frames.specs.Heads.{Whole, Short, first}
use Rattle.sfc_frames.specs.Streams.{Shows}
use Rattle.sfc_frames.specs.declared.frame_fault.FrameFault.{FrameFault}
use Rattle.sfc_frames.specs.declared.frame_fault.FrameFault.TheVariants as faults

-- nothing was cut off, and what is held shows the fault; the stream may go on
pub record IsRefused (old new : List ℕ) (fault : FrameFault) : Type 0 where
  pub same : new ≡ old
  pub shows : Shows new fault
  pub goes_on : fault ≢ faults.EndsWithin

-- the first message was cut off, or nothing
abbrev pub Cuts : List ℕ → List ℕ → Result (Option (Vec ℕ Global)) FrameFault → Type 0
Cuts old new (Ok (Some message)) = first old ≡ Whole message.items new
Cuts old new (Ok None) = (first old ≡ Short) × (new ≡ old)
Cuts old new (Err fault) = IsRefused old new fault

-- the fault is not one of the bytes
abbrev pub IsOutside : FrameFault → Type 0
IsOutside (faults.Malformed why) = ⊥
IsOutside faults.EndsWithin = ⊥
IsOutside faults.Read = ⊤
IsOutside faults.Memory = ⊤
