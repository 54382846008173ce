-- A client, from its first message to its last. Lists of messages have the newest one first.
use Rattle.std.specs.Prelude.{◌≡◌, ⊤, ℕ, List, [], ◌∷◌, ◌++◌, Option, Some, None}
use Rattle.std.specs.List.{flat_map}
use Rattle.std.specs.Io.KnownBytes.{Appends}
use Rattle.sfc_frames.specs.Frames.{frame}
use Rattle.sfc_frames.specs.Heads.{Whole, first}
use Rattle.sfc_frames.specs.Streams.{Shows}
use Rattle.sfc_frames.specs.declared.serving.Flow.{Flow}
use Rattle.sfc_frames.specs.declared.serving.Flow.TheVariants.{GoesOn}
use Rattle.sfc_frames.specs.declared.serving.ServeFault.{ServeFault}
use Rattle.sfc_frames.specs.declared.serving.ServeFault.TheVariants as faults

-- such messages were put behind others
abbrev pub Puts : List (List ℕ) → List (List ℕ) → (List (List ℕ) → Type 0) → Type 0
Puts before behind IsSuch = (told : List (List ℕ)) × (behind ≡ before ++ told) × IsSuch told

-- the frames of such messages were written
abbrev pub IsTold : Option (List ℕ) → Option (List ℕ) → (List (List ℕ) → Type 0) → Type 0
IsTold before after IsSuch = (told : List (List ℕ)) × Appends before after (flat_map frame told) × IsSuch told

-- a stream begins with the frames of these messages, behind which this is left
abbrev pub Begins : List ℕ → List (List ℕ) → List ℕ → Type 0
Begins stream [] left = left ≡ stream
Begins stream (message ∷ earlier) left = (before : List ℕ) × Begins stream earlier before × (first before ≡ Whole message left)

-- the same of a stream whose bytes are known
abbrev pub BeginsKnown : Option (List ℕ) → List (List ℕ) → Option (List ℕ) → Type 0
BeginsKnown None messages left = ⊤
BeginsKnown (Some stream) messages None = ⊥
BeginsKnown (Some stream) messages (Some left) = Begins stream messages left

-- What was told of these messages, one after the other, by what answers so, from how it was before the first to how it is
-- behind the last. After each but the last more were taken.
abbrev pub Talks : {S : Type 0} → (S → List ℕ → List (List ℕ) → Flow → S → Type 0) → S → List (List ℕ) → List (List ℕ) → Flow → S → Type 0
Talks {S} Tells old [] told flow new = (told ≡ []) × (flow ≡ GoesOn) × (new ≡ old)
Talks {S} Tells old (message ∷ earlier) told flow new =
    (middle : S) × (before : List (List ℕ)) × (last : List (List ℕ)) × (told ≡ before ++ last) × Talks Tells old earlier before GoesOn middle × Tells middle message last flow new

-- Messages with which the stream begins came, each was answered, and the frames of all that was told were written.
pub record IsServed {S : Type 0} (Tells : S → List ℕ → List (List ℕ) → Flow → S → Type 0) (stream left before after : Option (List ℕ)) (old : S) (flow : Flow) (new : S) : Type 0 where
  pub messages : List (List ℕ)
  pub told : List (List ℕ)
  pub begins : BeginsKnown stream messages left
  pub talks : Talks Tells old messages told flow new
  pub written : Appends before after (flat_map frame told)

-- what is held shows why no message could be read
abbrev pub StopsBy : List ℕ → ServeFault → Type 0
StopsBy held (faults.Frame fault) = Shows held fault
StopsBy held (faults.Put fault) = ⊤
StopsBy held faults.Memory = ⊤
