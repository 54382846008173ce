-- A client of the Debug Adapter Protocol, from its first request to its last.
use Rattle.std.specs.Prelude.{◌≡◌, ℕ, List, [], ◌∷◌, ◌++◌, Option}
use Rattle.std.specs.List.{flat_map}
use Rattle.std.specs.Io.KnownBytes.{Appends, IsAtEnd}
use Rattle.sfc_frames.specs.Frames.{frame}
use Rattle.sfc_frames.specs.Serving.{BeginsKnown}
use Rattle.sfc_frames.specs.declared.serving.Flow.{Flow}
use Rattle.sfc_frames.specs.declared.serving.Flow.TheVariants.{GoesOn}
use Rattle.sfc_wire.specs.DapAnswered.{Answers}

-- What was told of these messages, of which the newest is the first, by the rules for one: a request has its one response, first. What is
-- told has the numbers from the first one on, up to the next one. After each message but the last more were taken.
abbrev pub AreAnswered : ℕ → List (List ℕ) → List (List ℕ) → Flow → ℕ → Type 0
AreAnswered number [] told flow next = (told ≡ []) × (flow ≡ GoesOn) × (next ≡ number)
AreAnswered number (message ∷ earlier) told flow next =
    (middle : ℕ) × (before : List (List ℕ)) × (last : List (List ℕ)) × (told ≡ before ++ last)
    × AreAnswered number earlier before GoesOn middle × Answers middle next message last flow

-- Messages with which the stream begins came, each was answered, with numbers from 1 on, and the frames of all that was told were written.
-- The client has left, or no more is to come.
pub record IsAnswered (stream left rest before after : Option (List ℕ)) : Type 0 where
  pub messages : List (List ℕ)
  pub told : List (List ℕ)
  pub flow : Flow
  pub next : ℕ
  pub begins : BeginsKnown stream messages left
  pub answers : AreAnswered 1 messages told flow next
  pub written : Appends before after (flat_map frame told)
  pub ends : flow ≡ GoesOn → IsAtEnd rest

-- the same, whatever is held of the stream; this is still to come
abbrev pub ServesEach : Option (List ℕ) → Option (List ℕ) → Option (List ℕ) → Option (List ℕ) → Type 0
ServesEach stream rest before after = (left : Option (List ℕ)) × IsAnswered stream left rest before after
