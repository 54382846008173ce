-- A client of the Language Server Protocol, from its first message to its last.
use Rattle.std.specs.Prelude.{◌≡◌, ℕ, List, [], ◌∷◌, ◌++◌, Option}
use Rattle.std.specs.List.{flat_map}
use Rattle.std.specs.Io.KnownBytes.{Appends, IsAtEnd}
use Rattle.sfc_frames.specs.Frames.{frame}
use Rattle.sfc_frames.specs.Serving.{BeginsKnown}
use Rattle.sfc_frames.specs.declared.serving.Flow.{Flow}
use Rattle.sfc_frames.specs.declared.serving.Flow.TheVariants.{GoesOn}
use Rattle.sfc_wire.specs.RpcAnswered.{Answers}

-- What was told of these messages, of which the newest is the first, by the rules for one: a request has its one response. After each but
-- the last more were taken.
abbrev pub AreAnswered : List (List ℕ) → List (List ℕ) → Flow → Type 0
AreAnswered [] told flow = (told ≡ []) × (flow ≡ GoesOn)
AreAnswered (message ∷ earlier) told flow =
    (before : List (List ℕ)) × (last : List (List ℕ)) × (told ≡ before ++ last)
    × AreAnswered earlier before GoesOn × Answers message last flow

-- Messages with which the stream begins came, each was answered, and the frames of all that was told were written. The client has left, or
-- no more is to come.
pub record IsAnswered (stream left rest before after : Option (List ℕ)) : Type 0 where
  pub messages : List (List ℕ)
  pub told : List (List ℕ)
  pub flow : Flow
  pub begins : BeginsKnown stream messages left
  pub answers : AreAnswered messages told flow
  pub written : Appends before after (flat_map frame told)
  pub ends : flow ≡ GoesOn → IsAtEnd rest

-- the same, whatever is held of the stream; this is still to come
abbrev pub ServesEach : Option (List ℕ) → Option (List ℕ) → Option (List ℕ) → Option (List ℕ) → Type 0
ServesEach stream rest before after = (left : Option (List ℕ)) × IsAnswered stream left rest before after
