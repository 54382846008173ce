-- A client, message by message.
use Rattle.std.proofs.Common.{ℕ, List, [], ◌∷◌, ◌++◌, Option, Some, None, refl, sym, ap, subst, ◌∙◌}
use Rattle.std.specs.Prelude.{Vec}
use Rattle.std.specs.Global.{Global}
use Rattle.std.specs.List.{flat_map}
use Rattle.std.specs.Io.KnownBytes.{Appends}
use Rattle.sfc_base.proofs.Written.{Appends-more, Appends-none}
use Rattle.sfc_frames.specs.Frames.{frame}
use Rattle.sfc_frames.specs.Serving.{BeginsKnown, IsServed, IsTold, StopsBy}
use Rattle.sfc_frames.specs.Private.Answers.{IsOfAnswer}
use Rattle.sfc_frames.specs.Streams.{Takes}
use Rattle.sfc_frames.specs.declared.serving.Flow.{Flow}
use Rattle.sfc_frames.specs.declared.serving.Flow.TheVariants.{GoesOn}
use Rattle.sfc_frames.specs.declared.serving.ServeFault.{ServeFault}
use Rattle.sfc_frames.specs.declared.serving.ServeFault.TheVariants as faults
use Rattle.sfc_frames.proofs.Sending.{flat_map-frames}

begins_none : (stream : Option (List ℕ)) → BeginsKnown stream [] stream
begins_none None = tt
begins_none (Some bytes) = refl

pub served_none : {S : Type 0} (Tells : S → List ℕ → List (List ℕ) → Flow → S → Type 0) (stream written : Option (List ℕ)) (s : S)
    → IsServed Tells stream stream written written s GoesOn s
served_none Tells stream written s = record { messages = []; told = []; begins = begins_none stream; talks = (refl, refl, refl); written = Appends-none written }

-- a message more
begins_more : (stream left later : Option (List ℕ)) (messages : List (List ℕ)) (message : Vec ℕ Global) → BeginsKnown stream messages left
    → Takes left later (Some message) → BeginsKnown stream (message.items ∷ messages) later
begins_more None left later messages message b t = tt
begins_more (Some bytes) None later messages message b t = absurd b
begins_more (Some bytes) (Some rest) later messages message b t =
    subst (λ (o : Option (List ℕ)). BeginsKnown (Some bytes) (message.items ∷ messages) o) (sym t.2) (rest, b, t.1)

pub served_more : {S : Type 0} (Tells : S → List ℕ → List (List ℕ) → Flow → S → Type 0) (stream left later before middle after : Option (List ℕ))
    (old mid : S) (flow : Flow) (new : S) (message : Vec ℕ Global) → IsServed Tells stream left before middle old GoesOn mid → Takes left later (Some message)
    → IsTold middle after (λ told. Tells mid message.items told flow new) → IsServed Tells stream later before after old flow new
served_more Tells stream left later before middle after old mid flow new message s t told = record {
  messages = message.items ∷ s.messages;
  told = s.told ++ told.0;
  begins = begins_more stream left later s.messages message s.begins t;
  talks = (mid, s.told, told.0, refl, s.talks, told.2);
  written = subst (λ (x : List ℕ). Appends before after x) (sym (flat_map-frames s.told told.0))
      (Appends-more before middle after (flat_map frame s.told) (flat_map frame told.0) s.written told.1);
}

-- the stream has come to its end
begins_all : (stream left later : Option (List ℕ)) (messages : List (List ℕ)) → BeginsKnown stream messages left → Takes left later None → BeginsKnown stream messages later
begins_all None left later messages b t = tt
begins_all (Some bytes) None later messages b t = absurd b
begins_all (Some bytes) (Some rest) later messages b t =
    subst (λ (o : Option (List ℕ)). BeginsKnown (Some bytes) messages o) (ap (λ r. Some r) t.0 ∙ sym t.1) b

pub served_all : {S : Type 0} (Tells : S → List ℕ → List (List ℕ) → Flow → S → Type 0) (stream left later before after : Option (List ℕ)) (old new : S)
    → IsServed Tells stream left before after old GoesOn new → Takes left later None → IsServed Tells stream later before after old GoesOn new
served_all Tells stream left later before after old new s t = record {
  messages = s.messages;
  told = s.told;
  begins = begins_all stream left later s.messages s.begins t;
  talks = s.talks;
  written = s.written;
}

pub stops_answering : (held : List ℕ) (fault : ServeFault) → IsOfAnswer fault → StopsBy held fault
stops_answering held (faults.Frame fault) h = absurd h
stops_answering held (faults.Put fault) h = tt
stops_answering held faults.Memory h = tt
