-- A client whose messages were answered one by one.
use Rattle.std.proofs.Common.{◌≡◌, ℕ, List, [], ◌∷◌, Option, Some, None, Result, Ok, ap, refl, ◌∙◌, subst}
use Rattle.std.specs.Io.KnownBytes.{IsAtEnd, prepend_known}
use Rattle.sfc_frames.specs.Serving.{BeginsKnown, IsServed, Talks}
use Rattle.sfc_frames.specs.declared.serving.Flow.{Flow}
use Rattle.sfc_frames.specs.declared.serving.ServeFault.{ServeFault}
use Rattle.sfc_frames.specs.declared.serving.Flow.TheVariants.{GoesOn}
use Rattle.sfc_wire.specs.RpcAnswered.{Answers}
use Rattle.sfc_lsp.specs.Serving.{AreAnswered, ServesEach}

-- by the rules for one, in whatever states
are_answered : {S : Type 0} (old : S) (messages told : List (List ℕ)) (flow : Flow) (new : S)
    → Talks {S = S} (λ old text told flow new. Answers text told flow) old messages told flow new → AreAnswered messages told flow
are_answered {S = S} old [] told flow new talks = (talks.0, talks.1)
are_answered {S = S} old (message ∷ earlier) told flow new talks =
    let (middle, before, last, is, earlier_talks, answers) = talks in
    (before, last, is, are_answered {S = S} old earlier before GoesOn middle earlier_talks, answers)

nothing_held : (known : Option (List ℕ)) → prepend_known [] known ≡ known
nothing_held None = refl
nothing_held (Some bytes) = refl

pub serves_each : {S : Type 0} (stream left rest before after : Option (List ℕ)) (old : S) (flow : Flow) (new : S) (held : List ℕ)
    (result : Result Flow ServeFault) → result ≡ Ok flow
    → IsServed {S = S} (λ old text told flow new. Answers text told flow) (prepend_known [] stream) left before after old flow new
    → (result ≡ Ok GoesOn → (held ≡ []) × IsAtEnd rest) → ServesEach stream rest before after
serves_each {S = S} stream left rest before after old flow new held result is served ends = (
  left,
  record {
    messages = served.messages;
    told = served.told;
    flow = flow;
    begins = subst (λ known. BeginsKnown known served.messages left) (nothing_held stream) served.begins;
    answers = are_answered {S = S} old served.messages served.told flow new served.talks;
    written = served.written;
    ends = λ e. (ends (is ∙ ap Ok e)).1;
  },
)
