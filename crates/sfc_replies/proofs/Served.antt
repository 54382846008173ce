-- A client whose messages were answered one by one.
use Rattle.std.proofs.Common.{◌≡◌, ℕ, List, [], ◌∷◌, Option, Some, None, Result, Ok, ap, refl, ◌∙◌, subst}
use Rattle.std.specs.Io.KnownBytes.{IsAtEnd, prepend_known}
use Rattle.sfc_frames.specs.Serving.{BeginsKnown, IsServed, Talks}
use Rattle.sfc_frames.specs.declared.serving.Flow.{Flow}
use Rattle.sfc_frames.specs.declared.serving.ServeFault.{ServeFault}
use Rattle.sfc_frames.specs.declared.serving.Flow.TheVariants.{GoesOn}
use Rattle.sfc_wire.specs.DapAnswered.{Answers}
use Rattle.sfc_replies.specs.Serving.{AreAnswered, ServesEach}

-- by the rules for one
are_answered : (old : ℕ) (messages told : List (List ℕ)) (flow : Flow) (new : ℕ)
    → Talks {S = ℕ} (λ old text told flow new. Answers old new text told flow) old messages told flow new → AreAnswered old messages told flow new
are_answered old [] told flow new talks = talks
are_answered old (message ∷ earlier) told flow new talks =
    let (middle, before, last, is, earlier_talks, answers) = talks in
    (middle, before, last, is, are_answered old earlier before GoesOn middle earlier_talks, answers)

nothing_held : (known : Option (List ℕ)) → prepend_known [] known ≡ known
nothing_held None = refl
nothing_held (Some bytes) = refl

pub serves_each : (stream left rest before after : Option (List ℕ)) (old : ℕ) (flow : Flow) (new : ℕ) (held : List ℕ)
    (result : Result Flow ServeFault) → old ≡ 1 → result ≡ Ok flow
    → IsServed {S = ℕ} (λ old text told flow new. Answers old new text told flow) (prepend_known [] stream) left before after old flow new
    → (result ≡ Ok GoesOn → (held ≡ []) × IsAtEnd rest) → ServesEach stream rest before after
serves_each stream left rest before after old flow new held result first is served ends = (
  left,
  record {
    messages = served.messages;
    told = served.told;
    flow = flow;
    next = new;
    begins = subst (λ known. BeginsKnown known served.messages left) (nothing_held stream) served.begins;
    answers = subst (λ number. AreAnswered number served.messages served.told flow new) first
        (are_answered old served.messages served.told flow new served.talks);
    written = served.written;
    ends = λ e. (ends (is ∙ ap Ok e)).1;
  },
)
