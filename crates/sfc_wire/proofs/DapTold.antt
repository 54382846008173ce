-- What was put behind other texts (Debug Adapter Protocol).
use Rattle.std.proofs.Common.{◌≡◌, ℕ, List, [], ◌∷◌, ◌++◌, refl, sym, ap, ◌∙◌, subst, append_assoc}
use Rattle.sfc_frames.specs.Serving.{Puts}
use Rattle.serde_json.specs.Data.{Data}
use Rattle.sfc_wire.specs.Dap.{Request, event_of, failure_of, success_of}
use Rattle.sfc_wire.specs.DapAnswered.{AreEvents, Responds, RespondsTo, TellsEvents, next_number, number_behind}
use Rattle.sfc_wire.specs.Texts.{IsWritten, PutsMessage}
use Rattle.sfc_wire.proofs.Told.{one}

pub responds_success : (before behind : List (List ℕ)) (request : Request) (old new : ℕ) (value : Data) → PutsMessage before behind (success_of old request.seq request.command value)
    → new ≡ next_number old → Puts before behind (RespondsTo request old new)
responds_success before behind request old new value p e = (
  p.0,
  p.1,
  one (IsWritten (success_of old request.seq request.command value)) (RespondsTo request old new)
      (λ text w. (((success_of old request.seq request.command value, w, record { is_response = refl; numbered = refl; answers = refl; names = refl }), tt), e)) p.0 p.2,
)

pub responds_failure : (before behind : List (List ℕ)) (request : Request) (old new : ℕ) (reason : List ℕ) → PutsMessage before behind (failure_of old request.seq request.command reason)
    → new ≡ next_number old → Puts before behind (RespondsTo request old new)
responds_failure before behind request old new reason p e = (
  p.0,
  p.1,
  one (IsWritten (failure_of old request.seq request.command reason)) (RespondsTo request old new)
      (λ text w. (((failure_of old request.seq request.command reason, w, record { is_response = refl; numbered = refl; answers = refl; names = refl }), tt), e)) p.0 p.2,
)

pub tells_event : (before behind : List (List ℕ)) (word : List ℕ) (old new : ℕ) (value : Data) → PutsMessage before behind (event_of old word value)
    → new ≡ next_number old → Puts before behind (TellsEvents old new)
tells_event before behind word old new value p e = (
  p.0,
  p.1,
  one (IsWritten (event_of old word value)) (TellsEvents old new)
      (λ text w. (((event_of old word value, w, record { is_event = refl; numbered = refl }), tt), e)) p.0 p.2,
)

-- ---- texts behind others

number_behind-append : (seq : ℕ) (xs ys : List (List ℕ)) → number_behind seq (xs ++ ys) ≡ number_behind (number_behind seq xs) ys
number_behind-append seq [] ys = refl
number_behind-append seq (x ∷ xs) ys = number_behind-append (next_number seq) xs ys

are_events : (seq : ℕ) (xs ys : List (List ℕ)) → AreEvents seq xs → AreEvents (number_behind seq xs) ys → AreEvents seq (xs ++ ys)
are_events seq [] ys h k = k
are_events seq (x ∷ xs) ys h k = (h.0, are_events (next_number seq) xs ys h.1 k)

responds_and : (request : Request) (seq : ℕ) (xs ys : List (List ℕ)) → Responds request seq xs → AreEvents (number_behind seq xs) ys → Responds request seq (xs ++ ys)
responds_and request seq [] ys h k = absurd h
responds_and request seq (x ∷ xs) ys h k = (h.0, are_events (next_number seq) xs ys h.1 k)

numbers_then : (old middle new : ℕ) (xs ys : List (List ℕ)) → middle ≡ number_behind old xs → new ≡ number_behind middle ys → new ≡ number_behind old (xs ++ ys)
numbers_then old middle new xs ys e f = f ∙ ap (λ n. number_behind n ys) e ∙ sym (number_behind-append old xs ys)

-- events stand behind a response
pub responds_then : (request : Request) (old next new : ℕ) (before middle behind : List (List ℕ)) → Puts before middle (RespondsTo request old next)
    → Puts middle behind (TellsEvents next new) → Puts before behind (RespondsTo request old new)
responds_then request old next new before middle behind p q = (
  p.0 ++ q.0,
  q.1 ∙ ap (λ m. m ++ q.0) p.1 ∙ append_assoc before p.0 q.0,
  (responds_and request old p.0 q.0 p.2.0 (subst (λ n. AreEvents n q.0) p.2.1 q.2.0), numbers_then old next new p.0 q.0 p.2.1 q.2.1),
)

pub tells_then : (old next new : ℕ) (before middle behind : List (List ℕ)) → Puts before middle (TellsEvents old next) → Puts middle behind (TellsEvents next new)
    → Puts before behind (TellsEvents old new)
tells_then old next new before middle behind p q = (
  p.0 ++ q.0,
  q.1 ∙ ap (λ m. m ++ q.0) p.1 ∙ append_assoc before p.0 q.0,
  (are_events old p.0 q.0 p.2.0 (subst (λ n. AreEvents n q.0) p.2.1 q.2.0), numbers_then old next new p.0 q.0 p.2.1 q.2.1),
)
