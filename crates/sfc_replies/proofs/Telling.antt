-- Events that are put one after the other.
use Rattle.std.proofs.Common.{ℕ, List, [], sym, refl}
use Rattle.std.proofs.lemmas.List.{append-nil}
use Rattle.sfc_frames.specs.Serving.{Puts}
use Rattle.sfc_wire.specs.DapAnswered.{TellsEvents}

-- none was put
pub tells_none : (number : ℕ) (outbox : List (List ℕ)) → Puts outbox outbox (TellsEvents number number)
tells_none number outbox = ([], sym (append-nil outbox), (tt, refl))
