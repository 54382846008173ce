-- Messages, without where they lie in memory.
use Rattle.std.specs.Prelude.{ℕ, List, map, Vec}
use Rattle.std.specs.Global.{Global}

abbrev pub texts : List (Vec ℕ Global) → List (List ℕ)
texts messages = map (λ message. message.items) messages
