-- What holds of a value, where there is one.
use Rattle.std.specs.Prelude.{Option, Some, None, IfSome}

pub if_some : {A : Type 0} (P Q : A → Type 0) (x : Option A) → ((a : A) → P a → Q a) → IfSome x P → IfSome x Q
if_some P Q None f h = h
if_some P Q (Some a) f h = f a h
