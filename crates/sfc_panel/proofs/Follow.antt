-- What follows from what holds where there is a value.
use Rattle.std.proofs.Common.{Result, Ok, Err, OnOk}

pub on_ok : {X E P Q : Type 0} (result : Result X E) → (P → Q) → OnOk result P → OnOk result Q
on_ok (Ok value) f p = f p
on_ok (Err error) f p = p
