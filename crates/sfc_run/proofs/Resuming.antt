-- Where a follower goes on from what the run saved.
use Rattle.std.proofs.Common.{◌≡◌, Result, Ok, Err, OnOk, refl}
use Rattle.sfc_run.specs.Resuming.{opening_in}
use Rattle.sfc_run.specs.declared.resumption.Resumption.{Resumption}

pub opening_is : (resumption : Resumption) → opening_in resumption ≡ resumption.opening
unfolding opening_in
opening_is resumption = refl

-- what follows from three facts that hold where there is a value, of which the third is one for each of some things
pub on_three : {X E A P Q : Type 0} {S R : A → Type 0} (result : Result X E) → OnOk result P → OnOk result Q
    → ((a : A) → S a → OnOk result (R a)) → {Y : Type 0} → (P → Q → ((a : A) → S a → R a) → Y) → OnOk result Y
on_three (Ok value) p q r f = f p q r
on_three (Err error) p q r f = p
