-- Faults of an answer.
use Rattle.std.specs.Prelude.{⊤}
use Rattle.sfc_frames.specs.declared.serving.ServeFault.{ServeFault}
use Rattle.sfc_frames.specs.declared.serving.ServeFault.TheVariants as faults

-- it is none of reading
abbrev pub IsOfAnswer : ServeFault → Type 0
IsOfAnswer (faults.Frame fault) = ⊥
IsOfAnswer (faults.Put fault) = ⊤
IsOfAnswer faults.Memory = ⊤
