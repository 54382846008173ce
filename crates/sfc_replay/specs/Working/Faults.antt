-- Which faults a part of replay may answer.
use Rattle.sfc_replay.specs.declared.replay_error.ReplayError.{ReplayError}
use Rattle.sfc_replay.specs.declared.replay_error.ReplayError.TheVariants.{Read, Write, Memory}

-- the reader's, or want of memory
abbrev pub IsInputFault : ReplayError → Type 0
IsInputFault Read = Unit {0}
IsInputFault Memory = Unit {0}
IsInputFault _ = ⊥

-- the writer's, or want of memory
abbrev pub IsOutputFault : ReplayError → Type 0
IsOutputFault Write = Unit {0}
IsOutputFault Memory = Unit {0}
IsOutputFault _ = ⊥
