-- What a handle owns: a resource on the heap, or nothing.
use Rattle.std.specs.Prelude.{◌≡◌, Option, Some, None}
use base.Fml.{Fml, ftrue, fex}
use denote.RawPtr.{Ptr, null_ptr}
use Rattle.std.specs.Box.Ownership.{box_owns}
use Rattle.std.specs.declared.alloc.Global.{Global}
use Rattle.std.specs.contracts.impls.GlobalAllocator.TheImpl.{ghosts}
use Rattle.sfc_c.specs.declared.plc.Plc.{Plc}
use Rattle.sfc_c.specs.contracts.plc.Plc.{the_row}

-- the C library's heap
abbrev pub heap : Global
heap = record { memory = record { seal = tt } }

abbrev pub held : Ptr → Option Plc → Fml
held p None = fex (p ≡ null_ptr) (λ _. ftrue)
held p (Some x) = box_owns (ghosts.dealloc_token heap) the_row p x
