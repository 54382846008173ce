use Rattle.std.proofs.Common.{[], ◌∷◌}
use base.Fml.{Lft}
use mir.Syntax.{named}
use denote.Param.{param}
use denote.Param.Send.{IsSend, IsSync, recorded_sync, sendable, shr_send}
use denote.Ref.{ShrRef}
use denote.Struct.Declared.{shape}
use denote.Struct.Struct.{Struct}
use Rattle.sfc_control.proofs.Crosses.{controller_sync}
use Rattle.sfc_control.specs.contracts.controller.Controller as Controller
use Rattle.sfc_run.proofs.Crosses.{job_send}
use Rattle.sfc_run.proofs.keeper.Keeper.TheSendSync as keeper
use Rattle.sfc_run.proofs.keeper.Over.TheSendSync as over
use Rattle.sfc_run.specs.contracts.keeper.Keeper as Keeper
use Rattle.sfc_run.specs.contracts.keeper.Over as Over
use Rattle.sfc_run.proofs.run_threads.fn.keep_beside.scope.Goals as goal

pub spawn-requires-send-F : goal.spawn-requires-send-F
spawn-requires-send-F g c κs within =
    let L = param 0 g.row.L in
    let C = Controller.the_type L g.L.OpenedWith g.L.Ledger in
    let runtime : (κ : Lft) → IsSend (ShrRef (named 5) κ (param 1 g.row.R)) = search (sendable, c.requires.sync) in
    let shared : IsSync (Controller.the_row L g.L.OpenedWith g.L.Ledger) =
    recorded_sync (Struct (shape C)) C.D C.to C.to_one (controller_sync L g.L.OpenedWith g.L.Ledger) in
    let instants : IsSend (param 2 g.row.C) = search in
    let seat = keeper.the_send L (param 2 g.row.C) g.L.Ledger instants in
    let flag : (κ : Lft) → IsSend (ShrRef (named 7) κ Over.the_row) = search (sendable, over.the_field_sync) in
    job_send _ _
    (ShrRef (named 5) κs.1.1.1.1.1.0 (param 1 g.row.R) ∷ ShrRef (named 6) κs.1.1.1.1.1.1.0 (Controller.the_row L g.L.OpenedWith g.L.Ledger)
    ∷ Keeper.the_row L (param 2 g.row.C) g.L.Ledger ∷ ShrRef (named 7) κs.1.1.1.1.1.1.1.0 Over.the_row ∷ []) (
      runtime κs.1.1.1.1.1.0,
      (
        shr_send (named 6) κs.1.1.1.1.1.1.0 (Controller.the_row L g.L.OpenedWith g.L.Ledger) shared,
        (seat, (flag κs.1.1.1.1.1.1.1.0, tt)),
      ),
    )
