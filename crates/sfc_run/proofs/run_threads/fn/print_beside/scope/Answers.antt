use Rattle.std.proofs.Common.{[], ◌∷◌}
use Rattle.std.proofs.Crossing.{send}
use Rattle.std.specs.contracts.alloc.Global as Global
use Rattle.std.specs.contracts.option.Option as Option
use base.Fml.{Lft}
use mir.Syntax.{named}
use denote.Param.{param}
use denote.Param.Send.{IsSend, IsSync, recorded_sync, sendable, shr_send}
use denote.Ref.{ShrRef}
use denote.Struct.Declared.{shape}
use denote.Struct.Struct.{Struct}
use Rattle.sfc_control.proofs.Crosses.{controller_sync}
use Rattle.sfc_control.specs.contracts.controller.Controller as Controller
use Rattle.sfc_run.proofs.Crosses.{job_send, watch_send}
use Rattle.sfc_run.proofs.run_threads.Writers.TheSendSync as writers
use Rattle.sfc_run.proofs.asks.Asks.TheSendSync as asks
use Rattle.sfc_run.specs.contracts.asks.Asks as Asks
use Rattle.sfc_run.specs.contracts.run_threads.Writers as Writers
use Rattle.sfc_run.specs.contracts.watch.Watch as Watch
use Rattle.sfc_run.proofs.run_threads.fn.print_beside.scope.Goals as goal

pub spawn-requires-send-F : goal.spawn-requires-send-F
spawn-requires-send-F g c κs within =
    let L = param 0 g.row.L in
    let C = Controller.the_type L g.L.OpenedWith g.L.Ledger in
    let runtime : (κ : Lft) → IsSend (ShrRef (named 5) κ (param 1 g.row.R)) = search (sendable, c.requires.sync) in
    let shared : IsSync (Controller.the_row L g.L.OpenedWith g.L.Ledger) =
    recorded_sync (Struct (shape C)) C.D C.to C.to_one (controller_sync L g.L.OpenedWith g.L.Ledger) in
    let asked : (κ : Lft) → IsSend (ShrRef (named 7) κ Asks.the_row) = search (sendable, asks.the_field_sync) in
    let held : IsSend (Option.the_row Watch.the_row) = search (sendable, watch_send) depth 12 in
    let bounds = c.requires-raw.1.1.1.1.1.1.1 in
    let lines : IsSend (param 2 g.row.W) = search in
    let alarms : IsSend (param 3 g.row.T) = search in
    let kept : IsSend (param 4 g.row.F) = search in
    let all = writers.the_send (param 2 g.row.W) (param 3 g.row.T) (param 4 g.row.F) lines alarms kept in
    job_send _ _
    (ShrRef (named 5) κs.1.1.1.1.1.0 (param 1 g.row.R) ∷ Global.the_row
    ∷ ShrRef (named 6) κs.1.1.1.1.1.1.0 (Controller.the_row L g.L.OpenedWith g.L.Ledger)
    ∷ ShrRef (named 7) κs.1.1.1.1.1.1.1.0 Asks.the_row ∷ Option.the_row Watch.the_row
    ∷ Writers.the_row (param 2 g.row.W) (param 3 g.row.T) (param 4 g.row.F) ∷ []) (
      runtime κs.1.1.1.1.1.0,
      (
        send,
        (
          shr_send (named 6) κs.1.1.1.1.1.1.0 (Controller.the_row L g.L.OpenedWith g.L.Ledger) shared,
          (asked κs.1.1.1.1.1.1.1.0, (held, (all, tt))),
        ),
      ),
    )
