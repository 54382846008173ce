-- What is shown of a row, behind what is told of it.
use Rattle.std.proofs.Common.{◌≡◌, ◌∙◌, Result, Ok, Err, OnOk, sym, subst}
use Rattle.sfc_events.specs.declared.command.TraceRow.{TraceRow}
use Rattle.sfc_control.specs.sfc_debug.Histories.{CommandHistory}
use Rattle.sfc_control.specs.sfc_debug.Steered.{Steered}
use Rattle.sfc_run.specs.Following.{AnswersSo, Follows}
use Rattle.sfc_run.specs.Screens.{Mirrors, Sees}
use Rattle.sfc_run.specs.declared.alarms.Alarms.{Alarms}
use Rattle.sfc_run.specs.declared.screen.Screen.{Screen}

-- what follows from what holds where there is a value
pub on_ok : {X E P Q : Type 0} (result : Result X E) → (P → Q) → OnOk result P → OnOk result Q
on_ok (Ok value) f p = f p
on_ok (Err error) f p = p

-- and from what would hold
pub on_both : {X E P Q R S : Type 0} (result : Result X E) → OnOk result P → (S → OnOk result Q) → (P → (S → Q) → R) → OnOk result R
on_both (Ok value) p q f = f p q
on_both (Err error) p q f = p

-- a screen that stood behind the commands before a row sees it
pub sees_from : (old new : Alarms) (row : TraceRow) (h behind : CommandHistory) → Follows old.follower new.follower row h behind
    → new.screen ≡ old.screen → Mirrors old.screen old.follower h → Sees new.screen new.follower row h behind
sees_from old new row h behind follows same mirrors =
    subst (λ (s : Screen). Sees s new.follower row h behind) (sym same) (record {
      steered = mirrors.steered ∙ sym follows.steered;
      follows = follows.agrees;
      agrees = λ on level.
          let was = follows.level level in
          (mirrors.agrees on was.0, was.2, subst (λ (s : Steered). AnswersSo s h row) (sym follows.steered) was.3);
    })
