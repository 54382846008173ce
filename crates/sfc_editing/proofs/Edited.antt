-- What a session has written since it was opened on a chart.
use Rattle.std.proofs.Common.{◌≡◌, refl, sym, ℕ, List, [], ◌++◌, subst}
use Rattle.std.proofs.lemmas.List.{append_cancel_left}
use Rattle.sfc_prompt.specs.Pieces.{history_after, said}
use Rattle.sfc_prompt.specs.Transcripts.{GoesOn, HasGoneOn, Puts, opened_on}
use Rattle.sfc_prompt.proofs.Telling.{goes_then}
use Rattle.sfc_session.specs.declared.session.Session.{Session}
use Rattle.sfc_session.specs.Sessions.{script_in, steered_in}
use Rattle.sfc_editing.specs.Edited.{HasWritten, IsOpenedOn}

pub nothing_written : (chart : List ℕ) (session : Session) → IsOpenedOn chart session → HasWritten chart session []
nothing_written chart session o = record {
  plant = (steered_in session).plant;
  loaded = o.loaded;
  gone = record {
    pieces = [];
    whole = refl;
    said = o.said;
    script = o.script;
    plant = refl;
    table = o.table;
    says = λ named. tt;
  };
}

pub more_written : (chart : List ℕ) (old new : Session) (text before more : List ℕ) → HasWritten chart old text
    → Puts old new before (before ++ more) → HasWritten chart new (text ++ more)
more_written chart old new text before more w puts =
    let gone = w.gone in
    let on : GoesOn old new before (before ++ more) (history_after [] gone.pieces) (said gone.pieces) =
    puts (history_after [] gone.pieces) (said gone.pieces) gone.said in
    let same : on.0 ≡ more = sym (append_cancel_left before more on.0 on.1) in
    record {
      plant = w.plant;
      loaded = w.loaded;
      gone = subst (λ (t : List ℕ). HasGoneOn (opened_on w.plant) [] [] [] (text ++ t) new) same
          (goes_then (opened_on w.plant) old new [] [] [] text on.0 gone on.2);
    }
