use Rattle.std.proofs.Common.{◌≡◌, ◌∙◌, ◌++◌, ap, sym, subst}
use Rattle.std.proofs.lemmas.List.{append_cancel_left}
use Rattle.sfc_run.specs.Recording.{IsRecorded}
use Rattle.sfc_run.specs.Screens.{Mirrors, shown_text}
use Rattle.sfc_run.specs.declared.recording.Recording.{Recording}
use Rattle.sfc_run.specs.declared.screen.Screen.{Screen}
use Rattle.sfc_run.specs.declared.screen.Shows.{Shows}
use Rattle.sfc_run.specs.Following.{is_level, steered_in}
use Rattle.sfc_run.proofs.Showing.{on_ok, sees_from}
use Rattle.sfc_run.proofs.alarms.Alarms.take.Goals as goal

pub returns-clause-told : goal.returns-clause-told
returns-clause-told c h agrees =
    let old = c.args.self.now in
    let mid = c.take_alarm.new.self in
    let told = c.in_ok-take_alarm.ensures.told h agrees in
    let screen : mid.screen ≡ old.screen = c.in_ok-take_alarm.ensures.screen in
    let text = λ (shows : Shows). shown_text shows (is_level mid.follower) (steered_in mid.follower) h told.0 c.args.row in
    let sees = λ (m : Mirrors old.screen old.follower h). sees_from old mid c.args.row h told.0 told.3.follows screen m in
    let added = c.in_ok-show.ensures.adds in
    let known = λ (m : Mirrors old.screen old.follower h). c.in_ok-show.ensures.shown h told.0 (sees m) in
    on_ok c.take.result
    (λ put. (
      told.0,
      told.1,
      added.0,
      put.0,
      told.2,
      added.1,
      put.1,
      record {
        alarmed = record { follows = told.3.follows; overruns = told.3.overruns; losses = told.3.losses; told = told.3.told };
        shows = c.in_ok-show.ensures.shows ∙ ap (λ (s : Screen). s.shows) screen;
        changes = λ (m : Mirrors old.screen old.follower h).
            let done = known m in (
              append_cancel_left c.args.told.now.changes.items added.0 (text old.screen.shows) (sym added.1 ∙ done.0
                  ∙ ap (λ (s : Screen). c.args.told.now.changes.items ++ text s.shows) screen),
              record { steered = c.in_ok-show.ensures.steered ∙ (sees m).steered; agrees = done.1 },
            );
        records = subst (λ (r : Recording). IsRecorded r c.take.new.self mid.follower c.args.row put.0)
            c.in_ok-take_alarm.ensures.recording put.2;
      },
    ))
    c.take.ensures
