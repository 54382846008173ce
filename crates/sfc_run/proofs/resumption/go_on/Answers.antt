use Rattle.std.proofs.Common.{◌≡◌, ◌∙◌, ◌++◌, List, ℕ, refl, sym, ap, subst, append_assoc}
use Rattle.std.proofs.lemmas.List.{append_cancel_left}
use Rattle.sfc_control.specs.LegalHistory.{commands_of}
use Rattle.sfc_control.specs.sfc_debug.Histories.{CommandHistory}
use Rattle.sfc_control.specs.sfc_debug.Steered.{Steered, steered_by}
use Rattle.sfc_run.specs.Alarms.{lost_text}
use Rattle.sfc_run.specs.Following.{HasPast, newest_in, steered_in}
use Rattle.sfc_run.specs.Losses.{known_text}
use Rattle.sfc_run.specs.Screens.{again_if, before_in}
use Rattle.sfc_run.proofs.Resuming.{on_three}
use Rattle.sfc_run.proofs.resumption.go_on.Goals as goal

pub returns-clause-set : goal.returns-clause-set
returns-clause-set c es was saved =
    let old = c.args.alarms.now in
    let told = c.args.told.now in
    let follower = c.resume.new.self in
    let screen = c.resume-2.new.self in
    let st = steered_in old.follower in
    let h = commands_of es in
    let steered : steered_in follower ≡ st = c.resume.ensures.steered in
    let newest : newest_in follower ≡ newest_in old.follower = c.resume.ensures.newest in
    let follows = c.resume.ensures.agrees h saved.past in
    let past : HasPast (steered_by (before_in old.screen)) c.args.opening.now h =
    subst (λ (s : Steered). HasPast s c.args.opening.now h) (sym c.requires.alike) saved.past in
    let alike : steered_by (before_in old.screen) ≡ steered_in follower = c.requires.alike ∙ sym steered in
    let lost = lost_text old.losses.waiting in
    let known : ℕ → List ℕ = λ n. known_text n in
    let count : c.newest.result ≡ newest_in old.follower = c.newest.ensures ∙ newest in
    let again : CommandHistory → List ℕ = λ g. again_if old.screen.shows (steered_in follower) (newest_in follower) g h in
    on_three c.resume-2.result c.resume-2.ensures.adds (c.resume-2.ensures.agrees h past)
    (λ (g : CommandHistory) a. c.resume-2.ensures.shown g h alike a follows)
    (λ added stands shows. (
      lost ++ known (newest_in old.follower),
      added.0,
      c.in_ok-append_known.ensures ∙ ap (λ (t : List ℕ). t ++ known c.newest.result) c.in_ok-append_lost.ensures
          ∙ append_assoc told.alarms.items lost (known c.newest.result) ∙ ap (λ (n : ℕ). told.alarms.items ++ (lost ++ known n)) count,
      added.1,
      refl,
      record {
        newest = newest;
        steered = steered;
        was = was;
        level = c.resume.ensures.level;
        run = (es, saved.legal, saved.counted, refl);
        agrees = follows;
        overruns = refl;
        losses = c.clear.ensures;
        shows = c.resume-2.ensures.shows;
        told = refl;
        changes = λ g a. append_cancel_left told.changes.items added.0 (again g) (sym added.1 ∙ shows g a)
            ∙ (λ i. again_if old.screen.shows (steered i) (newest i) g h);
        mirrors = record { steered = c.resume-2.ensures.steered ∙ alike; agrees = λ on level. stands };
        recording = c.lose.ensures;
      },
    ))
