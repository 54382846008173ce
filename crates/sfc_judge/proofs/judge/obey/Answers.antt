use Rattle.std.proofs.Common.{rules, ◌≡◌, ◌∙◌, ◌∷◌, [], refl, sym, ap, subst, ℤ, List, w64, SFits, to_z, of_z, to_z-of_z}
use Rattle.std.specs.Prelude.{IfNone, None, is_none}
use Rattle.sfc_replay.specs.sfc_debug.Steered.{Steered}
use Rattle.sfc_replay.specs.sfc_output.Output.{debugger_of}
use Rattle.sfc_cases.specs.declared.deed.Deed.{Deed}
use Rattle.sfc_cases.specs.declared.deed.Deed.TheVariants as deeds
use Rattle.sfc_cases.specs.declared.line.Line.{Line}
use Rattle.sfc_judge.specs.Courses.{behind, behind_line, here}
use Rattle.sfc_judge.specs.Holding.{holds, is_refused}
use Rattle.sfc_cases.specs.Lines.{instant_after}
use Rattle.sfc_judge.specs.Moments.{Moment, behind_command}
use Rattle.sfc_judge.specs.Running.Benches.{Stands, steered_in}
use Rattle.sfc_judge.specs.Running.Cases.{lines_in}
use Rattle.sfc_judge.specs.Running.Watching.{Checks, Goes, Held, Obeys, Runs, Starts, held_in, run_end}
use Rattle.sfc_judge.proofs.Passing.{each_ok, obeys_giving, obeys_plain, obeys_refusing, obeys_running, obeys_watching, plain_deed, run_behind, stirs_stands, whatever}
use Rattle.sfc_judge.proofs.judge.obey.Goals as goal

pub returns-in-Gives-clause-obeys : goal.returns-in-Gives-clause-obeys
returns-in-Gives-clause-obeys c = λ m stands.
    let st : Steered = steered_in c.args.bench.now in
    let line : Line = c.args.line.now in
    let lines : List Line = lines_in c.args.behind in
    let old : List Held = held_in c.args.pending.now in
    let at : Moment = here m line in
    let begun = c.go_to.ensures.stands m stands in
    let same = c.go_to.ensures.steered in
    let new : List Held = held_in c.give.new.pending in
    obeys_giving st m line lines old new c.give.result c.in-Gives.command c.in-Gives.is
    (subst (λ (s : Steered). Checks s at (c.in-Gives.command, at.clock) lines old new c.give.result) same (c.give.ensures.checks at begun))

pub returns-in-Refuses-clause-obeys : goal.returns-in-Refuses-clause-obeys
returns-in-Refuses-clause-obeys c = λ m stands.
    let st : Steered = steered_in c.args.bench.now in
    let line : Line = c.args.line.now in
    let lines : List Line = lines_in c.args.behind in
    let old : List Held = held_in c.args.pending.now in
    let at : Moment = here m line in
    let begun = c.go_to.ensures.stands m stands in
    let same = c.go_to.ensures.steered in
    let new : List Held = held_in c.refuse.new.pending in
    obeys_refusing st m line lines old new c.refuse.result c.in-Refuses.number c.in-Refuses.command c.in-Refuses.is
    (subst (λ (s : Steered). Goes s (is_refused c.in-Refuses.number ((debugger_of s).verdict at.history (c.in-Refuses.command, at.clock)))
    (behind_command s at (c.in-Refuses.command, at.clock) ∷ []) old new c.refuse.result) same (c.refuse.ensures.goes at begun))

pub returns-in-Runs-clause-obeys : goal.returns-in-Runs-clause-obeys
returns-in-Runs-clause-obeys c = λ m stands.
    let st : Steered = steered_in c.args.bench.now in
    let line : Line = c.args.line.now in
    let lines : List Line = lines_in c.args.behind in
    let old : List Held = held_in c.args.pending.now in
    let at : Moment = here m line in
    let begun = c.go_to.ensures.stands m stands in
    let same = c.go_to.ensures.steered in
    let new : List Held = held_in c.run.new.pending in
    let fits : SFits w64 c.after-limit.result = search rules in
    let fits_clock : SFits w64 c.clock.result = search rules in
    let limit : to_z w64 (of_z w64 c.after-limit.result) ≡ instant_after at.clock c.in-Runs.limit =
    to_z-of_z fits ∙ c.after-limit.ensures ∙ ap (λ (t : ℤ). instant_after t c.in-Runs.limit) (to_z-of_z fits_clock ∙ c.clock.ensures at begun) in
    obeys_running st m line lines old new c.run.result c.in-Runs.until c.in-Runs.limit c.in-Runs.is
    (subst (λ (l : ℤ). Runs st c.in-Runs.until l at lines old new c.run.result) limit
    (subst (λ (s : Steered). Runs s c.in-Runs.until (to_z w64 (of_z w64 c.after-limit.result)) at lines old new c.run.result) same
    (c.run.ensures.runs at begun)))

pub returns-in-Runs-clause-stands : goal.returns-in-Runs-clause-stands
returns-in-Runs-clause-stands c = λ m stands.
    let st : Steered = steered_in c.args.bench.now in
    let line : Line = c.args.line.now in
    let lines : List Line = lines_in c.args.behind in
    let old : List Held = held_in c.args.pending.now in
    let at : Moment = here m line in
    let begun = c.go_to.ensures.stands m stands in
    let same = c.go_to.ensures.steered in
    let fits : SFits w64 c.after-limit.result = search rules in
    let fits_clock : SFits w64 c.clock.result = search rules in
    let limit : to_z w64 (of_z w64 c.after-limit.result) ≡ instant_after at.clock c.in-Runs.limit =
    to_z-of_z fits ∙ c.after-limit.ensures ∙ ap (λ (t : ℤ). instant_after t c.in-Runs.limit) (to_z-of_z fits_clock ∙ c.clock.ensures at begun) in
    let ends : run_end st c.in-Runs.until (instant_after at.clock c.in-Runs.limit) at ≡ behind_line st m line =
    run_behind st at c.in-Runs.until c.in-Runs.limit ∙ ap (λ (d : Deed). behind st at d) (sym c.in-Runs.is) in
    subst (λ (x : Moment). IfNone c.run.result (Stands c.run.new.bench x)) ends
    (subst (λ (l : ℤ). IfNone c.run.result (Stands c.run.new.bench (run_end st c.in-Runs.until l at))) limit
    (subst (λ (s : Steered). IfNone c.run.result (Stands c.run.new.bench (run_end s c.in-Runs.until (to_z w64 (of_z w64 c.after-limit.result)) at))) same
    (c.run.ensures.stands at begun)))

pub returns-in-Watches-clause-obeys : goal.returns-in-Watches-clause-obeys
returns-in-Watches-clause-obeys c = λ m stands.
    let st : Steered = steered_in c.args.bench.now in
    let line : Line = c.args.line.now in
    let lines : List Line = lines_in c.args.behind in
    let old : List Held = held_in c.args.pending.now in
    let at : Moment = here m line in
    let begun = c.go_to.ensures.stands m stands in
    let same = c.go_to.ensures.steered in
    let new : List Held = held_in c.begin_watch.new.pending in
    each_ok c.begin_watch.result (λ wrong. Starts (steered_in c.go_to.new.self) at c.in-Watches.watched old new wrong)
    (λ wrong. Obeys st m line lines old new wrong)
    (λ wrong starts. obeys_watching st m line lines old new wrong c.in-Watches.watched c.in-Watches.is
    (subst (λ (s : Steered). Starts s at c.in-Watches.watched old new wrong) same starts))
    (c.begin_watch.ensures at begun)

pub returns-in-Stirs-clause-obeys : goal.returns-in-Stirs-clause-obeys
returns-in-Stirs-clause-obeys c = λ m stands.
    let st : Steered = steered_in c.args.bench.now in
    let line : Line = c.args.line.now in
    let lines : List Line = lines_in c.args.behind in
    let old : List Held = held_in c.args.pending.now in
    each_ok c.stir.result (λ wrong. wrong ≡ None) (λ wrong. Obeys st m line lines old old wrong)
    (λ wrong none. obeys_plain st m line lines old wrong (deeds.Stirs c.in-Stirs.stimulus) c.in-Stirs.is refl (sym (ap is_none none)))
    c.stir.ensures.nothing

pub returns-in-Stirs-clause-stands : goal.returns-in-Stirs-clause-stands
returns-in-Stirs-clause-stands c = λ m stands.
    let st : Steered = steered_in c.args.bench.now in
    let line : Line = c.args.line.now in
    let at : Moment = here m line in
    let begun = c.go_to.ensures.stands m stands in
    let there : behind_line st m line ≡ behind st at (deeds.Stirs c.in-Stirs.stimulus) = ap (behind st at) c.in-Stirs.is in
    stirs_stands c.stir.result c.stir.new.bench (behind_line st m line) (behind st at (deeds.Stirs c.in-Stirs.stimulus)) there
    (c.stir.ensures.stands at begun)

pub returns-in_default : goal.returns-in_default
returns-in_default c = record {
  ready = c.go_to.ensures.ready;
  steered = c.go_to.ensures.steered;
  obeys = λ m stands.
      let st : Steered = steered_in c.args.bench.now in
      let line : Line = c.args.line.now in
      let lines : List Line = lines_in c.args.behind in
      let old : List Held = held_in c.args.pending.now in
      let at : Moment = here m line in
      let begun = c.go_to.ensures.stands m stands in
      let same = c.go_to.ensures.steered in
      let plain = plain_deed st at line.deed lines c.in_default.not-Gives c.in_default.not-Refuses c.in_default.not-Runs c.in_default.not-Watches c.in_default.not-Stirs in
      obeys_plain st m line lines old c.unless.result line.deed refl plain.0
      (plain.1 ∙ sym (c.unless.ensures ∙ c.holds.ensures at begun ∙ ap (λ (s : Steered). holds s at line.deed) same));
  stands = λ m stands.
      let st : Steered = steered_in c.args.bench.now in
      let line : Line = c.args.line.now in
      let lines : List Line = lines_in c.args.behind in
      let old : List Held = held_in c.args.pending.now in
      let at : Moment = here m line in
      let begun = c.go_to.ensures.stands m stands in
      let same = c.go_to.ensures.steered in
      let plain = plain_deed st at line.deed lines c.in_default.not-Gives c.in_default.not-Refuses c.in_default.not-Runs c.in_default.not-Watches c.in_default.not-Stirs in
      let there : behind_line st m line ≡ at = plain.2 in
      whatever c.unless.result (Stands c.go_to.new.self (behind_line st m line)) (subst (λ (x : Moment). Stands c.go_to.new.self x) (sym there) begun);
}
