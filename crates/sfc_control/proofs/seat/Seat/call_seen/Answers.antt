use Rattle.std.proofs.Common.{rules, ℕ, List, ap, subst, ◌∙◌, SFits, w64, to_z-of_z}
use Rattle.std.specs.Prelude.{IfOk, max}
use Rattle.sfc_plant.specs.Plants.{PlantData}
use Rattle.sfc_debug.specs.declared.break_condition.BreakCondition.{BreakCondition}
use Rattle.sfc_control.specs.Books.{accepted, first, plant}
use Rattle.sfc_control.specs.LegalHistory.{IsLegal}
use Rattle.sfc_control.proofs.Kept.{met_by}
use Rattle.sfc_control.proofs.Lags.{entries_then}
use Rattle.sfc_control.proofs.seat.Seat.call_seen.Goals as goal

pub returns-clause-entered : goal.returns-clause-entered
returns-clause-entered g c =
    let fits : SFits w64 c.now-raw.result = search rules in
    let locked = c.deref_mut.result.now in
    let book = locked.book in
    let legal = subst (λ (p : PlantData). IsLegal p g.L.OpenedWith.table (accepted book)) locked.plant
    (subst (λ (t : List BreakCondition). IsLegal (plant book) t (accepted book)) locked.table book.legal) in (
      c.now-raw.result,
      accepted book,
      c.now-raw.ensures,
      record {
        legal = legal;
        answered = (c.enter-answer.ensures.audit, simp (to_z-of_z, fits) at c.enter-answer.ensures.answer);
        put = c.enter-answer.ensures.put;
        held = met_by c.enter-answer.result c.args.command c.args.self.now.first c.enter-answer.new.self.first (first book) (first (c.enter-answer.new.locked.book)) book.cut
            c.enter-answer.ensures.held c.enter-answer.ensures.first;
      },
      search rules,
    )
