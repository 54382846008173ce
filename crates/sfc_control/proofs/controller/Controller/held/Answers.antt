use Rattle.std.proofs.Common.{ℕ, List, length, ap, subst, ◌∙◌}
use Rattle.sfc_plant.specs.Plants.{PlantData}
use Rattle.sfc_debug.specs.declared.break_condition.BreakCondition.{BreakCondition}
use Rattle.sfc_control.specs.Books.{accepted, plant}
use Rattle.sfc_control.specs.Holding.{held_number}
use Rattle.sfc_control.specs.LegalHistory.{IsLegal}
use Rattle.sfc_control.proofs.controller.Controller.held.Goals as goal

pub returns : goal.returns
returns g c =
    let locked = c.deref.result.now in
    let book = locked.book in (
      accepted book,
      subst (λ (p : PlantData). IsLegal p g.L.OpenedWith.table (accepted book)) locked.plant
          (subst (λ (t : List BreakCondition). IsLegal (plant book) t (accepted book)) locked.table book.legal),
      c.entries.ensures.count ∙ ap (λ (n : ℕ). held_number n (length (accepted book))) locked.cut,
    )
