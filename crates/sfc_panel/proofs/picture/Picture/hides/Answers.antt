use Rattle.std.proofs.Common.{◌≡◌, ◌∙◌, ap, sym, subst, List, Option, Some, None, slice_get}
use Rattle.std.specs.Option.{option_map}
use Rattle.sfc_output.specs.sfc_core.Agreement.{plant_of}
use Rattle.sfc_output.specs.sfc_core.PlantState.{state_of}
use Rattle.sfc_panel.specs.Pictures.{IsPicture, IsShotAt}
use Rattle.sfc_panel.specs.declared.picture.Shot.{Shot}
use Rattle.sfc_panel.proofs.picture.Picture.hides.Goals as goal

pub returns-in-Some : goal.returns-in-Some
unfolding IsPicture
returns-in-Some c h g picture agrees =
    let plant = plant_of c.args.resource.now in
    let k = c.args.program.0 in
    let there : slice_get c.args.self.now.shots.items k ≡ Some c.in-Some.shot.now =
    ap (λ (xs : List Shot). slice_get xs k) (sym c.deref.ensures.value) ∙ ap (slice_get c.deref.result.now) (sym c.from.ensures)
    ∙ sym c.shot_at.ensures ∙ ap (option_map (λ shot. shot.now)) c.in-Some.is in
    c.is_unshown.ensures h g
    (subst (λ (o : Option Shot). IsShotAt plant (state_of plant h) k o) there (picture k c.requires.known)) agrees

pub returns-in-None : goal.returns-in-None
unfolding IsPicture
returns-in-None c h g picture agrees =
    let plant = plant_of c.args.resource.now in
    let k = c.args.program.0 in
    let there : slice_get c.args.self.now.shots.items k ≡ None =
    ap (λ (xs : List Shot). slice_get xs k) (sym c.deref.ensures.value) ∙ ap (slice_get c.deref.result.now) (sym c.from.ensures)
    ∙ sym c.shot_at.ensures ∙ ap (option_map (λ shot. shot.now)) c.in-None.is in
    absurd (subst (λ (o : Option Shot). IsShotAt plant (state_of plant h) k o) there (picture k c.requires.known))
