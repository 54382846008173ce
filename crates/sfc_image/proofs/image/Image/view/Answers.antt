use Rattle.std.proofs.Common.{◌≡◌, ◌∙◌, ◌+◌, ◌<◌, ◌≤◌, List, ap, arith, length, sym, subst}
use Rattle.sfc_image.specs.declared.slot.Slot.{Slot}
use Rattle.sfc_image.specs.declared.slot.Locals.{Locals}
use Rattle.sfc_image.specs.Environments.{Moment, moment_of}
use Rattle.sfc_image.specs.Private.Keeping.{locals_at, shown_by}
use Rattle.sfc_image.specs.Agreement.{ImageAgrees, environment_in}
use Rattle.sfc_image.proofs.Tracked.{locals_read}
use Rattle.sfc_image.proofs.Viewed.{globals_end, viewed}
use Rattle.sfc_image.proofs.image.Image.view.Goals as goal

pub returns : goal.returns
unfolding ImageAgrees environment_in
returns c plant changes h =
    let image = c.args.self.now in
    let locals = image.locals.items in
    let p = c.args.instance in
    let g = c.index.result.now.first in
    let l = c.index-2.result.now in
    let moment : Moment = moment_of c.args.steps c.args.q in
    let some : 0 < length locals = omega (arith, c.requires) in
    let first : g ≡ (locals_at locals 0).first =
    ap (λ (x : Locals). x.first) (locals_read locals 0 c.index.result.now some c.index.ensures) in
    let is : l ≡ locals_at locals p.0 = locals_read locals p.0 l c.requires c.index-2.ensures in
    let within : l.first + l.count ≤ length image.slots.items =
    subst (λ (x : Locals). x.first + x.count ≤ length image.slots.items) (sym is) ((image.within p.0 c.requires).1) in
    ap (λ (xs : List Slot). shown_by xs g l moment) c.as_slice.ensures.value
    ∙ viewed plant image.slots.items locals image.count image.is_trying changes p g l moment
    (globals_end plant image.slots.items locals image.count image.is_trying changes g some first h.slots)
    (is ∙ h.slots.locals_are p c.requires) within h.slots
