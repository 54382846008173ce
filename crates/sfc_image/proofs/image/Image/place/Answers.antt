use Rattle.std.proofs.Common.{◌≡◌, ◌∙◌, ◌<◌, ◌≤◌, ◌+◌, ℕ, Option, IfSome, ap, arith, length, sym, subst}
use Rattle.sfc_image.specs.declared.slot.Locals.{Locals}
use Rattle.sfc_image.specs.Environments.{number_among}
use Rattle.sfc_image.specs.Private.Keeping.{locals_at}
use Rattle.sfc_image.specs.Agreement.{ImageAgrees}
use Rattle.sfc_image.proofs.Numbers.{of_number}
use Rattle.sfc_image.proofs.Tracked.{locals_read}
use Rattle.sfc_image.proofs.Viewed.{globals_end}
use Rattle.sfc_image.proofs.image.Image.place.Goals as goal

pub returns-clause-within : goal.returns-clause-within
returns-clause-within c =
    let image = c.args.self.now in
    let locals = image.locals.items in
    let p = c.args.instance in
    let g = c.index.result.now.first in
    let l = c.index-own.result.now in
    let some : 0 < length locals = omega (arith, c.requires) in
    let first : g ≡ (locals_at locals 0).first =
    ap (λ (x : Locals). x.first) (locals_read locals 0 c.index.result.now some c.index.ensures) in
    let is : l ≡ locals_at locals p.0 = locals_read locals p.0 l c.requires c.index-own.ensures in
    let bounds = image.within p.0 c.requires in
    let within : l.first + l.count ≤ length image.slots.items =
    subst (λ (x : Locals). x.first + x.count ≤ length image.slots.items) (sym is) bounds.1 in
    let behind : g ≤ l.first = omega (arith, first, ap (λ (x : Locals). x.first) is, bounds.0) in
    subst (λ (o : Option ℕ). IfSome o (λ i. i < length image.slots.items)) (sym c.number_of.ensures)
    (of_number (λ o. IfSome o (λ i. i < length image.slots.items)) (length image.slots.items) g l.first l.count
    (omega (arith, behind, within)) within (λ i lt. lt) tt c.args.variable)

pub returns-clause-number : goal.returns-clause-number
unfolding ImageAgrees
returns-clause-number c plant changes h =
    let image = c.args.self.now in
    let locals = image.locals.items in
    let p = c.args.instance in
    let v = c.args.variable in
    let g = c.index.result.now.first in
    let l = c.index-own.result.now in
    let some : 0 < length locals = omega (arith, c.requires) in
    let first : g ≡ (locals_at locals 0).first =
    ap (λ (x : Locals). x.first) (locals_read locals 0 c.index.result.now some c.index.ensures) in
    let is : l ≡ locals_at locals p.0 = locals_read locals p.0 l c.requires c.index-own.ensures in
    let ends = globals_end plant image.slots.items locals image.count image.is_trying changes g some first h.slots in
    c.number_of.ensures ∙ ap (λ (n : ℕ). number_among n l.first l.count v) ends
    ∙ ap (λ (x : Locals). number_among (length plant.globals) x.first x.count v) (is ∙ h.slots.locals_are p c.requires)
