use Rattle.std.proofs.Common.{rules, ◌≡◌, ◌∙◌, ◌+◌, ◌<◌, ◌≤◌, ℕ, All, ap, arith, length, sym, subst}
use Rattle.sfc_expr.specs.Environment.{Environment}
use Rattle.sfc_expr.specs.Trees.{body_of}
use Rattle.sfc_expr.specs.Effect.{effect}
use Rattle.sfc_image.specs.declared.slot.Locals.{Locals}
use Rattle.sfc_image.specs.Changes.{all_of}
use Rattle.sfc_image.specs.Environments.{Moment, moment_of, environment_of}
use Rattle.sfc_image.specs.Bodies.{left_by, with_changes}
use Rattle.sfc_image.specs.BodyFaults.{faulty_statement}
use Rattle.sfc_image.specs.Private.Keeping.{locals_at, locals_of}
use Rattle.sfc_image.specs.Private.Stores.{environment_of_store, IsWriteAmong}
use Rattle.sfc_image.specs.Agreement.{ImageAgrees}
use Rattle.sfc_image.proofs.Left.{AreWrites, left_agrees}
use Rattle.sfc_image.proofs.Tracked.{locals_read}
use Rattle.sfc_image.proofs.Viewed.{globals_end, viewed}
use Rattle.sfc_image.proofs.image.Image.find_statement.Goals as goal

pub returns-clause-result : goal.returns-clause-result
unfolding ImageAgrees environment_of_store
returns-clause-result c plant changes h =
    let image = c.args.self.now in
    let locals = image.locals.items in
    let p = c.args.instance in
    let g = c.index.result.now.first in
    let l = c.index-locals.result.now in
    let moment : Moment = moment_of c.args.steps c.args.q in
    let some : 0 < length locals = omega (arith, c.requires.instance) in
    let first : g ≡ (locals_at locals 0).first =
    ap (λ (x : Locals). x.first) (locals_read locals 0 c.index.result.now some c.index.ensures) in
    let is : l ≡ locals_at locals p.0 = locals_read locals p.0 l c.requires.instance c.index-locals.ensures in
    let within : l.first + l.count ≤ length image.slots.items =
    subst (λ (x : Locals). x.first + x.count ≤ length image.slots.items) (sym is) ((image.within p.0 c.requires.instance).1) in
    c.find_statement.ensures.result
    ∙ ap (λ (env : Environment). faulty_statement (body_of c.args.body.now) env)
    (viewed plant image.slots.items locals image.count image.is_trying changes p g l moment
    (globals_end plant image.slots.items locals image.count image.is_trying changes g some first h.slots)
    (is ∙ h.slots.locals_are p c.requires.instance) within h.slots)

pub returns-clause-agrees : goal.returns-clause-agrees
unfolding ImageAgrees environment_of_store
returns-clause-agrees c plant changes h =
    let image = c.args.self.now in
    let locals = image.locals.items in
    let p = c.args.instance in
    let g = c.index.result.now.first in
    let l = c.index-locals.result.now in
    let moment : Moment = moment_of c.args.steps c.args.q in
    let some : 0 < length locals = omega (arith, c.requires.instance) in
    let first : g ≡ (locals_at locals 0).first =
    ap (λ (x : Locals). x.first) (locals_read locals 0 c.index.result.now some c.index.ensures) in
    let is : l ≡ locals_at locals p.0 = locals_read locals p.0 l c.requires.instance c.index-locals.ensures in
    let within : l.first + l.count ≤ length image.slots.items =
    subst (λ (x : Locals). x.first + x.count ≤ length image.slots.items) (sym is) ((image.within p.0 c.requires.instance).1) in
    let ends : g ≡ length plant.globals =
    globals_end plant image.slots.items locals image.count image.is_trying changes g some first h.slots in
    let of_instance : l ≡ locals_of plant p = is ∙ h.slots.locals_are p c.requires.instance in
    let before = viewed plant image.slots.items locals image.count image.is_trying changes p g l moment ends of_instance within h.slots in
    let store = c.find_statement.new.store in
    let reached = c.find_statement.ensures.reached in
    let new = store.image.now in
    let done = reached.made plant changes h in
    let made = done.made in
    let after = viewed plant new.slots.items new.locals.items new.count new.is_trying (with_changes made changes) p store.globals
    store.locals (moment_of store.steps store.q) (reached.globals ∙ ends) (reached.locals ∙ of_instance) store.within
    done.agrees.slots in
    let env : Environment = (effect (body_of c.args.body.now) (environment_of plant (all_of changes) p moment)).environment in
    let left : env ≡ environment_of plant (all_of (with_changes made changes)) p (moment_of store.steps store.q) =
    sym (c.find_statement.ensures.after ∙ ap (λ (e : Environment). (effect (body_of c.args.body.now) e).environment) before) ∙ after in
    let writes : AreWrites plant p made =
    subst (λ (n : ℕ). All (IsWriteAmong n (locals_of plant p)) made) ends
    (subst (λ (x : Locals). All (IsWriteAmong g x) made) of_instance done.writes) in
    let whole : ImageAgrees plant new (with_changes (left_by plant p env) changes) =
    record {
      slots =
          left_agrees plant p env new.slots.items new.locals.items new.count new.is_trying changes made writes
          (λ v. ap (λ (e : Environment). e.stored_at v) left) done.agrees.slots;
      memos = done.agrees.memos;
    } in
    search rules
