use Rattle.std.proofs.Common.{◌≡◌, ◌+◌, ◌<◌, ◌∙◌, length, ap, refl}
use Rattle.std.proofs.lemmas.List.{length_push}
use Rattle.sfc_plant.specs.Image.{locals_of}
use Rattle.sfc_image.specs.declared.slot.Locals.{Locals}
use Rattle.sfc_image.proofs.Built.{slots_more, locals_more}
use Rattle.sfc_image.proofs.building.build.Goals as goal

pub loop-k-preserved : goal.loop-k-preserved
loop-k-preserved c =
    let globals = c.args.globals.now in
    let types = c.args.types.now in
    let instances = c.args.instances.now in
    let k = c.loop-k.k in
    let instance = c.index-instances-k.result in
    let variables = c.locals_of-variables.result.now in
    let lt : k < length instances = c.loop-k-test.true in
    let of_instance : variables ≡ locals_of types instance =
    c.locals_of-variables.ensures in
    let x : Locals = record { first = c.len.result; count = length variables } in
    record {
      slots =
          slots_more globals types instances k instance variables c.loop-k.slots.items c.add_slots-in-loop-k.new.slots.items lt
          c.index-instances-k.is of_instance c.loop-k.invariant.slots c.in_ok-add_slots-2.ensures;
      instances =
          ap length c.in_ok-push.ensures.items ∙ length_push c.loop-k.locals.items x
          ∙ ap (λ n. n + 1) c.loop-k.invariant.instances;
      locals =
          locals_more globals types instances k instance variables c.loop-k.slots.items c.loop-k.locals.items
          c.push.new.self.items x lt c.index-instances-k.is of_instance c.loop-k.invariant.slots c.loop-k.invariant.instances
          c.in_ok-push.ensures.items (c.len.ensures ∙ c.loop-k.slots.ok.0) refl c.loop-k.invariant.locals;
    }
