use Rattle.std.proofs.Common.{◌≡◌, ◌∙◌, ap, arith, length, map, sym}
use Rattle.sfc_plant.specs.Image.{image_variables}
use Rattle.sfc_image.specs.Private.Keeping.{fresh_slot}
use Rattle.sfc_image.specs.Agreement.{ImageAgrees}
use Rattle.sfc_image.proofs.Built.{built_slots, built_locals, fresh_tracked, fresh_within, fresh_agrees}
use Rattle.sfc_image.proofs.OutputMemos.{no_memo}
use Rattle.sfc_image.proofs.image.Image.new.Goals as goal

pub invariant_of-result : goal.invariant_of-result
invariant_of-result c =
    let plant = c.args.plant.now in
    let slots = c.in_ok-slots.slots.items in
    let locals = c.in_ok-slots.locals.items in
    let is : slots ≡ map fresh_slot (image_variables plant) =
    built_slots plant c.globals.result.now c.types.result.now c.instances.result.now slots c.globals.ensures.value
    c.types.ensures.value c.instances.ensures.value c.in_ok-slots.ensures.slots in
    let capacity : length c.in_ok-written.written.items ≡ length slots =
    sym c.in_ok-written.written.ok.0 ∙ c.in_ok-written.ensures.len ∙ c.len.ensures ∙ c.in_ok-slots.slots.ok.0 in
    record {
      tracked = fresh_tracked (image_variables plant) slots c.in_ok-written.written.items is capacity;
      within =
          fresh_within plant slots locals is (c.in_ok-slots.ensures.instances ∙ ap length c.instances.ensures.value)
          (built_locals plant c.globals.result.now c.types.result.now c.instances.result.now locals c.globals.ensures.value
          c.types.ensures.value c.instances.ensures.value c.in_ok-slots.ensures.locals);
      sized =
          c.in_ok-memos.ensures.instances ∙ ap length (c.instances-2.ensures.value ∙ sym c.instances.ensures.value)
          ∙ sym c.in_ok-slots.ensures.instances;
    }

pub returns-clause-agrees : goal.returns-clause-agrees
unfolding ImageAgrees
returns-clause-agrees c =
    let plant = c.args.plant.now in
    let slots = c.in_ok-slots.slots.items in
    let locals = c.in_ok-slots.locals.items in
    record {
      slots =
          fresh_agrees plant slots locals
          (built_slots plant c.globals.result.now c.types.result.now c.instances.result.now slots c.globals.ensures.value
          c.types.ensures.value c.instances.ensures.value c.in_ok-slots.ensures.slots)
          (c.in_ok-slots.ensures.instances ∙ ap length c.instances.ensures.value)
          (built_locals plant c.globals.result.now c.types.result.now c.instances.result.now locals c.globals.ensures.value
          c.types.ensures.value c.instances.ensures.value c.in_ok-slots.ensures.locals);
      memos = no_memo plant slots c.in_ok-memos.memos.items 1 (omega arith) c.in_ok-memos.ensures.none;
    }
