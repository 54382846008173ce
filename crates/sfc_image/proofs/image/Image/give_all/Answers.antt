use Rattle.std.proofs.Common.{◌≡◌, ◌<◌, ◌≤◌, ◌==◌, ◌+◌, ◌∙◌, ℕ, arith, true, false, cond, List, length, ap, subst, sym}
use Rattle.sfc_flags.specs.Flags.{flag}
use Rattle.sfc_tables.specs.Tables.{Tabled}
use Rattle.sfc_image.specs.declared.output_memo.OutputMemo.{OutputMemo}
use Rattle.sfc_image.specs.Bodies.{with_changes}
use Rattle.sfc_image.specs.Outputs.{outputs}
use Rattle.sfc_image.specs.Private.OutputMemos.{memo_at}
use Rattle.sfc_image.specs.declared.slot.Slot.{Slot}
use Rattle.sfc_image.specs.Agreement.{ImageAgrees}
use Rattle.sfc_image.proofs.StoredQ.{image_stores}
use Rattle.sfc_image.specs.Private.Giving.{AssignedTo}
use Rattle.sfc_image.proofs.Outputs.{none_assigned, given, all_assigned, all_noted, noted_one}
use Rattle.sfc_image.proofs.image.Image.give_all.Goals as goal

pub outputs-init : goal.outputs-init
outputs-init c =
    let dropped = c.drop_memo.ensures in
    record {
      large = dropped.large;
      opened = dropped.open;
      within = omega arith;
      taken = dropped.generation;
      noted = λ a lt fits. absurd (omega (arith, lt));
      handled = λ plant changes is h.
          none_assigned plant changes c.args.instance c.args.q.now false c.args.tables.now.actions (ap (λ (x : Tabled). x.actions) is)
          c.drop_memo.new.self.slots.items (memo_at c.drop_memo.new.self.memos.items c.args.instance.0).q
          (λ t. ImageAgrees plant c.drop_memo.new.self t) (dropped.agrees plant changes h) (λ a on. absurd (let e : false ≡ true = on in cc));
      ticks = (omega arith, omega arith);
    }

pub outputs-preserved : goal.outputs-preserved
outputs-preserved c =
    let before = c.outputs.invariant in
    let p = c.args.instance in
    let q = c.args.q.now in
    let a = c.outputs.action in
    let actions = c.args.tables.now.actions in
    let noted = c.note_if_room.ensures in
    record {
      large = record {
        variables = noted.large.variables ∙ c.give.ensures.large.variables ∙ before.large.variables;
        instances = noted.large.instances ∙ c.give.ensures.large.instances ∙ before.large.instances;
      };
      opened = noted.open ∙ c.give.ensures.open ∙ before.opened;
      within = omega (arith, c.outputs-test.true, c.count.ensures);
      taken = noted.generation;
      noted = noted_one q a a (memo_at c.outputs.self.memos.items p.0).q (memo_at c.give.new.self.memos.items p.0).q
          (memo_at c.note_if_room.new.self.memos.items p.0).q c.get-is_set.result
          (ap (λ (xs : List OutputMemo). (memo_at xs p.0).q) c.give.ensures.memos) c.get-is_set.ensures noted.sized noted.q before.noted
          (λ j le lt. absurd (omega (arith, le, lt)));
      handled = λ plant changes is h.
          let memos = c.give.ensures.memos in
          let flags : (b : ℕ) → b < length (memo_at c.outputs.self.memos.items p.0).q
          → flag (memo_at c.note_if_room.new.self.memos.items p.0).q b
          ≡ cond (b == a) c.get-is_set.result (flag (memo_at c.outputs.self.memos.items p.0).q b) =
          λ b lt. noted.q b (omega (arith, lt, ap (λ (xs : List OutputMemo). length (memo_at xs p.0).q) memos))
          ∙ ap (λ (xs : List OutputMemo). cond (b == a) c.get-is_set.result (flag (memo_at xs p.0).q b)) memos in
          subst (λ (xs : List Slot). AssignedTo plant changes p q false actions (a + 1) xs
          (memo_at c.note_if_room.new.self.memos.items p.0).q (λ t. ImageAgrees plant c.note_if_room.new.self t)) (sym noted.slots)
          (given plant changes p q false actions (ap (λ (x : Tabled). x.actions) is) c.outputs.self.slots.items c.give.new.self.slots.items
          (memo_at c.outputs.self.memos.items p.0).q (memo_at c.note_if_room.new.self.memos.items p.0).q
          (λ t. ImageAgrees plant c.outputs.self t) (λ t. ImageAgrees plant c.give.new.self t)
          (λ t. ImageAgrees plant c.note_if_room.new.self t) a
          c.target.result c.get-is_set.result c.get-is_set.ensures c.target.ensures (c.give.ensures.agrees plant)
          (c.give.ensures.here plant) (c.give.ensures.others plant) (λ on. absurd (let e : false ≡ true = on in cc)) flags
          (noted.agrees plant) (before.handled plant changes is h));
      ticks = (omega (arith, before.ticks.0, c.tick.ensures), omega (arith, before.ticks.1, c.tick.ensures));
    }

pub returns-clause-agrees : goal.returns-clause-agrees
returns-clause-agrees c plant changes is h =
    let before = c.outputs.invariant in
    let p = c.args.instance in
    let q = c.args.q.now in
    let a = c.outputs.action in
    let actions = c.args.tables.now.actions in
    let actions_is = ap (λ (x : Tabled). x.actions) is in
    let state = before.handled plant changes is h in
    let past : length q ≤ a = omega (arith, c.outputs-test.false, c.count.ensures) in
    let same : (j : ℕ) → a ≤ j → j < length actions
    → (false ≡ true) × (flag (memo_at c.outputs.self.memos.items p.0).q j ≡ flag q j) =
    λ j le lt. absurd (omega (arith, le, lt, past, c.requires.q)) in
    c.leave_memo.ensures.agrees plant (with_changes (outputs plant p q 0 actions) changes)
    (all_assigned plant changes p q false actions actions_is c.outputs.self.slots.items (memo_at c.outputs.self.memos.items p.0).q
    (λ t. ImageAgrees plant c.outputs.self t) a
    (image_stores plant p c.outputs.self (omega (arith, c.requires.instance, before.large.instances)))
    (omega (arith, before.within, c.requires.q)) same state)
    (λ long. all_noted plant changes p q false actions actions_is c.outputs.self.slots.items (memo_at c.outputs.self.memos.items p.0).q
    (λ t. ImageAgrees plant c.outputs.self t) a c.requires.q before.noted same state long)
