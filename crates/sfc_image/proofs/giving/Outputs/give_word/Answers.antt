use Rattle.std.proofs.Common.{◌≡◌, ◌≤◌, ◌+◌, ◌*◌, ◌∙◌, ℕ, arith, Bool, true, cond, length, ap, refl, sym, subst}
use Rattle.std.proofs.lemmas.Bool.{ne_eqb}
use Rattle.sfc_flags.specs.Flags.{flag}
use Rattle.sfc_flags.specs.Words.{has, word_of}
use Rattle.sfc_tables.specs.Tables.{Tabled}
use Rattle.sfc_image.specs.Private.Giving.{AssignedTo}
use Rattle.sfc_image.specs.Private.Keeping.{SlotsAgree}
use Rattle.sfc_image.proofs.Outputs.{passed, gave_again, noted_again}
use Rattle.sfc_image.proofs.Places.{has_within, fewer, same_word, place_is_left, left_after, same_before, all_left, place_in_table}
use Rattle.sfc_image.proofs.StoredQ.{AreBelow, are_below, slots_store, gave_agrees, gave_here, gave_others}
use Rattle.sfc_image.proofs.giving.Outputs.give_word.Goals as goal

pub returns-then-is_none-clause-given : goal.returns-then-is_none-clause-given
returns-then-is_none-clause-given c plant changes p locals is globals of_instance h =
    let o = c.args.self.now in
    let number = c.args.number in
    let slots = c.args.slots.now in
    let memo = c.args.memo.now.q in
    let among : AreBelow plant p (length slots) =
    are_below plant p o.globals o.locals (length slots) globals of_instance c.requires.apart c.requires.within in
    passed plant changes p o.q.now true o.tables.now.actions (ap (λ (t : Tabled). t.actions) is) slots memo
    (λ t. SlotsAgree plant slots locals c.args.count o.is_open t) (number * 64) ((number + 1) * 64)
    (slots_store plant p slots locals c.args.count o.is_open among) (omega arith)
    (λ j ge lt. (
      refl,
      same_word number (flag memo) (flag o.q.now) c.word.result c.word-word.result c.apart-differing.result c.word.ensures c.word-word.ensures
          c.apart-differing.ensures (c.is_none.ensures.0 c.if-is_none.true) j (omega (arith, ge, lt)),
    ))
    h

pub outputs-init : goal.outputs-init
outputs-init c =
    let o = c.args.self.now in
    let number = c.args.number in
    record {
      long = refl;
      tracked = c.requires.tracked;
      given = (
        0,
        all_left number (flag c.args.memo.now.q) (flag o.q.now) c.word.result c.word-word.result c.apart-differing.result
            c.word.ensures c.word-word.ensures c.apart-differing.ensures,
        λ plant changes p locals is globals of_instance h.
            let none : number * 64 ≡ number * 64 + 0 = omega arith in
            subst (λ (from : ℕ). AssignedTo plant changes p o.q.now true o.tables.now.actions from c.args.slots.now c.args.memo.now.q
            (λ t. SlotsAgree plant c.args.slots.now locals c.args.count o.is_open t)) none h,
      );
    }

pub outputs-preserved : goal.outputs-preserved
outputs-preserved c =
    let before = c.outputs.invariant in
    let o = c.args.self.now in
    let number = c.args.number in
    let place = c.in-Some.place in
    let k = before.given.0 in
    let are = before.given.1 in
    let first = c.in-Some.ensures.first in
    let old = c.outputs.slots in
    let new = c.give-listed.new.slots in
    let memo = c.args.memo.now.q in
    let x = c.get-is_set.result in
    let target = c.target-target.result in
    let made = c.give-listed.ensures.slots in
    let w = c.outputs.differing in
    record {
      long = c.give-listed.auto.slots ∙ before.long;
      tracked = c.give-listed.ensures.tracked;
      given = (
        place + 1,
        left_after w c.in-Some.rest place first.0 first.1 c.in-Some.ensures.rest number k (flag memo) (flag o.q.now) are first.2,
        λ plant changes p locals is globals of_instance h.
            let a : ℕ = number * 64 + place in
            let actions_is = ap (λ (t : Tabled). t.actions) is in
            let among : AreBelow plant p (length old) =
            are_below plant p o.globals o.locals (length old) globals of_instance c.requires.apart
            (omega (arith, c.requires.within, before.long)) in
            let from = place_is_left w c.in-Some.rest place first.0 first.1 c.in-Some.ensures.rest number k (flag memo) (flag o.q.now) are in
            let q_is : x ≡ flag o.q.now a =
            c.get-is_set.ensures ∙ sym (has_within c.word-word.result number place first.0) ∙ c.word-word.ensures a (omega (arith, first.0)) in
            let next : a + 1 ≡ number * 64 + (place + 1) = omega arith in
            subst (λ (to : ℕ). AssignedTo plant changes p o.q.now true o.tables.now.actions to new memo
            (λ t. SlotsAgree plant new locals c.give-listed.result o.is_open t)) next
            (gave_again plant changes p o.q.now true o.tables.now.actions actions_is old new memo
            (λ t. SlotsAgree plant old locals c.outputs.listed o.is_open t) (λ t. SlotsAgree plant new locals c.give-listed.result o.is_open t)
            a target x refl q_is c.target-target.ensures
            (gave_agrees plant p o.globals o.locals globals of_instance o.is_open old new among locals c.outputs.listed c.give-listed.result target x made)
            (gave_here plant p o.globals o.locals globals of_instance o.is_open old new among target x made)
            (gave_others plant p o.globals o.locals globals of_instance o.is_open old new among target x made)
            (passed plant changes p o.q.now true o.tables.now.actions actions_is old memo
            (λ t. SlotsAgree plant old locals c.outputs.listed o.is_open t) (number * 64 + k) a
            (slots_store plant p old locals c.outputs.listed o.is_open among) (omega (arith, from))
            (λ j ge lt. (refl, same_before number k place (flag memo) (flag o.q.now) w are (omega (arith, first.0)) first.2 j ge lt))
            (before.given.2 plant changes p locals is globals of_instance h))),
      );
    }

pub outputs-smaller : goal.outputs-smaller
outputs-smaller c =
    let first = c.in-Some.ensures.first in
    let less = fewer c.outputs.differing c.in-Some.rest c.in-Some.place first.0 first.1 c.in-Some.ensures.rest 64 first.0 (omega arith) in
    omega (arith, less)

pub target-target-requires : goal.target-target-requires
target-target-requires c =
    let given = c.outputs.invariant.given in
    let first = c.in-Some.ensures.first in
    let memo = c.args.memo.now.q in
    let q = c.args.self.now.q.now in
    let from =
    place_is_left c.outputs.differing c.in-Some.rest c.in-Some.place first.0 first.1 c.in-Some.ensures.rest c.args.number given.0 (flag memo)
    (flag q) given.1 in
    let in_table =
    place_in_table memo q c.args.number given.0 c.in-Some.place c.outputs.differing c.requires.sized given.1 from first.0 first.1 in
    omega (arith, in_table, c.requires.q)

pub returns-clause-given : goal.returns-clause-given
returns-clause-given c plant changes p locals is globals of_instance h =
    let before = c.outputs.invariant in
    let o = c.args.self.now in
    let number = c.args.number in
    let k = before.given.0 in
    let are = before.given.1 in
    let slots = c.outputs.slots in
    let memo = c.args.memo.now.q in
    let actions_is = ap (λ (t : Tabled). t.actions) is in
    let among : AreBelow plant p (length slots) =
    are_below plant p o.globals o.locals (length slots) globals of_instance c.requires.apart
    (omega (arith, c.requires.within, before.long)) in
    let le = are.within in
    let next : number * 64 + 64 ≡ (number + 1) * 64 = omega arith in
    let others : (a : ℕ) → (number + 1) * 64 ≤ a → flag c.take.new.self.q a ≡ flag memo a =
    λ a ge. c.take.ensures.q a
    ∙ ap (λ (b : Bool). cond b (has c.word-word.result a) (flag memo a)) (ne_eqb (word_of a) number (λ e. omega (arith, ge, e))) in
    noted_again plant changes p o.q.now true o.tables.now.actions actions_is slots memo c.take.new.self.q
    (λ t. SlotsAgree plant slots locals c.outputs.listed o.is_open t) ((number + 1) * 64) others
    (subst (λ (to : ℕ). AssignedTo plant changes p o.q.now true o.tables.now.actions to slots memo
    (λ t. SlotsAgree plant slots locals c.outputs.listed o.is_open t)) next
    (passed plant changes p o.q.now true o.tables.now.actions actions_is slots memo
    (λ t. SlotsAgree plant slots locals c.outputs.listed o.is_open t) (number * 64 + k) (number * 64 + 64)
    (slots_store plant p slots locals c.outputs.listed o.is_open among) (omega (arith, le))
    (λ j ge lt. (
      refl,
      same_before number k 64 (flag memo) (flag o.q.now) c.outputs.differing are (omega arith)
          (λ i within. c.in_default.ensures.none refl i) j ge lt,
    ))
    (before.given.2 plant changes p locals is globals of_instance h)))
