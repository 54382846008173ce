use Rattle.std.proofs.Common.{◌≡◌, ◌≤◌, ◌*◌, ◌∙◌, ℕ, arith, true, length, ap, refl, sym}
use Rattle.std.proofs.lemmas.Bool.{or_parts}
use Rattle.sfc_flags.specs.Flags.{flag}
use Rattle.sfc_flags.proofs.Wordwise.{begun, more, all_done, past}
use Rattle.sfc_tables.specs.Tables.{Tabled}
use Rattle.sfc_image.specs.Private.Keeping.{SlotsAgree}
use Rattle.sfc_image.proofs.Outputs.{none_assigned, all_given, all_kept}
use Rattle.sfc_image.proofs.giving.Outputs.give_differing.Goals as goal

pub words-init : goal.words-init
words-init c =
    let o = c.args.self in
    let memo = c.args.memo.now.q in
    record {
      long = refl;
      tracked = c.requires.tracked;
      same = λ off. refl;
      generation = refl;
      sized = c.requires.sized;
      within = omega arith;
      noted = begun (flag o.q.now) (flag memo);
      given = λ plant changes p locals is globals of_instance has h.
          none_assigned plant changes p o.q.now true o.tables.now.actions (ap (λ (t : Tabled). t.actions) is) c.args.slots.now memo
          (λ t. SlotsAgree plant c.args.slots.now locals c.args.count o.is_open t) h (λ a on. has a);
      ticks = (omega arith, omega arith);
    }

pub words-preserved : goal.words-preserved
words-preserved c =
    let before = c.words.invariant in
    let o = c.args.self in
    let gave = c.give_word-more.ensures in
    record {
      long = c.give_word-more.auto.slots ∙ before.long;
      tracked = gave.tracked;
      same = λ off. let none = or_parts c.words.has_given c.give_word-more.result.1 off in gave.same none.1 ∙ before.same none.0;
      generation = gave.generation ∙ before.generation;
      sized = gave.len ∙ before.sized;
      within = omega (arith, c.words-words.ensures, c.words-test.true);
      noted = more (flag o.q.now) (flag c.args.memo.now.q) (flag c.words.memo.q) (flag c.give_word-more.new.memo.q) c.words.number before.noted
          gave.noted;
      given = λ plant changes p locals is globals of_instance has h.
          gave.given plant changes p locals is globals of_instance (before.given plant changes p locals is globals of_instance has h);
      ticks = (omega (arith, before.ticks.0, c.tick.ensures), omega (arith, before.ticks.1, c.tick.ensures));
    }

-- all words are given
past_all : (c : goal.After-words) → length c.args.self.tables.now.actions ≤ c.words.number * 64
past_all c = omega (arith, c.requires.q, c.words-words.ensures, c.words-test.false)

pub returns-clause-agrees : goal.returns-clause-agrees
returns-clause-agrees c plant changes p locals is globals of_instance has h =
    let o = c.args.self in
    let new = c.words.slots in
    all_given plant changes p o.q.now true o.tables.now.actions (ap (λ (t : Tabled). t.actions) is) new c.words.memo.q
    (λ t. SlotsAgree plant new locals c.words.listed o.is_open t) (c.words.number * 64) (past_all c)
    (c.words.invariant.given plant changes p locals is globals of_instance has h)

pub returns-clause-given : goal.returns-clause-given
returns-clause-given c plant changes p locals is globals of_instance has h =
    let o = c.args.self in
    let before = c.words.invariant in
    let new = c.words.slots in
    let memo = c.words.memo.q in
    let n = length o.q.now in
    let noted : (a : ℕ) → flag memo a ≡ flag o.q.now a =
    all_done (flag o.q.now) (flag c.args.memo.now.q) n c.words.number (flag memo) (omega (arith, c.words-words.ensures, c.words-test.false))
    before.noted (λ a le. past n a memo before.sized le ∙ sym (past n a o.q.now refl le)) in
    all_kept plant changes p o.q.now true o.tables.now.actions (ap (λ (t : Tabled). t.actions) is) new memo
    (λ t. SlotsAgree plant new locals c.words.listed o.is_open t) (c.words.number * 64) refl noted
    (before.given plant changes p locals is globals of_instance has h)
