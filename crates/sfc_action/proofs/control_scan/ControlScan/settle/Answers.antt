use Rattle.std.proofs.Common.{ℕ, ◌≤◌, length, arith, ap, sym, subst, ◌∙◌, inl, inr}
use Rattle.std.specs.Int.{div_ceil}
use Rattle.std.proofs.lemmas.Bool.{cases_lt}
use Rattle.sfc_flags.specs.Flags.{flag}
use Rattle.sfc_flags.specs.Words.{ArePut, AreDone, word_of}
use Rattle.sfc_flags.proofs.Wordwise.{begun, more}
use Rattle.sfc_action.specs.Private.Storing.{AreNext}
use Rattle.sfc_action.specs.Private.ControlScans.{IsControlScan}
use Rattle.sfc_action.specs.Private.Calling.{called_of, AreCalled}
use Rattle.sfc_action.specs.Private.Rows.{input_row, store_row, timed_row, no_times, stores_after, has_fault}
use Rattle.sfc_action.specs.Private.Failing.{fault_at}
use Rattle.sfc_action.proofs.Rows.{is_none}
use Rattle.sfc_action.proofs.Calls.{next_stores, are_called, faultless_at, uncalled_at}
use Rattle.sfc_action.proofs.Choices.{left_true, right_true}
use Rattle.sfc_action.proofs.Live.{or_left, or_right}
use Rattle.sfc_action.proofs.control_scan.ControlScan.settle.Goals as goal

pub loop-number-preserved : goal.loop-number-preserved
loop-number-preserved c =
    let was = c.loop-number.invariant in
    let inputs = c.args.self.now.inputs in
    let stored = c.args.stored.now.stores in
    let put = c.settle_word-in-loop-number.ensures in
    let same = was.inputs in
    let word = c.settle_word-in-loop-number.result in
    record {
      sized = subst (λ (n : ℕ). IsControlScan n c.settle_word-in-loop-number.new.self) was.sized.called put.sized;
      inputs = put.inputs ∙ same;
      presets = put.presets ∙ was.presets;
      stores = more (λ a. stores_after (input_row inputs a) (store_row stored a)) (store_row c.args.self.now.stores)
          (store_row c.loop-number.self.stores) (store_row c.settle_word-in-loop-number.new.self.stores) c.loop-number.number was.stores
          (subst (λ i. ArePut c.loop-number.number (λ a. stores_after (input_row i a) (store_row stored a))
          (store_row c.loop-number.self.stores) (store_row c.settle_word-in-loop-number.new.self.stores)) same put.stores);
      called = more (λ a. called_of (input_row inputs a) (stores_after (input_row inputs a) (store_row stored a)))
          (flag c.args.self.now.called) (flag c.loop-number.self.called) (flag c.settle_word-in-loop-number.new.self.called) c.loop-number.number was.called
          (subst (λ i. ArePut c.loop-number.number (λ a. called_of (input_row i a) (stores_after (input_row i a) (store_row stored a)))
          (flag c.loop-number.self.called) (flag c.settle_word-in-loop-number.new.self.called)) same put.called);
      elapsed = more (λ a. no_times) (timed_row c.args.self.now.elapsed) (timed_row c.loop-number.self.elapsed)
          (timed_row c.settle_word-in-loop-number.new.self.elapsed) c.loop-number.number was.elapsed put.elapsed;
      faultless = λ ok a lt. elim (cases_lt (word_of a) c.loop-number.number) [
        | inl earlier ↦ was.faultless (left_true c.loop-number.settled.is_faultless word.is_faultless (sym c.and-settled.ensures.faultless ∙ ok)) a earlier
        | inr ge ↦ rw (ap (λ i. has_fault (input_row i a) (stores_after (input_row i a) (store_row stored a))) (sym same))
            (put.faultless (right_true c.loop-number.settled.is_faultless word.is_faultless (sym c.and-settled.ensures.faultless ∙ ok)) a (omega arith))
      ];
      uncalled = λ ok a lt. elim (cases_lt (word_of a) c.loop-number.number) [
        | inl earlier ↦ was.uncalled (or_left c.loop-number.settled.is_called word.is_called (sym c.and-settled.ensures.called ∙ ok)) a earlier
        | inr ge ↦ rw (ap (λ i. called_of (input_row i a) (stores_after (input_row i a) (store_row stored a))) (sym same))
            (put.uncalled (or_right c.loop-number.settled.is_called word.is_called (sym c.and-settled.ensures.called ∙ ok)) a (omega arith))
      ];
      ticks = (omega (arith, c.tick-in-loop-number.ensures, was.ticks.0), omega (arith, c.tick-in-loop-number.ensures, was.ticks.1));
    }

pub returns-clause-next : goal.returns-clause-next
returns-clause-next c =
    let was = c.loop-number.invariant in
    let inputs = c.args.self.now.inputs in
    let n = length c.args.self.now.called in
    let k = c.loop-number.number in
    subst (λ i. AreNext c.args.stored.now.stores i c.loop-number.self.stores) (sym was.inputs)
    (next_stores n k inputs c.args.stored.now.stores c.loop-number.self.stores (store_row c.args.self.now.stores)
    (omega (arith, c.words-number-end.ensures, was.sized.called)) c.requires.sized.inputs c.requires.stored.stores
    was.sized.stores was.stores)

pub returns-clause-called : goal.returns-clause-called
returns-clause-called c =
    let was = c.loop-number.invariant in
    let inputs = c.args.self.now.inputs in
    let n = length c.args.self.now.called in
    let k = c.loop-number.number in
    subst (λ i. AreCalled i c.loop-number.self.stores c.loop-number.self.called) (sym was.inputs)
    (are_called n k inputs c.args.stored.now.stores c.loop-number.self.stores (store_row c.args.self.now.stores)
    (omega (arith, c.words-number-end.ensures, was.sized.called)) c.requires.sized.inputs c.requires.stored.stores
    was.sized.stores was.stores c.loop-number.self.called (flag c.args.self.now.called) was.sized.called was.called)

pub returns-clause-faultless : goal.returns-clause-faultless
returns-clause-faultless c ok a =
    let was = c.loop-number.invariant in
    let inputs = c.args.self.now.inputs in
    let n = length c.args.self.now.called in
    let k = c.loop-number.number in
    ap (λ i. fault_at i c.loop-number.self.stores a) was.inputs
    ∙ faultless_at n k inputs c.args.stored.now.stores c.loop-number.self.stores (store_row c.args.self.now.stores)
    (omega (arith, c.words-number-end.ensures, was.sized.called)) c.requires.sized.inputs c.requires.stored.stores was.sized.stores was.stores
    (was.faultless ok) a

pub returns-clause-elapsed : goal.returns-clause-elapsed
returns-clause-elapsed c =
    is_none (length c.args.self.now.called) (timed_row c.args.self.now.elapsed) c.loop-number.self.elapsed c.loop-number.number
    c.loop-number.invariant.sized.elapsed (omega (arith, c.words-number-end.ensures, c.loop-number.invariant.sized.called)) c.loop-number.invariant.elapsed

pub returns-clause-uncalled : goal.returns-clause-uncalled
returns-clause-uncalled c ok =
    let was = c.loop-number.invariant in
    let inputs = c.args.self.now.inputs in
    let n = length c.args.self.now.called in
    let k = c.loop-number.number in
    uncalled_at n k inputs c.args.stored.now.stores c.loop-number.self.stores (store_row c.args.self.now.stores)
    (omega (arith, c.words-number-end.ensures, was.sized.called)) c.requires.sized.inputs c.requires.stored.stores was.sized.stores was.stores
    c.loop-number.self.called (flag c.args.self.now.called) was.sized.called was.called (was.uncalled ok)

-- ---- one word

enough : (c : goal.After-settle_word) → div_ceil (length c.args.self.now.called) 64 ≤ 1
enough c = omega (arith, c.words.ensures, c.if-words-eq1.true)

stores_done : (c : goal.After-settle_word) → AreDone 1 (λ (a : ℕ). stores_after (input_row c.args.self.now.inputs a) (store_row c.args.stored.now.stores a))
    (store_row c.args.self.now.stores) (store_row c.settle_word.new.self.stores)
stores_done c =
    let rows = λ (a : ℕ). stores_after (input_row c.args.self.now.inputs a) (store_row c.args.stored.now.stores a) in
    let was = store_row c.args.self.now.stores in
    more rows was was (store_row c.settle_word.new.self.stores) 0 (begun rows was) c.settle_word.ensures.stores

called_done : (c : goal.After-settle_word) → AreDone 1 (λ (a : ℕ). called_of (input_row c.args.self.now.inputs a)
    (stores_after (input_row c.args.self.now.inputs a) (store_row c.args.stored.now.stores a)))
    (flag c.args.self.now.called) (flag c.settle_word.new.self.called)
called_done c =
    let rows = λ (a : ℕ). called_of (input_row c.args.self.now.inputs a)
    (stores_after (input_row c.args.self.now.inputs a) (store_row c.args.stored.now.stores a)) in
    let was = flag c.args.self.now.called in
    more rows was was (flag c.settle_word.new.self.called) 0 (begun rows was) c.settle_word.ensures.called

pub returns-then-words-eq1-clause-next : goal.returns-then-words-eq1-clause-next
returns-then-words-eq1-clause-next c =
    let new = c.settle_word.new.self in
    subst (λ i. AreNext c.args.stored.now.stores i new.stores) (sym c.settle_word.ensures.inputs)
    (next_stores (length c.args.self.now.called) 1 c.args.self.now.inputs c.args.stored.now.stores new.stores (store_row c.args.self.now.stores)
    (enough c) c.requires.sized.inputs c.requires.stored.stores c.settle_word.ensures.sized.stores (stores_done c))

pub returns-then-words-eq1-clause-called : goal.returns-then-words-eq1-clause-called
returns-then-words-eq1-clause-called c =
    let new = c.settle_word.new.self in
    subst (λ i. AreCalled i new.stores new.called) (sym c.settle_word.ensures.inputs)
    (are_called (length c.args.self.now.called) 1 c.args.self.now.inputs c.args.stored.now.stores new.stores (store_row c.args.self.now.stores)
    (enough c) c.requires.sized.inputs c.requires.stored.stores c.settle_word.ensures.sized.stores (stores_done c)
    new.called (flag c.args.self.now.called) c.settle_word.ensures.sized.called (called_done c))

pub returns-then-words-eq1-clause-elapsed : goal.returns-then-words-eq1-clause-elapsed
returns-then-words-eq1-clause-elapsed c =
    let rows = λ (a : ℕ). no_times in
    let was = timed_row c.args.self.now.elapsed in
    let new = c.settle_word.new.self.elapsed in
    is_none (length c.args.self.now.called) was new 1 c.settle_word.ensures.sized.elapsed (enough c)
    (more rows was was (timed_row new) 0 (begun rows was) c.settle_word.ensures.elapsed)

pub returns-then-words-eq1-clause-faultless : goal.returns-then-words-eq1-clause-faultless
returns-then-words-eq1-clause-faultless c ok a =
    let new = c.settle_word.new.self in
    ap (λ i. fault_at i new.stores a) c.settle_word.ensures.inputs
    ∙ faultless_at (length c.args.self.now.called) 1 c.args.self.now.inputs c.args.stored.now.stores new.stores (store_row c.args.self.now.stores)
    (enough c) c.requires.sized.inputs c.requires.stored.stores c.settle_word.ensures.sized.stores (stores_done c)
    (λ b lt. c.settle_word.ensures.faultless ok b (omega arith)) a

pub returns-then-words-eq1-clause-uncalled : goal.returns-then-words-eq1-clause-uncalled
returns-then-words-eq1-clause-uncalled c ok =
    let new = c.settle_word.new.self in
    uncalled_at (length c.args.self.now.called) 1 c.args.self.now.inputs c.args.stored.now.stores new.stores (store_row c.args.self.now.stores)
    (enough c) c.requires.sized.inputs c.requires.stored.stores c.settle_word.ensures.sized.stores (stores_done c)
    new.called (flag c.args.self.now.called) c.settle_word.ensures.sized.called (called_done c)
    (λ b lt. c.settle_word.ensures.uncalled ok b (omega arith))
