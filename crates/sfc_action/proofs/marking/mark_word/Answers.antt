use Rattle.std.proofs.Common.{◌≡◌, ◌≤◌, ◌+◌, ◌*◌, ◌%◌, ◌==◌, ◌&&◌, ℕ, not, suc, List, [], get_or, refl, arith, length, ap, subst, ◌∙◌, sym}
use Rattle.std.specs.Prelude.{All}
use Rattle.std.proofs.lemmas.List.Elements.{All-filter, filter_passes}
use Rattle.sfc_tables.specs.declared.step_action.StepAction.{StepAction}
use Rattle.sfc_flags.specs.Flags.{places_from}
use Rattle.sfc_flags.specs.Words.{has}
use Rattle.sfc_flags.proofs.Fewer.{fewer}
use Rattle.sfc_action.specs.ActionControl.{is_timed}
use Rattle.sfc_action.specs.Agreement.{AreInputsOf}
use Rattle.sfc_action.specs.Private.Marking.{AreSized, IsWithin, of_step, left, work_from, all_marked, all_presets, marked_at, presets_at}
use Rattle.sfc_action.specs.Private.StepGiving.{StepGiven, IsGivenBy, IsRunOf, all_joined}
use Rattle.sfc_action.specs.Private.Rows.{input_row}
use Rattle.sfc_action.proofs.StepGiving.{given_at, step_marked, timed_presets}
use Rattle.sfc_action.proofs.Stepping.{whole_left, none_left, flag_below, is_left, is_set, next_left, left_after}
use Rattle.sfc_action.proofs.Works.{step_within, work_left, left_less}
use Rattle.sfc_action.proofs.marking.mark_word.Goals as goal

-- what a step that isn't there gives
abbrev none : StepGiven
none = record { plain = []; timed = [] }

-- ---- no step of the word is active

blank : (c : goal.After-tick) → places_from c.args.word.active.now (c.args.word.number * 64)
    ≡ places_from c.args.word.active.now ((c.args.word.number + 1) * 64)
blank c =
    let flags = c.args.word.active.now in
    let number = c.args.word.number in
    let at : number * 64 ≡ number * 64 + 0 = omega arith in
    ap (places_from flags) at
    ∙ none_left flags number 0 c.word-left.result (whole_left flags number c.word-left.result c.word-left.ensures)
    (c.is_none.ensures.0 c.if-is_none.true)

pub returns-then-is_none-clause-inputs : goal.returns-then-is_none-clause-inputs
returns-then-is_none-clause-inputs c =
    ap (λ places. marked_at c.args.word.tables.now.associations places c.args.inputs.now) (sym (blank c))

pub returns-then-is_none-clause-presets : goal.returns-then-is_none-clause-presets
returns-then-is_none-clause-presets c =
    ap (λ places. presets_at c.args.associations.times.now c.args.word.tables.now.associations places c.args.presets.now) (sym (blank c))

pub returns-then-is_none-clause-ticks : goal.returns-then-is_none-clause-ticks
returns-then-is_none-clause-ticks c =
    let n = c.args.word.number in
    omega (arith, c.requires.number, c.tick.ensures, left_less c.args.word.tables.now.associations (n * 64) ((n + 1) * 64) (omega arith))

-- ---- the steps of the word one by one

pub active-init : goal.active-init
active-init c =
    let word = c.args.word in
    let at : word.number * 64 + 0 ≡ word.number * 64 = omega arith in
    record {
      sized = c.requires.sized;
      rises = omega arith;
      given = (
        0,
        whole_left word.active.now word.number c.word-left.result c.word-left.ensures,
        ap (λ k. marked_at word.tables.now.associations (places_from word.active.now k) c.args.inputs.now) at,
        ap (λ k. presets_at c.args.associations.times.now word.tables.now.associations (places_from word.active.now k) c.args.presets.now) at,
        omega (arith, ap (work_from word.tables.now.associations word.active.now) at),
      );
    }

pub active-smaller : goal.active-smaller
active-smaller c = fewer (has c.active.left) (has c.in-Some.rest) 64 c.in-Some.place c.in-Some.ensures.first.0 c.in-Some.ensures.first.1
    (λ q lt. c.in-Some.ensures.rest q ∙ (let e : q % 64 ≡ q = omega arith in ap (λ k. has c.active.left q && not (k == c.in-Some.place)) e))

pub plain-requires : goal.plain-requires
unfolding AreInputsOf
plain-requires c =
    let lt = flag_below c.args.word.active.now (c.args.word.number * 64 + c.in-Some.place)
    (is_set c.args.word.active.now c.args.word.number c.active.invariant.given.0 c.in-Some.place c.active.left c.in-Some.rest
    c.active.invariant.given.1 c.in-Some.ensures.first.0 c.in-Some.ensures.first.1 c.in-Some.ensures.rest c.in-Some.ensures.first.2) in
    omega (arith, c.requires.step_inputs.steps, c.requires.steps, lt)

pub timed-requires : goal.timed-requires
unfolding AreInputsOf
timed-requires c =
    let lt = flag_below c.args.word.active.now (c.args.word.number * 64 + c.in-Some.place)
    (is_set c.args.word.active.now c.args.word.number c.active.invariant.given.0 c.in-Some.place c.active.left c.in-Some.rest
    c.active.invariant.given.1 c.in-Some.ensures.first.0 c.in-Some.ensures.first.1 c.in-Some.ensures.rest c.in-Some.ensures.first.2) in
    omega (arith, c.requires.step_inputs.steps, c.requires.steps, lt)

pub join_all-requires-clause-within : goal.join_all-requires-clause-within
join_all-requires-clause-within c =
    let lt = flag_below c.args.word.active.now (c.args.word.number * 64 + c.in-Some.place)
    (is_set c.args.word.active.now c.args.word.number c.active.invariant.given.0 c.in-Some.place c.active.left c.in-Some.rest
    c.active.invariant.given.1 c.in-Some.ensures.first.0 c.in-Some.ensures.first.1 c.in-Some.ensures.rest c.in-Some.ensures.first.2) in
    let s : ℕ = c.args.word.number * 64 + c.in-Some.place in
    let tables = c.args.word.tables.now in
    let given = c.args.associations.step_inputs.now in
    let same : length tables.actions ≡ length c.active.inputs.any_time = omega (arith, c.active.invariant.sized.any_time, c.requires.actions, c.active.auto.presets) in
    let is = given_at tables given s none c.requires.step_inputs (omega (arith, lt, c.requires.steps)) in
    rw (c.plain.ensures none) (subst (λ n. All (IsRunOf n) (get_or given s none).plain) same is.within)

pub note_all-requires-clause-within : goal.note_all-requires-clause-within
note_all-requires-clause-within c =
    let lt = flag_below c.args.word.active.now (c.args.word.number * 64 + c.in-Some.place)
    (is_set c.args.word.active.now c.args.word.number c.active.invariant.given.0 c.in-Some.place c.active.left c.in-Some.rest
    c.active.invariant.given.1 c.in-Some.ensures.first.0 c.in-Some.ensures.first.1 c.in-Some.ensures.rest c.in-Some.ensures.first.2) in
    let tables = c.args.word.tables.now in
    let s : ℕ = c.args.word.number * 64 + c.in-Some.place in
    let is = given_at tables c.args.associations.step_inputs.now s none c.requires.step_inputs (omega (arith, lt, c.requires.steps)) in
    let n = length c.active.presets in
    let m = length c.args.associations.times.now in
    rw (c.timed.ensures none, is.timed) (All-filter (λ (x : StepAction). is_timed x.qualifier) (IsWithin n m) (of_step tables.associations s)
    (step_within tables c.requires.tables n m (omega (arith, c.requires.actions, c.active.auto.presets)) c.requires.times s (of_step tables.associations s) refl))

pub note_all-requires-clause-timed : goal.note_all-requires-clause-timed
note_all-requires-clause-timed c =
    let lt = flag_below c.args.word.active.now (c.args.word.number * 64 + c.in-Some.place)
    (is_set c.args.word.active.now c.args.word.number c.active.invariant.given.0 c.in-Some.place c.active.left c.in-Some.rest
    c.active.invariant.given.1 c.in-Some.ensures.first.0 c.in-Some.ensures.first.1 c.in-Some.ensures.rest c.in-Some.ensures.first.2) in
    let tables = c.args.word.tables.now in
    let s : ℕ = c.args.word.number * 64 + c.in-Some.place in
    let is = given_at tables c.args.associations.step_inputs.now s none c.requires.step_inputs (omega (arith, lt, c.requires.steps)) in
    rw (c.timed.ensures none, is.timed) (filter_passes (λ (x : StepAction). is_timed x.qualifier) (of_step tables.associations s))

pub active-preserved : goal.active-preserved
active-preserved c =
    let lt = flag_below c.args.word.active.now (c.args.word.number * 64 + c.in-Some.place)
    (is_set c.args.word.active.now c.args.word.number c.active.invariant.given.0 c.in-Some.place c.active.left c.in-Some.rest
    c.active.invariant.given.1 c.in-Some.ensures.first.0 c.in-Some.ensures.first.1 c.in-Some.ensures.rest c.in-Some.ensures.first.2) in
    let tables = c.args.word.tables.now in
    let xs = tables.associations in
    let flags = c.args.word.active.now in
    let number = c.args.word.number in
    let place = c.in-Some.place in
    let times = c.args.associations.times.now in
    let s : ℕ = number * 64 + place in
    let before = c.active.invariant.given in
    let k = before.0 in
    let first = c.in-Some.ensures.first in
    let of : List StepAction = of_step xs s in
    let to : ℕ = number * 64 + (place + 1) in
    let next : suc s ≡ to = omega arith in
    let n = length c.active.presets in
    let m = length times in
    let same : n ≡ length c.note_all.new.presets = omega arith in
    let given : StepGiven = get_or c.args.associations.step_inputs.now s none in
    let is = given_at tables c.args.associations.step_inputs.now s none c.requires.step_inputs (omega (arith, lt, c.requires.steps)) in
    let is_now : IsGivenBy n of given = subst (λ i. IsGivenBy i of given) (sym c.requires.actions ∙ sym c.active.auto.presets) is in
    let within = step_within tables c.requires.tables n m (omega (arith, c.requires.actions, c.active.auto.presets)) c.requires.times s of refl in
    let mid : AreSized n c.join_all.new.inputs =
    subst (λ i. AreSized i c.join_all.new.inputs) c.active.invariant.sized.any_time c.join_all.ensures.sized in
    let inputs : c.note_all.new.inputs ≡ all_marked of c.active.inputs =
    step_marked n m of given c.active.inputs c.join_all.new.inputs c.note_all.new.inputs is_now within c.active.invariant.sized mid
    (λ a. c.join_all.ensures.rows a ∙ ap (λ runs. all_joined a runs (input_row c.active.inputs a)) (c.plain.ensures none))
    (c.note_all.ensures.inputs ∙ ap (λ ys. all_marked ys c.join_all.new.inputs) (c.timed.ensures none)) in
    let presets : c.note_all.new.presets ≡ all_presets times of c.active.presets =
    c.note_all.ensures.presets
    ∙ ap (λ ys. all_presets times ys c.active.presets) (c.timed.ensures none ∙ is.timed)
    ∙ timed_presets times of c.active.presets in
    let from = is_left flags number k place c.active.left c.in-Some.rest before.1 first.0 first.1 c.in-Some.ensures.rest first.2 in
    let goes = next_left flags number k place c.active.left c.in-Some.rest before.1 first.0 first.1 c.in-Some.ensures.rest first.2 in
    record {
      sized = subst (λ i. AreSized i c.note_all.new.inputs) same c.note_all.ensures.sized;
      rises = omega (arith, c.active.invariant.rises, c.tick-in-Some.ensures, c.join_all.ensures.ticks, c.note_all.ensures.ticks);
      given = (
        place + 1,
        left_after flags number k place c.active.left c.in-Some.rest before.1 first.0 first.1 c.in-Some.ensures.rest first.2,
        ap (marked_at xs (places_from flags to)) inputs ∙ sym (ap (λ places. marked_at xs places c.active.inputs) goes) ∙ before.2,
        ap (presets_at times xs (places_from flags to)) presets ∙ sym (ap (λ places. presets_at times xs places c.active.presets) goes)
            ∙ before.3,
        omega (
          arith,
          before.4,
          lt,
          from,
          work_left xs (number * 64 + k) s (omega (arith, from)),
          ap (left xs) next,
          ap length (c.plain.ensures none),
          ap length (c.timed.ensures none),
          is.few,
          c.tick-in-Some.ensures,
          c.join_all.ensures.ticks,
          c.note_all.ensures.ticks,
        ),
      );
    }

-- behind the last active step of the word
behind : (c : goal.In_default) → places_from c.args.word.active.now (c.args.word.number * 64 + c.active.invariant.given.0)
    ≡ places_from c.args.word.active.now ((c.args.word.number + 1) * 64)
behind c =
    let given = c.active.invariant.given in
    none_left c.args.word.active.now c.args.word.number given.0 c.active.left given.1 (c.split_first.ensures.none c.in_default.is)

pub returns-clause-inputs : goal.returns-clause-inputs
returns-clause-inputs c =
    ap (λ places. marked_at c.args.word.tables.now.associations places c.active.inputs) (sym (behind c)) ∙ c.active.invariant.given.2

pub returns-clause-presets : goal.returns-clause-presets
returns-clause-presets c =
    ap (λ places. presets_at c.args.associations.times.now c.args.word.tables.now.associations places c.active.presets) (sym (behind c))
    ∙ c.active.invariant.given.3

pub returns-clause-ticks : goal.returns-clause-ticks
returns-clause-ticks c =
    let given = c.active.invariant.given in
    let n = c.args.word.number in
    let within : given.0 ≤ 64 = given.1.within in
    omega (arith, given.4, left_less c.args.word.tables.now.associations (n * 64 + given.0) ((n + 1) * 64) (omega (arith, within)))
