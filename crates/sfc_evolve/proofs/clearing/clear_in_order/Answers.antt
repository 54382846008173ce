use Rattle.std.proofs.Common.{◌≡◌, ◌∙◌, ◌<◌, ◌+◌, inl, inr, ℕ, suc, List, ap, refl, sym, subst, length, get_or, arith, drop, true, false, Bool}
use Rattle.std.proofs.lemmas.List.{length-drop, length-replicate, length-set}
use Rattle.sfc_flags.specs.Flags.{flag, places_passed}
use Rattle.sfc_base.specs.declared.ids.TransitionId.{TransitionId}
use Rattle.sfc_evolve.specs.Clearing.{preceding_of, is_enabled, is_cleared}
use Rattle.sfc_evolve.specs.Private.Keeping.{clearing_work}
use Rattle.sfc_evolve.proofs.Next.{none_set, set_where, clears_enabled}
use Rattle.sfc_evolve.proofs.Placed.{ranks_long}
use Rattle.sfc_evolve.proofs.Skipped.{skipped, clearing_left, clearing_covers}
use Rattle.sfc_evolve.proofs.TableFacts.{ranked_at, preceding_below}
use Rattle.sfc_evolve.proofs.clearing.clear_in_order.Goals as goal

pub bounds-ranked-j : goal.bounds-ranked-j
bounds-ranked-j c =
    let long = ranks_long c.args.tables.now c.requires.tables in
    let same = ap (λ (l : List TransitionId). length l) c.ranked-ranked.ensures.value in
    omega (arith, long, same, c.in-Some.ensures.some, c.requires.candidates_len)

pub preceding-requires : goal.preceding-requires
preceding-requires c =
    let long = ranks_long c.args.tables.now c.requires.tables in
    let same = ap (λ (l : List TransitionId). length l) c.ranked-ranked.ensures.value in
    ranked_at c.args.tables.now c.requires.tables c.ranked-ranked.result.now c.ranked-ranked.ensures.value c.in-Some.j record { 0 = 0 }
    (omega (arith, long, same, c.in-Some.ensures.some, c.requires.candidates_len))

pub bounds-conditions-tr : goal.bounds-conditions-tr
bounds-conditions-tr c =
    let long = ranks_long c.args.tables.now c.requires.tables in
    let same = ap (λ (l : List TransitionId). length l) c.ranked-ranked.ensures.value in
    let below =
    ranked_at c.args.tables.now c.requires.tables c.ranked-ranked.result.now c.ranked-ranked.ensures.value c.in-Some.j record { 0 = 0 }
    (omega (arith, long, same, c.in-Some.ensures.some, c.requires.candidates_len)) in
    omega (arith, below, c.requires.conditions_len)

pub set-requires : goal.set-requires
set-requires c =
    let long = ranks_long c.args.tables.now c.requires.tables in
    let same = ap (λ (l : List TransitionId). length l) c.ranked-ranked.ensures.value in
    let below =
    ranked_at c.args.tables.now c.requires.tables c.ranked-ranked.result.now c.ranked-ranked.ensures.value c.in-Some.j record { 0 = 0 }
    (omega (arith, long, same, c.in-Some.ensures.some, c.requires.candidates_len)) in
    let blank = ap (λ (l : List Bool). length l) c.requires.cleared ∙ length-replicate (length c.args.tables.now.sides) false in
    omega (arith, below, blank, c.candidates.invariant.cleared_len)

pub clear_one-clears-requires-clause-within : goal.clear_one-clears-requires-clause-within
clear_one-clears-requires-clause-within c =
    let long = ranks_long c.args.tables.now c.requires.tables in
    let same = ap (λ (l : List TransitionId). length l) c.ranked-ranked.ensures.value in
    let below =
    ranked_at c.args.tables.now c.requires.tables c.ranked-ranked.result.now c.ranked-ranked.ensures.value c.in-Some.j record { 0 = 0 }
    (omega (arith, long, same, c.in-Some.ensures.some, c.requires.candidates_len)) in
    preceding_below c.args.tables.now c.requires.tables (length c.args.active.now) c.requires.active_len
    (get_or c.ranked-ranked.result.now c.in-Some.j record { 0 = 0 }) below c.preceding.result.now c.preceding.ensures

pub candidates-init : goal.candidates-init
candidates-init c = record {
  rest = refl;
  enabled = λ tr on. absurd (
      let bad : false ≡ true =
      sym (ap (λ (l : List Bool). flag l tr) c.requires.cleared ∙ none_set (length c.args.tables.now.sides) tr) ∙ on in
      cc);
  used_len = refl;
  cleared_len = refl;
  within = omega arith;
  rises = omega arith;
  ticks = omega arith;
}

pub candidates-preserved : goal.candidates-preserved
candidates-preserved c =
    let tables = c.args.tables.now in
    let j = c.in-Some.j in
    let s : suc j ≡ j + 1 = omega arith in
    let long = ranks_long tables c.requires.tables in
    let is = c.ranked-ranked.ensures.value in
    let d : TransitionId = record { 0 = 0 } in
    let lt : j < length tables.ranked = omega (arith, long, c.in-Some.ensures.some, c.requires.candidates_len) in
    let left = clearing_left tables.sides tables.ranked c.candidates.at j d (omega (arith, c.in-Some.ensures.some)) lt in
    let here : length c.preceding.result.now ≡ length (preceding_of tables.sides (get_or tables.ranked j d).0) =
    ap length c.preceding.ensures
    ∙ ap (λ (l : List TransitionId). length (preceding_of tables.sides (get_or l j d).0)) is in
    record {
      rest = rw (c.set.ensures, c.clear_one-clears.ensures.used, c.clear_one-clears.ensures.value, c.preceding.ensures, is)
          (rw c.in-Some.ensures.some.2 at c.candidates.invariant.rest);
      enabled = λ k on. elim (set_where c.candidates.cleared c.clear_one-clears.result _ k
          (sym (ap (λ (l : List Bool). flag l k) c.set.ensures) ∙ on)) [
            | inl put ↦ (
                let clears : is_cleared (flag c.args.active.now) _ c.preceding.result.now c.candidates.used ≡ true =
                sym c.clear_one-clears.ensures.value ∙ put.1 in
                let all : is_enabled (flag c.args.active.now) c.preceding.result.now ≡ true =
                clears_enabled (flag c.args.active.now) _ c.preceding.result.now c.candidates.used clears in
                subst (λ (i : ℕ). is_enabled (flag c.args.active.now) (preceding_of tables.sides i) ≡ true) put.0
                (rw c.preceding.ensures at all))
            | inr kept ↦ c.candidates.invariant.enabled k kept
          ];
      used_len = omega (arith, c.clear_one-clears.ensures.len, c.candidates.invariant.used_len);
      cleared_len =
          ap (λ (l : List Bool). length l) c.set.ensures ∙ length-set c.candidates.cleared _ _ ∙ c.candidates.invariant.cleared_len;
      within = omega (arith, c.in-Some.ensures.some);
      rises = omega (arith, c.in-Some.ensures.ticks, c.clear_one-clears.ensures.ticks, c.candidates.invariant.rises);
      ticks =
          omega (
            arith,
            left,
            here,
            ap (λ k. clearing_work tables.sides (drop k tables.ranked)) s,
            c.in-Some.ensures.ticks,
            c.clear_one-clears.ensures.ticks,
            c.candidates.invariant.ticks,
          );
    }

pub returns-clause-cleared : goal.returns-clause-cleared
returns-clause-cleared c proposes =
    let tables = c.args.tables.now in
    let x = flag c.args.active.now in
    let long = ranks_long tables c.requires.tables in
    let d : TransitionId = record { 0 = 0 } in
    let none = c.in_default.ensures.none refl in
    let over = skipped tables.sides x c.args.conditions.now tables.ranked 0 tables.ranked c.args.candidates.now c.args.used.now
    c.args.cleared.now
    (λ i lt. let e : i ≡ 0 + i = omega arith in ap (λ j. get_or tables.ranked j d) e)
    (c.requires.candidates_len ∙ sym long)
    (λ i lt on. proposes i (omega (arith, lt, long)) on)
    (λ tr off. ap (λ (l : List Bool). flag l tr) c.requires.cleared ∙ none_set (length tables.sides) tr) in
    rw none at c.candidates.invariant.rest ∙ over

pub returns-clause-ticks : goal.returns-clause-ticks
returns-clause-ticks c =
    let tables = c.args.tables.now in
    let at = c.candidates.at in
    let long = ranks_long tables c.requires.tables in
    let passed = ap (places_passed (length c.args.candidates.now) at) c.in_default.is in
    let covers = clearing_covers tables.sides (drop at tables.ranked) in (
      omega (arith, c.next_set.ensures.ticks, c.candidates.invariant.rises),
      omega (
        arith,
        passed,
        c.next_set.ensures.ticks,
        covers,
        long,
        c.requires.candidates_len,
        c.candidates.invariant.ticks,
        length-drop at tables.ranked,
      ),
    )
