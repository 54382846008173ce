use Rattle.std.proofs.Common.{◌≡◌, ◌<◌, ◌+◌, true, suc, arith, length, get_or, slice_set, drop, ℕ, Bool, false, List, [], ◌∷◌, Ok, refl, sym, ap, ◌∙◌, subst}
use Rattle.std.proofs.lemmas.List.{length-set, length-drop}
use Rattle.sfc_flags.specs.Flags.{flag, places_from, places_passed}
use Rattle.sfc_base.specs.declared.ids.TransitionId.{TransitionId}
use Rattle.sfc_evolve.specs.Agreement.{StepsAgree}
use Rattle.sfc_evolve.specs.Private.Proposing.{at_places}
use Rattle.sfc_instance.specs.Life.{Life, evolution_scans}
use Rattle.sfc_instance.specs.Work.{condition_work}
use Rattle.sfc_instance.specs.ProgramScan.{condition_flag}
use Rattle.sfc_instance.specs.declared.holding.Holding.{Holding}
use Rattle.sfc_instance.specs.Private.Holding.{AreHeld, IsReady}
use Rattle.sfc_instance.specs.Private.Evaluating.{evaluated, is_among}
use Rattle.sfc_evolve.proofs.Listed.{listed}
use Rattle.sfc_evolve.proofs.Next.{none_set}
use Rattle.sfc_evolve.proofs.Placed.{ranks_long}
use Rattle.sfc_evolve.proofs.TableFacts.{ranked_at}
use Rattle.sfc_instance.specs.ProgramScan.{condition_fault}
use Rattle.sfc_instance.specs.Private.Evaluating.{test_work}
use Rattle.sfc_evolve.specs.Clearing.{transition_count}
use Rattle.sfc_instance.proofs.Candidates.{fault_is, none_other, flag_next, flag_kept, sound_next, fault_next, work_covers, work_left}
use Rattle.sfc_instance.proofs.Evaluated.{ok_inside}
use Rattle.sfc_instance.proofs.conditions.evaluate_all.Goals.{then-branch, else-branch}
use Rattle.sfc_instance.proofs.conditions.evaluate_all.Goals as goal

pub bounds-ranked-j : goal.bounds-ranked-j
bounds-ranked-j g c =
    let long = ranks_long c.args.context.tables.now c.ranked-ranked.ensures.tables in
    let same = ap (λ (l : List TransitionId). length l) c.ranked-ranked.ensures.value in
    omega (arith, long, same, c.in-Some.ensures.some, c.candidates-candidates.ensures.len, c.requires.sizes.same_transitions)

pub evaluate-requires-clause-transition : goal.evaluate-requires-clause-transition
evaluate-requires-clause-transition g c =
    let long = ranks_long c.args.context.tables.now c.ranked-ranked.ensures.tables in
    let same = ap (λ (l : List TransitionId). length l) c.ranked-ranked.ensures.value in
    ranked_at c.args.context.tables.now c.ranked-ranked.ensures.tables c.ranked-ranked.result.now c.ranked-ranked.ensures.value c.in-Some.j
    record { 0 = 0 }
    (omega (arith, long, same, c.in-Some.ensures.some, c.candidates-candidates.ensures.len, c.requires.sizes.same_transitions))

pub candidates-init : goal.candidates-init
candidates-init g c =
    let tables = c.args.context.tables.now in
    let chart = c.args.context.chart.now in
    let env = g.V.View.environment c.args.view.now in
    let sound = c.ranked-ranked.ensures.tables in
    let flags = c.candidates-candidates.result.now in
    let long : length flags ≡ length tables.ranked =
    c.candidates-candidates.ensures.len ∙ c.requires.sizes.same_transitions ∙ sym (ranks_long tables sound) in
    record {
      len = refl;
      faults = λ life h. fault_is tables chart env life sound flags long
          (λ i lt on. c.candidates-candidates.ensures.enabled tables (evolution_scans life) h sound i
          (let e = ranks_long tables sound in omega (arith, e, lt)) on);
      sound = λ life h tr on. absurd (
          let none : flag c.args.conditions.now tr ≡ false = ap (λ (l : List Bool). flag l tr) c.requires.blank ∙ none_set (length c.args.conditions.now) tr in
          let bad : false ≡ true = sym none ∙ on in cc);
      held = c.requires.blank;
      ready = tt;
      flags = λ life h tr lt apart.
          ap (λ (l : List Bool). flag l tr) c.requires.blank
          ∙ none_set (length c.args.conditions.now) tr
          ∙ sym (none_other tables chart env life sound flags long
          (λ i less on. c.candidates-candidates.ensures.enabled tables (evolution_scans life) h sound i
          (let e = ranks_long tables sound in omega (arith, e, less)) on) tr lt apart);
      within = omega arith;
      rises = omega arith;
      ticks = omega arith;
    }

pub bounds-conditions-transition : goal.bounds-conditions-transition
bounds-conditions-transition g c =
    let tables = c.args.context.tables.now in
    let long = ranks_long tables c.ranked-ranked.ensures.tables in
    let same = ap (λ (l : List TransitionId). length l) c.ranked-ranked.ensures.value in
    let lt = ranked_at tables c.ranked-ranked.ensures.tables c.ranked-ranked.result.now c.ranked-ranked.ensures.value c.in-Some.j
    record { 0 = 0 }
    (omega (arith, long, same, c.in-Some.ensures.some, c.candidates-candidates.ensures.len, c.requires.sizes.same_transitions)) in
    omega (arith, lt, c.candidates.invariant.len, c.requires.len)

pub overflow_cast-conditions : goal.overflow_cast-conditions
overflow_cast-conditions g c =
    let tables = c.args.context.tables.now in
    let sound = c.ranked-ranked.ensures.tables in
    let long = ranks_long tables sound in
    let same = ap (λ (l : List TransitionId). length l) c.ranked-ranked.ensures.value in
    let lt = ranked_at tables sound c.ranked-ranked.result.now c.ranked-ranked.ensures.value c.in-Some.j record { 0 = 0 }
    (omega (arith, long, same, c.in-Some.ensures.some, c.candidates-candidates.ensures.len, c.requires.sizes.same_transitions)) in
    omega (arith, lt, sound.transition_limit)

pub returns-in_err-evaluate-clause-ticks : goal.returns-in_err-evaluate-clause-ticks
returns-in_err-evaluate-clause-ticks g c =
    let tables = c.args.context.tables.now in
    let chart = c.args.context.chart.now in
    let at = c.candidates.at in
    let j = c.in-Some.j in
    let d : TransitionId = record { 0 = 0 } in
    let long = ranks_long tables c.ranked-ranked.ensures.tables in
    let lt : j < length tables.ranked =
    omega (arith, long, c.in-Some.ensures.some, c.candidates-candidates.ensures.len, c.requires.sizes.same_transitions) in
    let left = work_left tables chart tables.ranked at j d (omega (arith, c.in-Some.ensures.some)) lt in
    let here = ap (λ (l : List TransitionId). test_work tables chart (get_or l j d)) c.ranked-ranked.ensures.value in (
      omega (arith, c.in-Some.ensures.ticks, c.evaluate.ensures.ticks, c.candidates.invariant.rises),
      omega (arith, left, here, c.in-Some.ensures.ticks, c.evaluate.ensures.ticks, c.candidates.invariant.ticks),
    )

pub candidates-preserved : goal.candidates-preserved
candidates-preserved g c =
    let tables = c.args.context.tables.now in
    let chart = c.args.context.chart.now in
    let env = g.V.View.environment c.args.view.now in
    let at = c.candidates.at in
    let j = c.in-Some.j in
    let d : TransitionId = record { 0 = 0 } in
    let t = get_or c.ranked-ranked.result.now j d in
    let u = get_or tables.ranked j d in
    let s : suc j ≡ j + 1 = omega arith in
    let same : t ≡ u = ap (λ (l : List TransitionId). get_or l j d) c.ranked-ranked.ensures.value in
    let flags = c.candidates-candidates.result.now in
    let rest = at_places tables.ranked (places_from flags (j + 1)) in
    let next : places_from flags at ≡ j ∷ places_from flags (j + 1) = c.in-Some.ensures.some.2 in
    let long = ranks_long tables c.ranked-ranked.ensures.tables in
    let lt : j < length tables.ranked =
    omega (arith, long, c.in-Some.ensures.some, c.candidates-candidates.ensures.len, c.requires.sizes.same_transitions) in
    let below : u.0 < length tables.sides = ranked_at tables c.ranked-ranked.ensures.tables tables.ranked refl j d lt in
    let inside : u.0 < length c.candidates.conditions = omega (arith, below, c.candidates.invariant.len, c.requires.len) in
    let is : (life : Life) → StepsAgree tables c.args.steps.now (evolution_scans life) → Ok c.in_ok-evaluate.field-0 ≡ evaluated tables chart env life u.0 =
    λ life h. ok_inside t (evaluated tables chart env life t.0) c.in_ok-evaluate.field-0 (c.in_ok-evaluate.ensures.value life h) ∙ ap (λ (y : TransitionId). evaluated tables chart env life y.0) same in
    let faults : (life : Life) → StepsAgree tables c.args.steps.now (evolution_scans life) → condition_fault tables chart env life tables.ranked
    ≡ condition_fault tables chart env life rest =
    λ life h. c.candidates.invariant.faults life h
    ∙ ap (λ (ps : List ℕ). condition_fault tables chart env life (at_places tables.ranked ps)) next
    ∙ fault_next tables chart env life u rest c.in_ok-evaluate.field-0 (is life h) in
    let before : (life : Life) → StepsAgree tables c.args.steps.now (evolution_scans life) → (tr : ℕ) → tr < length tables.sides
    → is_among (u ∷ rest) tr ≡ false → flag c.candidates.conditions tr ≡ condition_flag tables chart env life tr =
    λ life h tr less off. c.candidates.invariant.flags life h tr less (ap (λ (ps : List ℕ). is_among (at_places tables.ranked ps) tr) next ∙ off) in
    let left = work_left tables chart tables.ranked at j d (omega (arith, c.in-Some.ensures.some)) lt in
    let here = ap (λ (y : TransitionId). test_work tables chart y) same in
    elim c.if-branch.branch [
      | then-branch w ↦ (
          let holds : c.in_ok-evaluate.field-0 ≡ true = w.if-branch.true in
          let put : c.if-branch.conditions ≡ slice_set c.candidates.conditions u.0 true =
          w.conditions-is ∙ ap (λ (y : TransitionId). slice_set c.candidates.conditions y.0 true) same in
          let true_is : (life : Life) → StepsAgree tables c.args.steps.now (evolution_scans life) → Ok true ≡ evaluated tables chart env life u.0 =
          λ life h. ap (λ (b : Bool). Ok b) (sym holds) ∙ is life h in
          record {
            len = ap (λ (l : List Bool). length l) put ∙ length-set c.candidates.conditions _ _ ∙ c.candidates.invariant.len;
            faults = faults;
            flags = λ life h tr less apart. ap (λ (l : List Bool). flag l tr) put
                ∙ flag_next tables chart env life u rest c.candidates.conditions true tr inside (true_is life h) (before life h tr less) apart;
            sound = λ life h tr on. sound_next tables chart env life u c.candidates.conditions tr inside (true_is life h)
                (c.candidates.invariant.sound life h) (sym (ap (λ (l : List Bool). flag l tr) put) ∙ on);
            held = subst (λ (x : Holding). AreHeld (length c.args.conditions.now) x c.if-branch.conditions) (sym w.holding-is)
                (subst (λ (l : List Bool). AreHeld (length c.args.conditions.now) w.with-holding.result l) (sym w.conditions-is)
                (w.with-holding.ensures.held (length c.args.conditions.now) c.candidates.conditions (omega (arith, inside, ap (λ (y : TransitionId). y.0) same, c.candidates.invariant.len))
                c.candidates.invariant.held));
            ready = subst (λ (x : Holding). IsReady tables c.args.steps.now x) (sym w.holding-is)
                (w.with-holding.ensures.ready tables c.args.steps.now (c.in_ok-evaluate.ensures.enables holds));
            within = omega (arith, c.in-Some.ensures.some);
            rises = omega (arith, c.in-Some.ensures.ticks, c.evaluate.ensures.ticks, c.candidates.invariant.rises);
            ticks =
                omega (
                  arith,
                  left,
                  here,
                  ap (λ k. condition_work tables chart (drop k tables.ranked)) s,
                  c.in-Some.ensures.ticks,
                  c.evaluate.ensures.ticks,
                  c.candidates.invariant.ticks,
                );
          })
      | else-branch w ↦ (
          let holds : c.in_ok-evaluate.field-0 ≡ false = w.if-branch.false in
          let false_is : (life : Life) → StepsAgree tables c.args.steps.now (evolution_scans life) → Ok false ≡ evaluated tables chart env life u.0 =
          λ life h. ap (λ (b : Bool). Ok b) (sym holds) ∙ is life h in
          record {
            len = ap (λ (l : List Bool). length l) w.conditions-is ∙ c.candidates.invariant.len;
            faults = faults;
            flags = λ life h tr less apart. ap (λ (l : List Bool). flag l tr) w.conditions-is
                ∙ flag_kept tables chart env life u rest c.candidates.conditions tr (false_is life h)
                (c.candidates.invariant.sound life h u.0) (before life h tr less) apart;
            sound = λ life h tr on. c.candidates.invariant.sound life h tr (sym (ap (λ (l : List Bool). flag l tr) w.conditions-is) ∙ on);
            held = subst (λ (x : Holding). AreHeld (length c.args.conditions.now) x c.if-branch.conditions) (sym w.holding-is)
                (subst (λ (l : List Bool). AreHeld (length c.args.conditions.now) c.candidates.holding l) (sym w.conditions-is) c.candidates.invariant.held);
            ready = subst (λ (x : Holding). IsReady tables c.args.steps.now x) (sym w.holding-is) c.candidates.invariant.ready;
            within = omega (arith, c.in-Some.ensures.some);
            rises = omega (arith, c.in-Some.ensures.ticks, c.evaluate.ensures.ticks, c.candidates.invariant.rises);
            ticks =
                omega (
                  arith,
                  left,
                  here,
                  ap (λ k. condition_work tables chart (drop k tables.ranked)) s,
                  c.in-Some.ensures.ticks,
                  c.evaluate.ensures.ticks,
                  c.candidates.invariant.ticks,
                );
          })
    ]

pub returns-clause-flags : goal.returns-clause-flags
returns-clause-flags g c life h =
    let tables = c.args.context.tables.now in
    let chart = c.args.context.chart.now in
    let env = g.V.View.environment c.args.view.now in
    let none : places_from c.candidates-candidates.result.now c.candidates.at ≡ [] = c.in_default.ensures.none refl in
    listed (condition_flag tables chart env life) (transition_count tables) c.candidates.conditions
    (c.candidates.invariant.len ∙ c.requires.len)
    (λ tr lt. c.candidates.invariant.flags life h tr lt (ap (λ (ps : List ℕ). is_among (at_places tables.ranked ps) tr) none))

pub returns-clause-ticks : goal.returns-clause-ticks
returns-clause-ticks g c =
    let tables = c.args.context.tables.now in
    let chart = c.args.context.chart.now in
    let at = c.candidates.at in
    let long = ranks_long tables c.ranked-ranked.ensures.tables in
    let passed = ap (places_passed (length c.candidates-candidates.result.now) at) c.in_default.is in
    let covers = work_covers tables chart (drop at tables.ranked) in (
      omega (arith, c.next_set.ensures.ticks, c.candidates.invariant.rises),
      omega (
        arith,
        passed,
        c.next_set.ensures.ticks,
        covers,
        long,
        c.candidates-candidates.ensures.len,
        c.requires.sizes.same_transitions,
        c.candidates.invariant.ticks,
        length-drop at tables.ranked,
      ),
    )
