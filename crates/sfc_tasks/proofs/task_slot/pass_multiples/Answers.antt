use Rattle.std.proofs.Common.{rules, ◌≡◌, ◌+◌, ◌∙◌, ap, refl, sym, arith, ℕ, ℤ, false, Some, w64, SFits}
use Rattle.std.proofs.lemmas.Int.{to_z-of_z, to_z_pos}
use Rattle.sfc_tasks.specs.declared.task_slot.TaskSlot.{TaskSlot}
use Rattle.sfc_tasks.specs.Private.Keeping.{elapsed_releases, upcoming_after}
use Rattle.sfc_tasks.proofs.Ahead.{first_elapsed, count_elapsed, next_is, abs_high}
use Rattle.sfc_tasks.proofs.Gained.{gains_from}
use Rattle.sfc_tasks.proofs.task_slot.pass_multiples.Goals as goal

pub returns-then-not-single-clause-gains : goal.returns-then-not-single-clause-gains
returns-then-not-single-clause-gains c last ahead =
    let fits : SFits w64 c.args.t = c.ranges.t in
    let slot = c.args.slot.now in
    let t = c.args.t in
    let off : c.args.single ≡ false = search rules in
    let top = abs_high t c.requires.low c.requires.high in
    let beyond = simp to_z-of_z at c.skip-beyond.ensures.beyond in
    let is = c.skip-beyond.ensures.slot in
    let us = elapsed_releases slot.interval last t c.args.single in
    gains_from us slot c.skip-beyond.new.slot _
    (record { interval = ap (λ (s : TaskSlot). s.interval) is; priority = ap (λ (s : TaskSlot). s.priority) is; overruns = ap (λ (s : TaskSlot). s.overruns) is })
    (ap (λ (s : TaskSlot). s.since) is) (ap (λ (s : TaskSlot). s.more) is)
    (c.gain.ensures.gains us
    (first_elapsed slot.interval last t c.args.single slot.next off c.requires.low c.requires.some ahead c.requires.reached
    ∙ ap Some (sym (to_z_pos w64 slot.next (omega (arith, c.requires.reached, top)))))
    (count_elapsed slot.interval last t c.args.single slot.next off c.requires.low c.requires.some ahead c.requires.reached
    ∙ ap (λ (x : ℕ). x + 1) (sym beyond)))

pub returns-then-not-single-clause-ahead : goal.returns-then-not-single-clause-ahead
returns-then-not-single-clause-ahead c last ahead =
    let fits : SFits w64 c.args.t = c.ranges.t in
    let slot = c.args.slot.now in
    let is = c.skip-beyond.ensures.slot in
    let beyond = simp to_z-of_z at c.skip-beyond.ensures.beyond in
    c.gain.ensures.next ∙ ap (λ (s : TaskSlot). s.next) is
    ∙ next_is slot.interval last c.args.t slot.next _ _ _ refl refl beyond c.requires.low c.requires.some ahead c.requires.reached
    ∙ ap (λ (x : ℤ). upcoming_after x c.args.t) (sym (c.gain.ensures.same.interval ∙ ap (λ (s : TaskSlot). s.interval) is))

pub returns-else-not-single-clause-ahead : goal.returns-else-not-single-clause-ahead
returns-else-not-single-clause-ahead c last ahead =
    let fits : SFits w64 c.args.t = c.ranges.t in
    let slot = c.args.slot.now in
    let is = c.skip-beyond.ensures.slot in
    let beyond = simp to_z-of_z at c.skip-beyond.ensures.beyond in
    ap (λ (s : TaskSlot). s.next) is
    ∙ next_is slot.interval last c.args.t slot.next _ _ _ refl refl beyond c.requires.low c.requires.some ahead c.requires.reached
    ∙ ap (λ (x : ℤ). upcoming_after x c.args.t) (sym (ap (λ (s : TaskSlot). s.interval) is))
