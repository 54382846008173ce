use Rattle.std.proofs.Common.{◌≡◌, ◌≤◌, ◌+◌, ◌==◌, ◌++◌, Bool, true, false, map, drop, ap, sym, ◌∙◌, arith}
use Rattle.std.proofs.lemmas.Bool.{ne_eqb}
use Rattle.sfc_flags.specs.Flags.{places_from}
use Rattle.sfc_debug.specs.sfc_instance.Answers.{is_step_active}
use Rattle.sfc_debug.specs.sfc_instance.Views.{tables_in}
use Rattle.sfc_output.specs.Programs.{step_text}
use Rattle.sfc_output.specs.Private.ListParts.{continued}
use Rattle.sfc_page.specs.Lines.{written}
use Rattle.sfc_output.proofs.Texts.{first_after, placed, all_placed}
use Rattle.sfc_output.proofs.program.put_steps.Goals as goal

pub put_step-requires : goal.put_step-requires
put_step-requires c = omega (arith, (c.in-Some.ensures.some c.places.from c.places.invariant.stands).0, c.active_flags-active.ensures.len)

pub overflow_cast-s : goal.overflow_cast-s
overflow_cast-s c =
    let found = c.in-Some.ensures.some c.places.from c.places.invariant.stands in
    let few = c.steps-steps.ensures.count in
    grind (arith, found.0, c.active_flags-active.ensures.len, few)

pub overflow_add-from : goal.overflow_add-from
overflow_add-from c =
    let found = c.in-Some.ensures.some c.places.from c.places.invariant.stands in
    let few = c.steps-steps.ensures.count in
    grind (arith, found.0, c.active_flags-active.ensures.len, few)

pub places-preserved : goal.places-preserved
places-preserved c =
    let found = c.in-Some.ensures.some c.places.from c.places.invariant.stands in
    let s = c.in-Some.s in
    let active = c.active_flags-active.result.now in
    let new = written c.put_step.new.out.items c.put_step.new.line in
    record {
      within = omega (arith, found.0);
      stands = found.3;
      rest = λ changes instance_state shows.
          let text = step_text c.args.names.now (tables_in c.args.view.now) instance_state in
          let more : (s + 1 == 0) ≡ false = ne_eqb (s + 1) 0 (λ e. omega arith) in
          let is_active : is_step_active (tables_in c.args.view.now) instance_state s ≡ true =
          sym (c.active_flags-active.ensures.each changes instance_state s (omega (arith, found.0, c.active_flags-active.ensures.len)) shows) ∙ found.1 in
          placed text active c.places.from s (c.places.from == 0) _ (written c.places.out.items c.places.line) new found.2
          (c.in_ok-elapsed.ensures changes instance_state shows is_active) (c.places.invariant.rest changes instance_state shows)
          ∙ ap (λ (b : Bool). new ++ continued b (map text (places_from active (s + 1)))) (sym more);
    }

pub places-smaller : goal.places-smaller
places-smaller c =
    let found = c.in-Some.ensures.some c.places.from c.places.invariant.stands in
    let after : c.places.from ≤ c.in-Some.s = first_after c.places.from (drop c.places.from c.active_flags-active.result.now) c.in-Some.s _ found.2 in
    omega (arith, found.0, after)

pub returns : goal.returns
returns c changes instance_state shows =
    let tables = tables_in c.args.view.now in
    c.in_ok-put_end.ensures
    ∙ all_placed (is_step_active tables instance_state) (step_text c.args.names.now tables instance_state)
    c.active_flags-active.result.now _ c.places.from (c.places.from == 0) (written c.args.out.now.items c.args.line.now)
    (written c.places.out.items c.places.line) c.active_flags-active.ensures.len
    (λ j lt. c.active_flags-active.ensures.each changes instance_state j lt shows)
    (c.next.ensures.none c.places.from c.places.invariant.stands c.in_default.is)
    (c.places.invariant.rest changes instance_state shows)
