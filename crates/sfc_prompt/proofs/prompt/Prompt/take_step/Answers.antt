use Rattle.std.proofs.Common.{◌≡◌, ◌∙◌, sym, ap, subst, ℕ, ◌+◌, ◌-◌, arith, Bool, true, false, List, length, Some, rules}
use Rattle.std.specs.Prelude.{take}
use Rattle.sfc_asking.specs.sfc_debug.Histories.{CommandHistory, TimedCommand}
use Rattle.sfc_asking.specs.sfc_debug.Steered.{Steered}
use Rattle.sfc_asking.specs.sfc_output.Output.{Verdict, debugger_of}
use Rattle.sfc_panel.specs.Pictures.{IsPicture}
use Rattle.sfc_session.specs.declared.session.Session.{Session}
use Rattle.sfc_session.specs.Scanning.{ends_steps, step_after}
use Rattle.sfc_session.specs.Sessions.{IsTaken, steered_in}
use Rattle.sfc_prompt.specs.declared.course.Course.{Course}
use Rattle.sfc_prompt.specs.Courses.{GoesBehind, StepsOn, TellsEnd, hides_after, is_quiet, shown_by, state_after}
use Rattle.sfc_prompt.specs.Notes.{Adds}
use Rattle.sfc_prompt.specs.Orders.{is_stopped}
use Rattle.sfc_prompt.specs.Prompts.{course_in, session_in}
use Rattle.sfc_prompt.specs.Transcripts.{Puts}
use Rattle.sfc_prompt.proofs.Hiding.{puts_shown, taken_back}
use Rattle.sfc_prompt.proofs.Stepping.{told_end}
use Rattle.sfc_prompt.proofs.Telling.{hinted, on_ok, puts_taken, puts_text, puts_then}
use Rattle.sfc_prompt.proofs.prompt.Prompt.take_step.Goals as goal

pub returns-then-ends_steps-clause-puts : goal.returns-then-ends_steps-clause-puts
unfolding session_in
returns-then-ends_steps-clause-puts c =
    let old : Session = c.args.self.now.session in
    let new : Session = c.take.new.session in
    let x : List ℕ = c.args.out.now.items in
    let y : List ℕ = c.take.new.out.items in
    let w : List ℕ = c.append_hint.new.out.items in
    let z : List ℕ = c.append_end.new.out.items in
    let v : Verdict = c.in_ok-answer.answer in
    let puts : Puts old new x w =
    λ h lines has. hinted old new x y w h lines (is_stopped v) c.in_ok-append_hint.ensures
    (puts_taken old new x y v c.args.course.step c.in_ok-answer.ensures.taken h lines has) in
    on_ok c.append_end.result (Adds w z) (Puts old new x z)
    (λ (adds : Adds w z). puts_then old new new x w z puts (puts_text new w z adds.0 adds.1)) c.append_end.ensures.adds

pub returns-then-ends_steps-clause-steps : goal.returns-then-ends_steps-clause-steps
unfolding session_in course_in
returns-then-ends_steps-clause-steps c h lines said none some =
    let old : Session = c.args.self.now.session in
    let new : Session = c.take.new.session in
    let st : Steered = steered_in old in
    let course : Course = c.args.course in
    let x : List ℕ = c.args.out.now.items in
    let y : List ℕ = c.take.new.out.items in
    let w : List ℕ = c.append_hint.new.out.items in
    let z : List ℕ = c.append_end.new.out.items in
    let v : Verdict = c.in_ok-answer.answer in
    let g : CommandHistory = (debugger_of st).after h (step_after st h course.step) in
    let ends : true ≡ ends_steps v = sym c.if-ends_steps.true ∙ c.ends_steps.ensures in
    on_ok c.append_end.result (TellsEnd course.condition w z) (StepsOn old new x z h lines course c.args.self.now.course false)
    (λ (told : TellsEnd course.condition w z). (
      v,
      y,
      c.in_ok-answer.ensures.taken h lines said,
      subst (λ (b : Bool). GoesBehind st h g v course x y z b c.args.self.now.course) ends
          (none, w, c.in_ok-append_hint.ensures, told),
    ))
    (told_end c.append_end.result course.condition w z c.append_end.ensures.adds
    (λ e. c.append_end.ensures.nothing (c.behind_step-course.ensures.condition ∙ e)))

pub returns-clause-puts : goal.returns-clause-puts
unfolding session_in
returns-clause-puts c =
    let old : Session = c.args.self.now.session in
    let new : Session = c.take.new.session in
    let x : List ℕ = c.args.out.now.items in
    let y : List ℕ = c.take.new.out.items in
    let v : Verdict = c.in_ok-answer.answer in
    let goes : ends_steps v ≡ false = sym c.ends_steps.ensures ∙ c.if-ends_steps.false in
    let long : c.len-begin.result ≡ length x = search rules in
    puts_shown old new x y c.keep.new.out.items c.hides-hides.result v c.args.course.step goes
    (c.keep.ensures ∙ ap (λ (n : ℕ). shown_by c.hides-hides.result (take n y) y) long) c.in_ok-answer.ensures.taken

pub returns-clause-steps : goal.returns-clause-steps
unfolding session_in course_in
returns-clause-steps c h lines said none some =
    let old : Session = c.args.self.now.session in
    let new : Session = c.take.new.session in
    let st : Steered = steered_in old in
    let course : Course = c.args.course in
    let next : Course = c.behind_step-course.result in
    let x : List ℕ = c.args.out.now.items in
    let y : List ℕ = c.take.new.out.items in
    let z : List ℕ = c.keep.new.out.items in
    let v : Verdict = c.in_ok-answer.answer in
    let timed : TimedCommand = step_after st h course.step in
    let g : CommandHistory = (debugger_of st).after h timed in
    let taken : IsTaken old new x y v h lines timed = c.in_ok-answer.ensures.taken h lines said in
    let goes : false ≡ ends_steps v = sym c.if-ends_steps.false ∙ c.ends_steps.ensures in
    let less : next.left ≡ course.left - 1 = c.behind_step-course.ensures.left in
    let left : next.left + 1 ≡ course.left = omega arith in
    let picture : IsPicture (steered_in new).plant (state_after (steered_in new) h) c.in_ok-picture.picture =
    subst (λ (s : Steered). IsPicture s.plant (state_after s h) c.in_ok-picture.picture) (sym taken.steered) (c.in_ok-picture.ensures h lines said) in
    let quiet : c.is_quiet-is_quiet.result ≡ is_quiet st h g v =
    c.is_quiet-is_quiet.ensures h g _ taken.said picture ∙ ap (λ (s : Steered). is_quiet s h g v) taken.steered in
    let hides : c.hides-hides.result ≡ hides_after st g next (is_quiet st h g v) =
    c.hides-hides.ensures g _ taken.said ∙ (λ i. hides_after (taken.steered i) g next (quiet i)) in
    let long : c.len-begin.result ≡ length x = search rules in
    let kept : z ≡ shown_by (hides_after st g next (is_quiet st h g v)) x y =
    c.keep.ensures ∙ ap (λ (n : ℕ). shown_by c.hides-hides.result (take n y) y) long
    ∙ ap (λ (t : List ℕ). shown_by c.hides-hides.result t y) (taken_back x y _ taken.written)
    ∙ ap (λ (b : Bool). shown_by b x y) hides in (
      v,
      y,
      taken,
      subst (λ (b : Bool). GoesBehind st h g v course x y z b (Some next)) goes (
        record {
          step = c.behind_step-course.ensures.step;
          shows = c.behind_step-course.ensures.shows;
          condition = c.behind_step-course.ensures.condition;
          left = left;
        },
        kept,
      ),
    )
