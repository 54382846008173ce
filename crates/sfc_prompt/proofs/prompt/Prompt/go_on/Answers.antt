use Rattle.std.proofs.Common.{◌≡◌, ◌∙◌, refl, sym, ap, subst, ℕ, ◌<◌, Bool, true, false, List, Some, None, rules}
use Rattle.sfc_asking.specs.sfc_debug.Steered.{Steered}
use Rattle.sfc_prompt.specs.declared.course.Course.{Course}
use Rattle.sfc_session.specs.declared.session.Session.{Session}
use Rattle.sfc_prompt.specs.Courses.{StepsOn, TellsEnd, is_met_after, is_over_after}
use Rattle.sfc_prompt.specs.Notes.{Adds}
use Rattle.sfc_prompt.specs.Prompts.{course_in, session_in}
use Rattle.sfc_prompt.specs.Transcripts.{Puts}
use Rattle.sfc_session.specs.Sessions.{steered_in}
use Rattle.sfc_prompt.proofs.Stepping.{some_left, told_end}
use Rattle.sfc_prompt.proofs.Telling.{on_ok, puts_nothing, puts_text}
use Rattle.sfc_prompt.proofs.prompt.Prompt.go_on.Goals as goal

pub returns-in_default-clause-puts : goal.returns-in_default-clause-puts
unfolding session_in
returns-in_default-clause-puts c = puts_nothing c.args.self.now.session c.args.out.now.items

pub returns-then-is_over-clause-puts : goal.returns-then-is_over-clause-puts
unfolding session_in
returns-then-is_over-clause-puts c =
    let session : Session = c.args.self.now.session in
    let x : List ℕ = c.args.out.now.items in
    let z : List ℕ = c.append_end.new.out.items in
    on_ok c.append_end.result (Adds x z) (Puts session session x z) (λ (adds : Adds x z). puts_text session x z adds.0 adds.1)
    c.append_end.ensures.adds

pub returns-then-is_over-clause-steps : goal.returns-then-is_over-clause-steps
unfolding session_in course_in
returns-then-is_over-clause-steps c h lines course said is =
    let session : Session = c.args.self.now.session in
    let st : Steered = steered_in session in
    let x : List ℕ = c.args.out.now.items in
    let z : List ℕ = c.append_end.new.out.items in
    let found : Some c.in-Some.course ≡ Some course = sym c.in-Some.is ∙ c.take.ensures.value ∙ is in
    let same : c.in-Some.course ≡ course = cc in
    let over : true ≡ is_over_after st h course =
    sym c.if-is_over.true ∙ c.is_over.ensures.value h lines said ∙ ap (λ (k : Course). is_over_after st h k) same in
    let none : c.take.new.self ≡ None = search rules in
    on_ok c.append_end.result (TellsEnd c.in-Some.course.condition x z)
    (StepsOn session session x z h lines course c.take.new.self (is_over_after st h course))
    (λ (told : TellsEnd c.in-Some.course.condition x z).
    subst (λ (b : Bool). StepsOn session session x z h lines course c.take.new.self b) over
    (none, subst (λ (k : Course). TellsEnd k.condition x z) same told, record { steered = refl; said = said; script = refl }))
    (told_end c.append_end.result c.in-Some.course.condition x z c.append_end.ensures.adds c.append_end.ensures.nothing)

pub returns-clause-steps : goal.returns-clause-steps
unfolding session_in course_in
returns-clause-steps c h lines course said is =
    let old : Session = c.args.self.now.session in
    let new : Session = c.take_step.new.self.session in
    let st : Steered = steered_in old in
    let x : List ℕ = c.args.out.now.items in
    let z : List ℕ = c.take_step.new.out.items in
    let found : Some c.in-Some.course ≡ Some course = sym c.in-Some.is ∙ c.take.ensures.value ∙ is in
    let same : c.in-Some.course ≡ course = cc in
    let none : c.take.new.self ≡ None = search rules in
    let over : false ≡ is_over_after st h c.in-Some.course = sym c.if-is_over.false ∙ c.is_over.ensures.value h lines said in
    let some : 0 < c.in-Some.course.left = some_left c.in-Some.course.left (is_met_after st h c.in-Some.course.condition) (sym over) in
    on_ok c.take_step.result (StepsOn old new x z h lines c.in-Some.course c.take_step.new.self.course false)
    (StepsOn old new x z h lines course c.take_step.new.self.course (is_over_after st h course))
    (λ steps. subst (λ (k : Course). StepsOn old new x z h lines k c.take_step.new.self.course (is_over_after st h k)) same
    (subst (λ (b : Bool). StepsOn old new x z h lines c.in-Some.course c.take_step.new.self.course b) over steps))
    (c.take_step.ensures.steps h lines said none some)
