use Rattle.std.proofs.Common.{◌≡◌, ◌∙◌, refl, sym, ap, Option, Some}
use Rattle.sfc_plant.specs.Plants.{PlantData}
use Rattle.sfc_asking.specs.sfc_debug.Agreement.{plant_of}
use Rattle.sfc_session.specs.Sessions.{debugger_in}
use Rattle.sfc_prompt.specs.declared.course.Course.{Course}
use Rattle.sfc_prompt.specs.declared.course.Wanted.TheVariants.{Until, Several, Faulty}
use Rattle.sfc_prompt.specs.Courses.{BeginsUntil, asked}
use Rattle.sfc_prompt.specs.Prompts.{course_in, session_in}
use Rattle.sfc_prompt.proofs.Courses.{wanted_there, whatever}
use Rattle.sfc_prompt.proofs.prompt.Prompt.until.Goals as goal

pub returns-in-Until-clause-course : goal.returns-in-Until-clause-course
unfolding session_in course_in
returns-in-Until-clause-course c =
    let old : Option Course = c.args.self.now.course in
    let plant : PlantData = plant_of (debugger_in c.args.self.now.session) in
    let same : c.plant-plant.result.now ≡ plant = c.plant-plant.ensures ∙ c.resource.ensures.plant ∙ ap plant_of c.debugger.ensures in
    wanted_there c.plant-plant.result.now plant c.args.text.now c.in_ok-condition.field-0 (Until c.in-Until.condition) c.args.shows_all old (Some c.until.result) same c.in-Until.is (ap (λ (course : Course). Some course) (sym c.until.ensures))
    (c.in_ok-condition.ensures old c.args.shows_all)

pub returns-in-Several-clause-course : goal.returns-in-Several-clause-course
unfolding session_in course_in
returns-in-Several-clause-course c =
    let old : Option Course = c.args.self.now.course in
    let plant : PlantData = plant_of (debugger_in c.args.self.now.session) in
    let same : c.plant-plant.result.now ≡ plant = c.plant-plant.ensures ∙ c.resource.ensures.plant ∙ ap plant_of c.debugger.ensures in
    whatever c.append_note.result (BeginsUntil plant (asked plant c.args.text.now) c.args.shows_all old old)
    (wanted_there c.plant-plant.result.now plant c.args.text.now c.in_ok-condition.field-0 Several c.args.shows_all old old same c.in-Several.is refl
    (c.in_ok-condition.ensures old c.args.shows_all))

pub returns-in-Faulty-clause-course : goal.returns-in-Faulty-clause-course
unfolding session_in course_in
returns-in-Faulty-clause-course c =
    let old : Option Course = c.args.self.now.course in
    let plant : PlantData = plant_of (debugger_in c.args.self.now.session) in
    let same : c.plant-plant.result.now ≡ plant = c.plant-plant.ensures ∙ c.resource.ensures.plant ∙ ap plant_of c.debugger.ensures in
    whatever c.append_fault.result (BeginsUntil plant (asked plant c.args.text.now) c.args.shows_all old old)
    (wanted_there c.plant-plant.result.now plant c.args.text.now c.in_ok-condition.field-0 (Faulty c.in-Faulty.fault) c.args.shows_all old old same c.in-Faulty.is refl
    (c.in_ok-condition.ensures old c.args.shows_all))
