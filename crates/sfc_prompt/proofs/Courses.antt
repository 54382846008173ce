-- Conditions until which steps are taken, and the steps that UNTIL begins.
use Rattle.std.proofs.Common.{◌≡◌, ◌∙◌, sym, ap, subst, ℕ, ◌<◌, arith, nat_lt, Bool, true, ◌&&◌, List, length, Option, Some, Result, Ok, Err}
use Rattle.std.specs.Prelude.{OnOk}
use Rattle.std.proofs.lemmas.Bool.Decides.{nat_tests}
use Rattle.sfc_asking.specs.sfc_debug.declared.break_condition.BreakCondition.{BreakCondition}
use Rattle.sfc_asking.specs.sfc_debug.Histories.{CommandHistory}
use Rattle.sfc_asking.specs.sfc_debug.Hits.{environment_after, is_met}
use Rattle.sfc_asking.specs.sfc_debug.Steered.{Steered}
use Rattle.sfc_asking.specs.sfc_output.Output.{debugger_of, plant_state}
use Rattle.sfc_base.specs.declared.ids.ProgId.{ProgId}
use Rattle.sfc_plant.specs.Plants.{PlantData}
use Rattle.sfc_asking.specs.sfc_script.Scripts.{ConditionReads}
use Rattle.sfc_prompt.specs.declared.course.Course.{Course}
use Rattle.sfc_prompt.specs.declared.course.Wanted.{Wanted}
use Rattle.sfc_prompt.specs.Courses.{BeginsUntil, asked, holds_after, until_by, wanted_course}

module _ (st : Steered) (h : CommandHistory) (condition : BreakCondition) where
  abbrev there : Bool
  there = nat_lt condition.program.0 (length st.plant.instances)

  abbrev reads : Bool
  reads = is_met (environment_after st.plant (plant_state st ((debugger_of st).state h)) condition.program) (Some condition)

  pub holds_here : (result : Bool) → condition.program.0 < length st.plant.instances → result ≡ reads → result ≡ holds_after st h condition
  holds_here result less is =
      let yes : there ≡ true = grind (arith, nat_tests) in
      is ∙ ap (λ (b : Bool). b && reads) (sym yes)

-- what is under way, where the text was read so
pub begins : (plant : PlantData) (text : List ℕ) (p : ProgId) (condition : List ℕ) (read : Option (List BreakCondition)) (wanted : Wanted)
    (old : Option Course) (all : Bool) → asked plant text ≡ Some (p, condition) → ConditionReads plant 0 p condition read
    → until_by read all old ≡ wanted_course wanted all old → BeginsUntil plant (asked plant text) all old (wanted_course wanted all old)
begins plant text p condition read wanted old all is reads same =
    subst (λ (o : Option (ProgId × List ℕ)). BeginsUntil plant o all old (wanted_course wanted all old)) (sym is) (read, reads, sym same)

-- the same over an equal plant
pub wanted_there : (p q : PlantData) (text : List ℕ) (wanted other : Wanted) (all : Bool) (old new : Option Course) → p ≡ q → wanted ≡ other
    → wanted_course other all old ≡ new → BeginsUntil p (asked p text) all old (wanted_course wanted all old)
    → BeginsUntil q (asked q text) all old new
wanted_there p q text wanted other all old new same is gives begins =
    subst (λ (plant : PlantData). BeginsUntil plant (asked plant text) all old new) same
    (subst (λ (course : Option Course). BeginsUntil p (asked p text) all old course) (ap (λ (w : Wanted). wanted_course w all old) is ∙ gives)
    begins)

pub whatever : {X E : Type 0} (result : Result X E) (P : Type 0) → P → OnOk result P
whatever (Ok x) P has = has
whatever (Err e) P has = tt
