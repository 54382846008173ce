-- A history with one entry more, after any commands.
use Rattle.std.proofs.Common.{◌≡◌, ◌+◌, List, [], ◌∷◌, ◌++◌, refl, sym, ◌∙◌, ap, subst, length, Result, Ok, Err, arith, rules}
use Rattle.std.specs.Prelude.{OnErr}
use Rattle.std.proofs.Math.Logic.{∥∥₁_elim, ∥∥₁_map}
use Rattle.std.proofs.Props.{props}
use Rattle.sfc_plant.specs.Plants.{PlantData}
use Rattle.sfc_events.specs.declared.command.Answer.{Answer}
use Rattle.sfc_events.specs.declared.refusal.Refusal.{Refusal}
use Rattle.sfc_debug.specs.declared.break_condition.BreakCondition.{BreakCondition}
use Rattle.sfc_debug.specs.declared.debugger.Debugger.{Debugger}
use Rattle.sfc_debug.specs.Agreement.{Agrees}
use Rattle.sfc_debug.specs.Histories.{CommandHistory}
use Rattle.sfc_debug.specs.Verdict.{verdict}
use Rattle.sfc_control.specs.declared.entry.Entry.{Entry}
use Rattle.sfc_control.specs.LegalHistory.{timed, told, commands_of, verdicts, answers, IsLegalAfter}

pub told-push : (h : CommandHistory) (es : List Entry) (e : Entry) → told h (es ++ e ∷ []) ≡ timed e ∷ told h es
told-push h [] e = refl
told-push h (x ∷ es) e = told-push (timed x ∷ h) es e

pub length-told : (h : CommandHistory) (es : List Entry) → length (told h es) ≡ length h + length es
length-told h [] = omega arith
length-told h (x ∷ es) =
    let more : length (told (timed x ∷ h) es) ≡ length (timed x ∷ h) + length es = length-told (timed x ∷ h) es in
    omega (arith, more)

verdicts-push : (plant : PlantData) (table : List BreakCondition) (h : CommandHistory) (es : List Entry) (e : Entry) →
    verdicts plant table h (es ++ e ∷ []) ≡ verdicts plant table h es ++ verdict plant table (told h es) e.command e.raw ∷ []
verdicts-push plant table h [] e = refl
verdicts-push plant table h (x ∷ es) e =
    ap (λ vs. verdict plant table h x.command x.raw ∷ vs) (verdicts-push plant table (timed x ∷ h) es e)

answers-push : (es : List Entry) (e : Entry) → answers (es ++ e ∷ []) ≡ answers es ++ Ok e.answer ∷ []
answers-push [] e = refl
answers-push (x ∷ es) e = ap (λ vs. Ok x.answer ∷ vs) (answers-push es e)

pub legal-push : (plant : PlantData) (table : List BreakCondition) (h : CommandHistory) (es : List Entry) (e : Entry) →
    IsLegalAfter plant table h es → verdict plant table (told h es) e.command e.raw ≡ Ok e.answer →
    IsLegalAfter plant table h (es ++ e ∷ [])
legal-push plant table h es e legal is = rw (verdicts-push plant table h es e, answers-push es e, legal, is) refl

-- ---- what the debugger agrees with

pub agrees-push : (old new : Debugger) (es : List Entry) (e : Entry) → ∥ Agrees old (commands_of es) ∥₁ →
    ((h : CommandHistory) → Agrees old h → Agrees new ((e.command, e.raw) ∷ h)) → ∥ Agrees new (commands_of (es ++ e ∷ [])) ∥₁
agrees-push old new es e agrees goes =
    ∥∥₁_map agrees (λ a. subst (Agrees new) (sym (told-push [] es e)) (goes (commands_of es) a))

-- what is so for each history that the debugger agrees with is so for the entries' own
pub here : {X : Type 0} (set : IsSet X) (debugger : Debugger) (es : List Entry) (f : CommandHistory → X) (x : X) →
    ∥ Agrees debugger (commands_of es) ∥₁ → ((h : CommandHistory) → Agrees debugger h → x ≡ f h) → x ≡ f (commands_of es)
here set debugger es f x agrees all = ∥∥₁_elim agrees (set x (f (commands_of es))) (λ a. all (commands_of es) a)

abbrev pub Verdict : Type 0
Verdict = Result Answer Refusal

pub Verdict-set : IsSet Verdict
Verdict-set = hlevel props

clash : (answer : Answer) (why : Refusal) → Ok answer ≡ Err why → ⊥
clash answer why e = search rules

-- what is answered after each history that the debugger agrees with isn't refused
pub accepted_is : (debugger : Debugger) (f : CommandHistory → Verdict) (answer : Answer) (found : Verdict) (P : Type 0) →
    ∥ ((h : CommandHistory) × Agrees debugger h) ∥₁ → ((h : CommandHistory) → Agrees debugger h → Ok answer ≡ f h) →
    ((h : CommandHistory) → Agrees debugger h → found ≡ f h) → OnErr found P
accepted_is debugger f answer (Ok x) P some all is = tt
accepted_is debugger f answer (Err why) P some all is =
    absurd (∥∥₁_elim some (λ a b. absurd a) (λ s. clash answer why (all s.0 s.1 ∙ sym (is s.0 s.1))))
