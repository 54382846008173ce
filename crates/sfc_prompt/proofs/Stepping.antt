-- Steps of a prompt, one after the other.
use Rattle.std.proofs.Common.{◌≡◌, refl, subst, ℕ, ◌+◌, ◌<◌, ◌==◌, ◌||◌, arith, Bool, true, false, List, [], Option, Some, None, Result, Ok, Err}
use Rattle.std.specs.Prelude.{MatchOption, OnOk, is_some}
use Rattle.std.proofs.lemmas.Bool.Decides.{nat_tests}
use Rattle.sfc_asking.specs.sfc_debug.declared.break_condition.BreakCondition.{BreakCondition}
use Rattle.sfc_asking.specs.sfc_debug.Histories.{CommandHistory}
use Rattle.sfc_prompt.specs.declared.course.Course.{Course}
use Rattle.sfc_prompt.specs.declared.prompt.Prompt.{Prompt}
use Rattle.sfc_prompt.specs.Courses.{Begins, IsBehindStep, StepsOn, TellsEnd, is_over_after, step_behind}
use Rattle.sfc_prompt.specs.Lines.{line_said}
use Rattle.sfc_prompt.specs.Notes.{Adds}
use Rattle.sfc_prompt.specs.Orders.{Obeys, order_of}
use Rattle.sfc_prompt.specs.Prompts.{course_in, last_in, session_in}
use Rattle.sfc_prompt.specs.Walks.{IsAnswered, IsNext}
use Rattle.sfc_session.specs.Sessions.{HasSaid, steered_in}

-- how they ended, where that is told
pub told_end : {X E : Type 0} (result : Result X E) (condition : Option BreakCondition) (before behind : List ℕ)
    → OnOk result (Adds before behind) → (condition ≡ None → OnOk result (behind ≡ before)) → OnOk result (TellsEnd condition before behind)
told_end (Ok x) None before behind adds none = none refl
told_end (Ok x) (Some condition) before behind adds none = adds
told_end (Err error) condition before behind adds none = tt

-- ---- whether steps are under way

some_of : {A : Type 0} (o : Option A) → is_some o ≡ true → (x : A) × (o ≡ Some x)
some_of None e = absurd (let bad : false ≡ true = e in cc)
some_of (Some x) e = (x, refl)

pub match_none : {A : Type 0} (o : Option A) (P : Type 0) (Q : A → Type 0) → ((x : A) → o ≡ Some x → ⊥) → MatchOption o P Q → P
match_none None P Q never is = is
match_none (Some x) P Q never is = absurd (never x refl)

pub none_of : {A : Type 0} (o : Option A) → is_some o ≡ false → o ≡ None
none_of None e = refl
none_of (Some x) e = absurd (let bad : true ≡ false = e in cc)

orb_first : (a b : Bool) → (a || b) ≡ false → a ≡ false
orb_first false b e = refl
orb_first true b e = e

pub some_left : (n : ℕ) (met : Bool) → (n == 0 || met) ≡ false → 0 < n
some_left n met e = let some : (n == 0) ≡ false = orb_first (n == 0) met e in grind (arith, nat_tests)

-- so many steps are left, and their end
abbrev pub steps_left : Option Course → ℕ
steps_left None = 0
steps_left (Some course) = course.left + 1

pub fewer : (old new : Option Course) → is_some old ≡ true → ((course : Course) → old ≡ Some course → IsBehindStep course new)
    → steps_left new < steps_left old
fewer None new some behind = absurd (let bad : false ≡ true = some in cc)
fewer (Some course) None some behind = omega arith
fewer (Some course) (Some next) some behind = let less : next.left + 1 ≡ course.left = behind course refl in omega arith

-- ---- what was put behind nothing

module _ (old new : Prompt) (before text : List ℕ) (none : before ≡ []) where
  pub next_by : is_some (course_in old) ≡ true
      → ((h : CommandHistory) (lines : List ℕ) (course : Course) → HasSaid (session_in old) h lines → course_in old ≡ Some course
      → StepsOn (session_in old) (session_in new) before text h lines course (course_in new) (is_over_after (steered_in (session_in old)) h course))
      → last_in new ≡ last_in old → IsNext old new text
  next_by some steps last =
      let found = some_of (course_in old) some in
      record {
        course = found.0;
        under_way = found.1;
        steps = λ h lines said.
            subst (λ (t : List ℕ). StepsOn (session_in old) (session_in new) t text h lines found.0 (course_in new)
            (is_over_after (steered_in (session_in old)) h found.0)) none (steps h lines found.0 said found.1);
        last = last;
      }

  pub answered_by : (line : List ℕ) → ((h : CommandHistory) (lines : List ℕ) → HasSaid (session_in old) h lines
      → Obeys (session_in old) (session_in new) before text h lines (order_of (steered_in (session_in old)) h (line_said line)))
      → last_in new ≡ step_behind (steered_in (session_in old)).plant (last_in old) (line_said line)
      → Begins (steered_in (session_in old)).plant (last_in old) (line_said line) (course_in old) (course_in new) → IsAnswered old new line text
  answered_by line obeys last begins = record {
    obeys = λ h lines said.
        subst (λ (t : List ℕ). Obeys (session_in old) (session_in new) t text h lines
        (order_of (steered_in (session_in old)) h (line_said line))) none (obeys h lines said);
    last = last;
    begins = begins;
  }
