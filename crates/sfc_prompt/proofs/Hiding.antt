-- Steps of which nothing is shown.
use Rattle.std.proofs.Common.{◌≡◌, ◌∙◌, refl, sym, ap, subst, ℕ, Bool, true, false, List, ◌++◌, length, Ok, Err}
use Rattle.std.specs.Prelude.{IsOk, take}
use Rattle.std.proofs.Math.Seq.{take-append_seam}
use Rattle.sfc_asking.specs.sfc_debug.Histories.{CommandHistory}
use Rattle.sfc_asking.specs.sfc_output.Output.{Verdict}
use Rattle.sfc_session.specs.declared.session.Session.{Session}
use Rattle.sfc_session.specs.declared.step.Step.{Step}
use Rattle.sfc_session.specs.Scanning.{ends_steps, step_after}
use Rattle.sfc_session.specs.Sessions.{HasSaid, IsTaken, steered_in}
use Rattle.sfc_prompt.specs.Courses.{shown_by}
use Rattle.sfc_prompt.specs.Transcripts.{GoesOn, Puts}
use Rattle.sfc_prompt.proofs.Telling.{puts_hidden, puts_taken}

-- what stood before the lines of a step
pub taken_back : (x y more : List ℕ) → y ≡ x ++ more → take (length x) y ≡ x
taken_back x y more is = ap (λ (t : List ℕ). take (length x) t) is ∙ take-append_seam x more

-- a step that doesn't end them was accepted
accepted : (v : Verdict) → ends_steps v ≡ false → IsOk v
accepted (Ok answer) e = refl
accepted (Err refusal) e = absurd (let bad : true ≡ false = e in cc)

-- whether it is shown or not
pub puts_shown : (old new : Session) (x y z : List ℕ) (hides : Bool) (told : Verdict) (step : Step) → ends_steps told ≡ false
    → z ≡ shown_by hides (take (length x) y) y
    → ((h : CommandHistory) (lines : List ℕ) → HasSaid old h lines → IsTaken old new x y told h lines (step_after (steered_in old) h step))
    → Puts old new x z
puts_shown old new x y z true told step goes is taken h lines has =
    let back : take (length x) y ≡ x = taken_back x y _ (taken h lines has).written in
    subst (λ (t : List ℕ). GoesOn old new x t h lines) (sym (is ∙ back)) (puts_hidden old new x y told step (accepted told goes) taken h lines has)
puts_shown old new x y z false told step goes is taken h lines has =
    subst (λ (t : List ℕ). GoesOn old new x t h lines) (sym is) (puts_taken old new x y told step taken h lines has)
