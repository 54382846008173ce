-- Steps that are alike agree with the same scans, and what is alike before a scan is close after it.
use denote.Struct.Props.{props}
use Rattle.std.proofs.Common.{◌≡◌, ℕ, ◌<◌, false, cond, List, length, ℤ, ◌-ℤ◌, sym, ◌∙◌, ap, subst, arith}
use Rattle.sfc_flags.specs.Flags.{flag}
use Rattle.sfc_tables.specs.Tables.{Tabled}
use Rattle.sfc_evolve.specs.declared.steps.Steps.{Steps}
use Rattle.sfc_evolve.specs.Evolution.{Scan}
use Rattle.sfc_evolve.specs.Agreement.{StepsAgree, Likeness, IsLike, IsClose, step_total, transition_total}
use Rattle.sfc_evolve.specs.Private.Keeping.{number}
use Rattle.sfc_evolve.specs.Private.Proposing.{AreProposed}
use Rattle.sfc_evolve.proofs.Close.{Kept}
use Rattle.sfc_evolve.proofs.Copied.{joined, all_taken}

pub followed : (tables : Tabled) (a b : Steps) (scans : List Scan) → Likeness a b → a.cleared ≡ b.cleared → a.on ≡ b.on
    → StepsAgree tables b scans → StepsAgree tables a scans
unfolding StepsAgree
followed tables a b scans like cleared on k = record {
  size = record { same_steps = ap length like.active ∙ k.size.same_steps; same_transitions = like.transitions ∙ k.size.same_transitions };
  fields = record {
    has_begun = like.begun ∙ k.fields.has_begun;
    activity = λ s lt. ap (λ f. flag f s) like.active ∙ k.fields.activity s lt;
    time = λ s lt now.
        k.fields.time s lt now
        ∙ (λ i. cond (flag (sym like.active i) s) (now -ℤ number (sym like.since i) s) (number (sym like.held_times i) s));
    clearing = λ tr. ap (λ f. flag f tr) cleared ∙ k.fields.clearing tr;
    activation = λ s lt. ap (λ f. flag f s) on ∙ k.fields.activation s lt;
  };
  proposed = subst (λ f. AreProposed tables (flag f) a.candidates) (sym like.active)
      (subst (AreProposed tables (flag b.active)) (sym like.candidates) k.proposed);
}

-- they are alike in one way at most
pub like_prop : (a b : Steps) → IsProp (IsLike a b)
unfolding IsLike
like_prop a b = hlevel props

-- what is alike before a scan is close after it
pub close_after : (other old new : Steps) → IsLike other old → step_total new ≡ step_total old → transition_total new ≡ transition_total old
    → ((s : ℕ) → s < step_total old → flag old.active s ≡ false → flag new.on s ≡ false
    → Kept old.since.items old.held_times.items new.active new.since.items new.held_times.items s)
    → IsClose other new
unfolding IsLike IsClose
close_after other old new like steps transitions keeps =
    let size : step_total other ≡ step_total old = ap length like.active in
    let off : (s : ℕ) → flag other.active s ≡ false → flag old.active s ≡ false = λ s e. ap (λ f. flag f s) (sym like.active) ∙ e in
    record {
      steps = size ∙ sym steps;
      transitions = like.transitions ∙ sym transitions;
      active = λ s lt e quiet. (keeps s (omega (arith, lt, size)) (off s e) quiet).inactive;
      since = λ s lt e quiet.
          ap (λ xs. number xs s) like.since ∙ (keeps s (omega (arith, lt, size)) (off s e) quiet).since_is;
      held_times = λ s lt e quiet.
          ap (λ xs. number xs s) like.held_times ∙ (keeps s (omega (arith, lt, size)) (off s e) quiet).time_is;
    }

-- where the two are close, with the times of some steps taken over all are
pub close_since : (a b : Steps) → IsClose a b → (new : List ℤ) → length new ≡ step_total a
    → ((s : ℕ) → s < step_total a → number new s ≡ joined a.active b.on b.since.items a.since.items s) → new ≡ b.since.items
unfolding IsClose
close_since a b close new long each =
    all_taken a.active b.on b.since.items a.since.items new (step_total a) long (b.since_len ∙ sym close.steps) each close.since

pub close_held_times : (a b : Steps) → IsClose a b → (new : List ℤ) → length new ≡ step_total a
    → ((s : ℕ) → s < step_total a → number new s ≡ joined a.active b.on b.held_times.items a.held_times.items s)
    → new ≡ b.held_times.items
unfolding IsClose
close_held_times a b close new long each =
    all_taken a.active b.on b.held_times.items a.held_times.items new (step_total a) long (b.held_times_len ∙ sym close.steps) each
    close.held_times

-- they are close in one way at most
pub close_prop : (a b : Steps) → IsProp (IsClose a b)
unfolding IsClose
close_prop a b = hlevel props
