-- What is kept of a list of releases.
use Rattle.std.proofs.Common.{◌≡◌, ℕ, zero, suc, ◌<◌, arith, List, [], ◌++◌, length, ℤ, Some, refl, sym, ◌∙◌, ap, subst, append-nil}
use Rattle.sfc_tasks.specs.declared.task_slot.TaskSlot.{TaskSlot}
use Rattle.sfc_tasks.specs.Multiples.{multiple, multiples_from}
use Rattle.sfc_tasks.specs.Releases.{first_of}
use Rattle.sfc_tasks.specs.Private.Keeping.{HoldsReleases, SameTask, Gains}

pub length-multiples_from : (interval : ℤ) (m n : ℕ) → length (multiples_from interval m n) ≡ n
length-multiples_from interval m zero = refl
length-multiples_from interval m (suc n) = ap suc (length-multiples_from interval (suc m) n)

pub first_of_multiples : (interval : ℤ) (m n : ℕ) → 0 < n → first_of (multiples_from interval m n) ≡ Some (multiple interval m)
first_of_multiples interval m zero lt = absurd (omega arith)
first_of_multiples interval m (suc n) lt = refl

-- no release more
pub gains_none : (us : List ℤ) (old new : TaskSlot) → us ≡ [] → SameTask old new → new.since ≡ old.since → new.more ≡ old.more
    → Gains us old new
gains_none us old new none same since more = record {
  same = same;
  agrees = λ waited h.
      subst (λ (x : List ℤ). HoldsReleases new x) (sym (ap (λ (x : List ℤ). waited ++ x) none ∙ append-nil waited))
      (record { since = since ∙ h.since; more = more ∙ h.more });
}

pub gains_from : (us : List ℤ) (old mid new : TaskSlot) → SameTask old mid → mid.since ≡ old.since → mid.more ≡ old.more
    → Gains us mid new → Gains us old new
gains_from us old mid new same since more gains = record {
  same = record {
    interval = gains.same.interval ∙ same.interval;
    priority = gains.same.priority ∙ same.priority;
    overruns = gains.same.overruns ∙ same.overruns;
  };
  agrees = λ waited h. gains.agrees waited (record { since = since ∙ h.since; more = more ∙ h.more });
}
