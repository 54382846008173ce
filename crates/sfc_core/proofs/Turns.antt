-- What the answer to a scan tells of the tasks that wait.
use Rattle.std.proofs.Common.{◌≡◌, ◌≢◌, ◌∙◌, inl, inr, ℕ, ◌<◌, ◌==◌, Bool, true, false, not, List, length, nat_lt, int_lt, arith, refl, sym, subst, ap}
use Rattle.std.proofs.Common.{ℤ, Option, Some, None, Ok, Err, is_none}
use Rattle.std.proofs.lemmas.Bool.Decides.{eqb_tells, nat_tests}
use Rattle.sfc_base.specs.declared.ids.TaskId.{TaskId}
use Rattle.sfc_plant.specs.Plants.{PlantData}
use Rattle.sfc_instances.proofs.of_sfc_image.Counting.{same_number}
use Rattle.sfc_plant.specs.declared.task.Task.{Task}
use Rattle.sfc_tasks.specs.Calls.{Call, single_of}
use Rattle.sfc_tasks.specs.Multiples.{next_release}
use Rattle.sfc_tasks.specs.Releases.{interval_of, waits_since}
use Rattle.sfc_tasks.specs.Pick.{picked, IsPicked}
use Rattle.sfc_tasks.proofs.Picking.{picked_is, is_picked, none_waits}
use Rattle.sfc_events.specs.declared.event.Event.TheVariants.{Scan}
use Rattle.sfc_events.specs.declared.event.Outcome.{Outcome}
use Rattle.sfc_events.specs.declared.refusal.Refusal.{Refusal}
use Rattle.sfc_events.specs.declared.refusal.Refusal.TheVariants.{InstantRange, ClockBack, UnknownTask, NotDue, Yield}
use Rattle.sfc_events.specs.History.{History, last_instant}
use Rattle.sfc_core.specs.Due.{singles_of, calls_at}
use Rattle.sfc_core.specs.Verdict.{is_out_of_range, refused_if, or_then, instant_refusal, task_refusal, due_refusal, yield_to, yield_refusal}
use Rattle.sfc_core.specs.Verdict.{turn_refusal, first_refusal, answer, verdict, verdict_by}
use Rattle.sfc_core.proofs.Verdicts.{second_none}

none_stands : (o : Option Refusal) (says outcome : Outcome) → verdict_by o says ≡ Ok outcome → o ≡ None
none_stands None says outcome e = refl
none_stands (Some refusal) says outcome e = absurd cc

one_stands : (o : Option Refusal) (says : Outcome) (refusal : Refusal) → verdict_by o says ≡ Err refusal → o ≡ Some refusal
one_stands None says refusal e = absurd cc
one_stands (Some other) says refusal e = cc

first_none : (a b : Option Refusal) → or_then a b ≡ None → a ≡ None
first_none (Some x) b e = absurd cc
first_none None b e = refl

-- a refusal that is not this one is of what comes later
later : (b : Bool) (one refusal : Refusal) (rest : Option Refusal) → (one ≡ refusal → ⊥) → or_then (refused_if b one) rest ≡ Some refusal
    → rest ≡ Some refusal
later true one refusal rest other e = let same : one ≡ refusal = cc in absurd (other same)
later false one refusal rest other e = e

unrefused : (b : Bool) (refusal : Refusal) → refused_if b refusal ≡ None → b ≡ false
unrefused true refusal e = absurd cc
unrefused false refusal e = refl

is_there : (b : Bool) → not b ≡ false → b ≡ true
is_there true e = refl
is_there false e = absurd cc

-- what is told of the task that goes first
yield_none : (task : TaskId) (o : Option TaskId) (P : Type 0) → yield_to task o ≡ None → (o ≡ None → P)
    → ((first : TaskId) → o ≡ Some first → first.0 ≡ task.0 → P) → P
yield_none task None P e none some = none refl
yield_none task (Some first) P e none some =
    elim (eqb_tells first.0 task.0) as (λ _. P) [
      | inl w ↦ some first refl w.1
      | inr w ↦
          let no : not (first.0 == task.0) ≡ true = ap not w.0 in
          let yes : not (first.0 == task.0) ≡ false = unrefused (not (first.0 == task.0)) (Yield first) e in
          absurd cc
    ]

-- of the instant neither
in_range : (a b : Bool) (rest : Option Refusal) (refusal : Refusal) → (InstantRange ≡ refusal → ⊥) → (ClockBack ≡ refusal → ⊥)
    → or_then (or_then (refused_if a InstantRange) (refused_if b ClockBack)) rest ≡ Some refusal → rest ≡ Some refusal
in_range true b rest refusal range back e = let same : InstantRange ≡ refusal = cc in absurd (range same)
in_range false true rest refusal range back e = let same : ClockBack ≡ refusal = cc in absurd (back same)
in_range false false rest refusal range back e = e

not_other_refusal : (b : Bool) (one other : Refusal) → (one ≡ other → ⊥) → refused_if b one ≡ Some other → ⊥
not_other_refusal true one other differ e = let same : one ≡ other = cc in differ same
not_other_refusal false one other differ e = cc

due_refused : (since : Option ℤ) (shown : Option ℤ) (task : TaskId) (o : Option TaskId) (next : Option ℤ)
    → or_then (refused_if (is_none since) (NotDue shown)) (yield_to task o) ≡ Some (NotDue next) → since ≡ None
due_refused None shown task o next e = refl
due_refused (Some u) shown task None next e = absurd cc
due_refused (Some u) shown task (Some first) next e =
    absurd (not_other_refusal (not (first.0 == task.0)) (Yield first) (NotDue next) (λ f. cc) e)

pub record Tells (task first : TaskId) (o : Option TaskId) : Type 0 where
  pub is : o ≡ Some first
  pub other : first.0 ≢ task.0

yield_some : (task first : TaskId) (o : Option TaskId) → yield_to task o ≡ Some (Yield first) → Tells task first o
yield_some task first None e = absurd cc
yield_some task first (Some other) e =
    elim (eqb_tells other.0 task.0) as (λ _. Tells task first (Some other)) [
      | inl w ↦
          let off : yield_to task (Some other) ≡ None = ap (λ (b : Bool). refused_if (not b) (Yield other)) w.0 in
          absurd cc
      | inr w ↦
          let on : yield_to task (Some other) ≡ Some (Yield other) = ap (λ (b : Bool). refused_if (not b) (Yield other)) w.0 in
          let same : other ≡ first = cc in
          record { is = ap Some same; other = λ e'. w.1 (ap (λ (x : TaskId). x.0) same ∙ e') }
    ]

differs : (n m : ℕ) → n ≢ m → (n == m) ≡ false
differs n m other = elim (eqb_tells n m) as (λ _. (n == m) ≡ false) [
  | inl e ↦ absurd (other e.1)
  | inr e ↦ e.0
]

-- it is the turn of the task that goes first
pub first_turn : (tasks : List Task) (singles : List Bool) (calls : List Call) (task : TaskId) (t : ℤ) → picked tasks calls ≡ Some task
    → None ≡ or_then (due_refusal tasks singles calls task t) (yield_refusal tasks calls task)
first_turn tasks singles calls task t e =
    let first : IsPicked tasks calls task.0 = picked_is tasks calls task e in
    let due : due_refusal tasks singles calls task t ≡ None =
    ap (λ o. refused_if (is_none o) (NotDue (next_release (interval_of tasks task.0) (single_of singles task.0) t))) first.waits in
    let turn : yield_refusal tasks calls task ≡ None =
    ap (yield_to task) e ∙ ap (λ b. refused_if (not b) (Yield task)) (same_number task.0) in
    sym (λ i. or_then (due i) (turn i))

yields_none : (task : TaskId) (o : Option TaskId) → ((first : TaskId) → o ≡ Some first → first.0 ≡ task.0) → yield_to task o ≡ None
yields_none task None same = refl
yields_none task (Some first) same =
    ap (λ (n : ℕ). refused_if (not (n == task.0)) (Yield first)) (same first refl)
    ∙ ap (λ b. refused_if (not b) (Yield first)) (same_number task.0)

then_none : (o : Option Refusal) → o ≡ or_then o None
then_none None = refl
then_none (Some refusal) = refl

-- one task alone yields to none
pub alone_turn : (tasks : List Task) (singles : List Bool) (calls : List Call) (task : TaskId) (t : ℤ) → length tasks ≡ 1 → task.0 < 1
    → due_refusal tasks singles calls task t ≡ or_then (due_refusal tasks singles calls task t) (yield_refusal tasks calls task)
alone_turn tasks singles calls task t one lt =
    let turn : yield_refusal tasks calls task ≡ None =
    yields_none task (picked tasks calls)
    (λ first is.
    let first_is : IsPicked tasks calls first.0 = picked_is tasks calls first is in
    omega (arith, first_is.number, one, lt)) in
    then_none (due_refusal tasks singles calls task t)
    ∙ sym (ap (λ (o : Option Refusal). or_then (due_refusal tasks singles calls task t) o) turn)

module _ (plant : PlantData) (h : History) (task : TaskId) (t : ℤ) where
  -- the refusals of a scan, by parts
  undue : Option Refusal
  undue = due_refusal plant.tasks (singles_of plant h) (calls_at plant h t) task t

  unpicked : Option Refusal
  unpicked = yield_refusal plant.tasks (calls_at plant h t) task

  refusals : first_refusal plant h (Scan task) t
      ≡ or_then (instant_refusal (last_instant h) t) (or_then (task_refusal plant task) (or_then undue unpicked))
  unfolding first_refusal turn_refusal undue unpicked
  refusals = refl

  pub picked_first : (outcome : Outcome) → verdict plant h (Scan task) t ≡ Ok outcome → IsPicked plant.tasks (calls_at plant h t) task.0
  unfolding undue unpicked
  picked_first outcome e =
      let none : or_then (instant_refusal (last_instant h) t) (or_then (task_refusal plant task) (or_then undue unpicked)) ≡ None =
      sym refusals ∙ none_stands (first_refusal plant h (Scan task) t) (answer plant h (Scan task) t) outcome e in
      let named : or_then (task_refusal plant task) (or_then undue unpicked) ≡ None =
      second_none (instant_refusal (last_instant h) t) (or_then (task_refusal plant task) (or_then undue unpicked)) none in
      let turn : or_then undue unpicked ≡ None = second_none (task_refusal plant task) (or_then undue unpicked) named in
      let waits : is_none (waits_since plant.tasks (calls_at plant h t) task.0) ≡ false =
      unrefused (is_none (waits_since plant.tasks (calls_at plant h t) task.0)) _ (first_none undue unpicked turn) in
      let there : task_refusal plant task ≡ None = first_none (task_refusal plant task) (or_then undue unpicked) named in
      let known : nat_lt task.0 (length plant.tasks) ≡ true =
      is_there (nat_lt task.0 (length plant.tasks)) (unrefused (not (nat_lt task.0 (length plant.tasks))) UnknownTask there) in
      let within : task.0 < length plant.tasks = grind (arith, nat_tests, known) in
      yield_none task (picked plant.tasks (calls_at plant h t)) (IsPicked plant.tasks (calls_at plant h t) task.0)
      (second_none undue unpicked turn)
      (λ nobody.
      let idle : is_none (waits_since plant.tasks (calls_at plant h t) task.0) ≡ true =
      ap is_none (none_waits plant.tasks (calls_at plant h t) nobody task.0 within) in
      absurd cc)
      (λ first is same. subst (λ n. IsPicked plant.tasks (calls_at plant h t) n) same (picked_is plant.tasks (calls_at plant h t) first is))

  -- where nothing is wrong with the instant
  pub picked_runs : instant_refusal (last_instant h) t ≡ None → IsPicked plant.tasks (calls_at plant h t) task.0
      → verdict plant h (Scan task) t ≡ Ok (answer plant h (Scan task) t)
  unfolding undue unpicked
  picked_runs instant first =
      let known : nat_lt task.0 (length plant.tasks) ≡ true = let lt = first.number in grind arith in
      let there : task_refusal plant task ≡ None = ap (λ b. refused_if (not b) UnknownTask) known in
      let due : undue ≡ None =
      ap (λ o. refused_if (is_none o) (NotDue (next_release (interval_of plant.tasks task.0) (single_of (singles_of plant h) task.0) t)))
      first.waits in
      let turn : unpicked ≡ None =
      ap (yield_to task) (is_picked plant.tasks (calls_at plant h t) task first)
      ∙ ap (λ b. refused_if (not b) (Yield task)) (same_number task.0) in
      let unrefused : first_refusal plant h (Scan task) t ≡ None =
      refusals ∙ (λ i. or_then (instant i) (or_then (there i) (or_then (due i) (turn i)))) in
      ap (λ o. verdict_by o (answer plant h (Scan task) t)) unrefused

  is_known : task.0 < length plant.tasks → task_refusal plant task ≡ None
  is_known lt =
      let known : nat_lt task.0 (length plant.tasks) ≡ true = grind (arith, nat_tests, lt) in
      ap (λ b. refused_if (not b) UnknownTask) known

  -- where no release of the task waits
  pub idle_refused : instant_refusal (last_instant h) t ≡ None → task.0 < length plant.tasks
      → waits_since plant.tasks (calls_at plant h t) task.0 ≡ None
      → verdict plant h (Scan task) t ≡ Err (NotDue (next_release (interval_of plant.tasks task.0) (single_of (singles_of plant h) task.0) t))
  unfolding undue unpicked
  idle_refused instant lt idle =
      let next : Option ℤ = next_release (interval_of plant.tasks task.0) (single_of (singles_of plant h) task.0) t in
      let due : undue ≡ Some (NotDue next) = ap (λ o. refused_if (is_none o) (NotDue next)) idle in
      let refused : first_refusal plant h (Scan task) t ≡ Some (NotDue next) =
      refusals ∙ (λ i. or_then (instant i) (or_then (is_known lt i) (or_then (due i) unpicked))) in
      ap (λ o. verdict_by o (answer plant h (Scan task) t)) refused

  -- where one waits, and another task goes first
  pub behind_refused : (first : TaskId) (since : ℤ) → instant_refusal (last_instant h) t ≡ None → task.0 < length plant.tasks
      → waits_since plant.tasks (calls_at plant h t) task.0 ≡ Some since → IsPicked plant.tasks (calls_at plant h t) first.0
      → first.0 ≢ task.0 → verdict plant h (Scan task) t ≡ Err (Yield first)
  unfolding undue unpicked
  behind_refused first since instant lt waits goes_first other =
      let due : undue ≡ None =
      ap (λ o. refused_if (is_none o) (NotDue (next_release (interval_of plant.tasks task.0) (single_of (singles_of plant h) task.0) t))) waits in
      let turn : unpicked ≡ Some (Yield first) =
      ap (yield_to task) (is_picked plant.tasks (calls_at plant h t) first goes_first)
      ∙ ap (λ b. refused_if (not b) (Yield first)) (differs first.0 task.0 other) in
      let refused : first_refusal plant h (Scan task) t ≡ Some (Yield first) =
      refusals ∙ (λ i. or_then (instant i) (or_then (is_known lt i) (or_then (due i) (turn i)))) in
      ap (λ o. verdict_by o (answer plant h (Scan task) t)) refused

  -- the part of the refusals that comes last
  turn_refused : (refusal : Refusal) → (InstantRange ≡ refusal → ⊥) → (ClockBack ≡ refusal → ⊥) → (UnknownTask ≡ refusal → ⊥)
      → verdict plant h (Scan task) t ≡ Err refusal → or_then undue unpicked ≡ Some refusal
  turn_refused refusal range back unknown e =
      let one : or_then (instant_refusal (last_instant h) t) (or_then (task_refusal plant task) (or_then undue unpicked)) ≡ Some refusal =
      sym refusals ∙ one_stands (first_refusal plant h (Scan task) t) (answer plant h (Scan task) t) refusal e in
      later (not (nat_lt task.0 (length plant.tasks))) UnknownTask refusal (or_then undue unpicked) unknown
      (in_range (is_out_of_range t) (int_lt t (last_instant h)) (or_then (task_refusal plant task) (or_then undue unpicked)) refusal range
      back one)

  pub waits_not : (next : Option ℤ) → verdict plant h (Scan task) t ≡ Err (NotDue next)
      → waits_since plant.tasks (calls_at plant h t) task.0 ≡ None
  unfolding undue unpicked
  waits_not next e =
      due_refused (waits_since plant.tasks (calls_at plant h t) task.0) _ task (picked plant.tasks (calls_at plant h t)) next
      (turn_refused (NotDue next) (λ f. cc) (λ f. cc) (λ f. cc) e)

  pub another_first : (first : TaskId) → verdict plant h (Scan task) t ≡ Err (Yield first)
      → Tells task first (picked plant.tasks (calls_at plant h t))
  unfolding undue unpicked
  another_first first e =
      yield_some task first (picked plant.tasks (calls_at plant h t))
      (later (is_none (waits_since plant.tasks (calls_at plant h t) task.0)) _ (Yield first) unpicked (λ f. cc)
      (turn_refused (Yield first) (λ f. cc) (λ f. cc) (λ f. cc) e))
