-- What is kept of the calls is their past, and the past goes on by one call.
use denote.Struct.Props.{props}
use Rattle.std.proofs.Common.{◌≡◌, ℕ, zero, suc, ◌+◌, ◌<◌, arith, Bool, true, false, cond, ◌&&◌, List, [], ◌∷◌, ◌++◌, length}
use Rattle.std.proofs.Common.{refl, sym, ◌∙◌, ap, ℤ, Option, Some, None}
use Rattle.std.specs.Prelude.{map, find, option_map}
use Rattle.std.specs.List.{list_all, range_with_len}
use Rattle.std.proofs.lemmas.List.{length-append}
use Rattle.sfc_base.proofs.ByPlace.{at_place, mapped}
use Rattle.sfc_plant.specs.declared.task.Task.{Task}
use Rattle.sfc_tasks.specs.declared.table.TaskTable.{TaskTable}
use Rattle.sfc_tasks.specs.Calls.{Call, Elapsed, Rose, Served, serves, last_instant}
use Rattle.sfc_tasks.specs.Releases.{interval_of, released, waiting, first_of, beyond_first, late_releases, capped, overruns, waits_since}
use Rattle.sfc_tasks.specs.Pick.{rank_of, is_before_task, goes_first, goes_first_since, picked}
use Rattle.sfc_tasks.specs.Agreement.{TasksAgree}
use Rattle.sfc_tasks.specs.Past.{task_past, tasks_past, task_in, past_in}

-- ---- the past of each task

module _ (tasks : List Task) (calls other : List Call) (same : tasks_past tasks calls ≡ tasks_past tasks other) where
  pub task_by : (k : ℕ) → k < length tasks → task_past tasks calls k ≡ task_past tasks other k
  task_by k lt = at_place (task_past tasks calls) (task_past tasks other) (length tasks) k (task_past tasks [] 0) lt (ap (λ p. p.each) same)

  pub waits_by : (k : ℕ) → k < length tasks → waits_since tasks calls k ≡ waits_since tasks other k
  waits_by k lt = ap (λ p. p.since) (task_by k lt)

  pub overruns_by : (k : ℕ) → k < length tasks → overruns (interval_of tasks k) k calls ≡ overruns (interval_of tasks k) k other
  overruns_by k lt = ap (λ p. p.overruns) (task_by k lt)

-- ---- what is kept is the past

pub keeps_past : (tasks : List Task) (table : TaskTable) (calls : List Call) → TasksAgree tasks table calls
    → past_in tasks table ≡ tasks_past tasks calls
unfolding TasksAgree past_in
keeps_past tasks table calls k =
    let each : map (task_in table) (range_with_len 0 (length tasks)) ≡ map (task_past tasks calls) (range_with_len 0 (length tasks)) =
    mapped (task_in table) (task_past tasks calls) (length tasks) (λ n lt.
    let one = k.each n lt in
    (λ i. record { since = one.releases.since i; more = one.releases.more i; overruns = one.overruns i })) in
    (λ i. record { last = k.last i; each = each i })

pub same_past : (tasks : List Task) (table : TaskTable) (calls other : List Call) → TasksAgree tasks table calls
    → tasks_past tasks calls ≡ tasks_past tasks other → TasksAgree tasks table other
unfolding TasksAgree
same_past tasks table calls other k e = record {
  size = k.size;
  last = k.last ∙ ap (λ p. p.last) e;
  each = λ n lt.
      let one = k.each n lt in
      let by = task_by tasks calls other e n lt in
      record {
        interval = one.interval;
        priority = one.priority;
        releases = record {
          since = one.releases.since ∙ ap (λ p. p.since) by;
          more = one.releases.more ∙ ap (λ p. p.more) by;
        };
        overruns = one.overruns ∙ ap (λ p. p.overruns) by;
      };
}

-- ---- one call more

capped_sum : (a b : ℕ) → capped (a + b) ≡ capped (capped a + capped b)
capped_sum a b = omega arith

-- releases behind those that wait
abbrev since_after : Option ℤ → List ℤ → Option ℤ
since_after None us = first_of us
since_after (Some u) us = Some u

abbrev more_after : Option ℤ → ℕ → List ℤ → ℕ
more_after None more us = capped (beyond_first us)
more_after (Some u) more us = capped (more + capped (length us))

first_behind : (waited us : List ℤ) → first_of (waited ++ us) ≡ since_after (first_of waited) us
first_behind [] us = refl
first_behind (u ∷ waited) us = refl

more_behind : (waited us : List ℤ) → capped (beyond_first (waited ++ us)) ≡ more_after (first_of waited) (capped (beyond_first waited)) us
more_behind [] us = refl
more_behind (u ∷ waited) us =
    let l : length (waited ++ us) ≡ length waited + length us = length-append waited us in
    let one : beyond_first (u ∷ waited ++ us) ≡ beyond_first (u ∷ waited) + length us = omega arith in
    ap capped one ∙ capped_sum (beyond_first (u ∷ waited)) (length us)

module _ (tasks : List Task) (call : Call) (calls other : List Call) (last : last_instant calls ≡ last_instant other) (k : ℕ)
    (same : task_past tasks calls k ≡ task_past tasks other k) where
  abbrev n : ℤ
  n = interval_of tasks k

  since_next : (b : Bool)
      → first_of (cond b [] (waiting n k calls ++ released n k (last_instant calls) call))
      ≡ first_of (cond b [] (waiting n k other ++ released n k (last_instant other) call))
  since_next true = refl
  since_next false =
      first_behind (waiting n k calls) (released n k (last_instant calls) call)
      ∙ (λ i. since_after (same i).since (released n k (last i) call))
      ∙ sym (first_behind (waiting n k other) (released n k (last_instant other) call))

  more_next : (b : Bool)
      → capped (beyond_first (cond b [] (waiting n k calls ++ released n k (last_instant calls) call)))
      ≡ capped (beyond_first (cond b [] (waiting n k other ++ released n k (last_instant other) call)))
  more_next true = refl
  more_next false =
      more_behind (waiting n k calls) (released n k (last_instant calls) call)
      ∙ (λ i. more_after (same i).since (same i).more (released n k (last i) call))
      ∙ sym (more_behind (waiting n k other) (released n k (last_instant other) call))

  overruns_next : (b : Bool)
      → capped (late_releases n k calls + cond b (beyond_first (waiting n k calls)) 0)
      ≡ capped (late_releases n k other + cond b (beyond_first (waiting n k other)) 0)
  overruns_next true =
      capped_sum (late_releases n k calls) (beyond_first (waiting n k calls))
      ∙ (λ i. capped ((same i).overruns + (same i).more))
      ∙ sym (capped_sum (late_releases n k other) (beyond_first (waiting n k other)))
  overruns_next false =
      capped_sum (late_releases n k calls) 0 ∙ (λ i. capped ((same i).overruns + capped 0)) ∙ sym (capped_sum (late_releases n k other) 0)

  task_next : task_past tasks (call ∷ calls) k ≡ task_past tasks (call ∷ other) k
  task_next = (λ i. record {
    since = since_next (serves k call) i;
    more = more_next (serves k call) i;
    overruns = overruns_next (serves k call) i;
  })

last_next : (call : Call) (calls other : List Call) → last_instant calls ≡ last_instant other
    → last_instant (call ∷ calls) ≡ last_instant (call ∷ other)
last_next (Elapsed t singles) calls other e = refl
last_next (Rose task t) calls other e = e
last_next (Served task) calls other e = e

pub past_next : (tasks : List Task) (call : Call) (calls other : List Call) → tasks_past tasks calls ≡ tasks_past tasks other
    → tasks_past tasks (call ∷ calls) ≡ tasks_past tasks (call ∷ other)
past_next tasks call calls other same =
    let last : last_instant calls ≡ last_instant other = ap (λ p. p.last) same in
    let now = last_next call calls other last in
    let each = mapped (task_past tasks (call ∷ calls)) (task_past tasks (call ∷ other)) (length tasks)
    (λ k lt. task_next tasks call calls other last k (task_by tasks calls other same k lt)) in
    (λ i. record { last = now i; each = each i })

pub past_cut : (tasks : List Task) (calls other later : List Call) → tasks_past tasks calls ≡ tasks_past tasks other
    → tasks_past tasks (later ++ calls) ≡ tasks_past tasks (later ++ other)
past_cut tasks calls other [] e = e
past_cut tasks calls other (call ∷ later) e = past_next tasks call (later ++ calls) (later ++ other) (past_cut tasks calls other later e)

-- ---- which task goes first

all_from : (p q : ℕ → Bool) (a n : ℕ) → ((k : ℕ) → k < n → p (a + k) ≡ q (a + k))
    → list_all p (range_with_len a n) ≡ list_all q (range_with_len a n)
all_from p q a zero each = refl
all_from p q a (suc n) each =
    let here : a + 0 ≡ a = omega arith in
    let first : p a ≡ q a = sym (ap p here) ∙ each 0 (omega arith) ∙ ap q here in
    let rest = all_from p q (a + 1) n
    (λ k lt. let s : a + suc k ≡ a + 1 + k = omega arith in sym (ap p s) ∙ each (suc k) (omega arith) ∙ ap q s) in
    (λ i. first i && rest i)

find_from : (p q : ℕ → Bool) (a n : ℕ) → ((k : ℕ) → k < n → p (a + k) ≡ q (a + k))
    → find p (range_with_len a n) ≡ find q (range_with_len a n)
find_from p q a zero each = refl
find_from p q a (suc n) each =
    let here : a + 0 ≡ a = omega arith in
    let first : p a ≡ q a = sym (ap p here) ∙ each 0 (omega arith) ∙ ap q here in
    let rest = find_from p q (a + 1) n
    (λ k lt. let s : a + suc k ≡ a + 1 + k = omega arith in sym (ap p s) ∙ each (suc k) (omega arith) ∙ ap q s) in
    (λ i. cond (first i) (Some a) (rest i))

zero_and : (f : ℕ → Bool) (k : ℕ) → f (0 + k) ≡ f k
zero_and f k = let e : 0 + k ≡ k = omega arith in ap f e

pub picked_by : (tasks : List Task) (calls other : List Call) → tasks_past tasks calls ≡ tasks_past tasks other
    → picked tasks calls ≡ picked tasks other
unfolding picked
picked_by tasks calls other same =
    let waits = waits_by tasks calls other same in
    let goes : (k : ℕ) → k < length tasks → goes_first tasks calls k ≡ goes_first tasks other k =
    λ k lt. ap (goes_first_since tasks calls k) (waits k lt) ∙ before_all k (waits_since tasks other k) in
    ap (option_map (λ (k : ℕ). record { 0 = k }))
    (find_from (goes_first tasks calls) (goes_first tasks other) 0 (length tasks)
    (λ k lt. zero_and (goes_first tasks calls) k ∙ goes k lt ∙ sym (zero_and (goes_first tasks other) k)))
  where
    before_all : (k : ℕ) (o : Option ℤ) → goes_first_since tasks calls k o ≡ goes_first_since tasks other k o
    before_all k None = refl
    before_all k (Some since) =
        let rank = rank_of tasks k since in
        all_from (λ j. is_before_task tasks rank j (waits_since tasks calls j)) (λ j. is_before_task tasks rank j (waits_since tasks other j))
        0 (length tasks)
        (λ j lt.
        zero_and (λ j. is_before_task tasks rank j (waits_since tasks calls j)) j
        ∙ ap (is_before_task tasks rank j) (waits_by tasks calls other same j lt)
        ∙ sym (zero_and (λ j. is_before_task tasks rank j (waits_since tasks other j)) j))

-- it agrees in one way at most
pub agrees_prop : (tasks : List Task) (table : TaskTable) (calls : List Call) → IsProp (TasksAgree tasks table calls)
unfolding TasksAgree
agrees_prop tasks table calls = hlevel props
