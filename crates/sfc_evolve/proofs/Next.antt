-- Agreement goes on by one scan.
use Rattle.std.proofs.Common.{◌≡◌, ◌⊎◌, inl, inr, ℕ, zero, suc, ◌<◌, ◌==◌, ◌||◌, ◌&&◌, not, Bool, true}
use Rattle.std.proofs.Common.{false, cond, List, [], ◌∷◌, length, refl, sym, ◌∙◌, ap, subst, ℤ, ◌-ℤ◌, arith}
use Rattle.std.specs.Prelude.{replicate, slice_set}
use Rattle.std.specs.List.{list_any}
use Rattle.std.proofs.lemmas.Bool.Decides.{nat_tests}
use Rattle.std.proofs.lemmas.Grind.{common_steps}
use Rattle.std.proofs.lemmas.List.Elements.{All-head, All-tail}
use Rattle.sfc_base.specs.declared.references.StepId.{StepId}
use Rattle.sfc_flags.specs.Flags.{flag, places_from, set_from}
use Rattle.sfc_base.specs.declared.ids.TransitionId.{TransitionId}
use Rattle.sfc_tables.specs.Tables.{Sides, Tabled, AreTables, sides_at}
use Rattle.sfc_evolve.specs.Lookback.{is_empty}
use Rattle.sfc_evolve.specs.Marks.{has, marked}
use Rattle.sfc_evolve.specs.Clearing.{step_count, transition_count, preceding_of, following_of, is_enabled, is_cleared, cleared_in, cleared_set}
use Rattle.sfc_evolve.specs.Evolution.{Scan, Row}
use Rattle.sfc_evolve.specs.Evolution.{some_cleared, activates, leaves, is_activated}
use Rattle.sfc_evolve.specs.Evolution.{is_deactivated, is_active, step_time, row_after, rows_of}
use Rattle.sfc_evolve.specs.Private.Keeping.{AllBelow, number, unmarked, changed_by, left_by, begun_at, set_at, FieldsAgree}
use Rattle.sfc_evolve.proofs.Flagged.{any_where, is_member, members_below}
use Rattle.sfc_evolve.proofs.Flagged.{flag-marked_by, flag-unmarked_by, flag-set_at, number-left_by, number-begun_at}
use Rattle.sfc_evolve.proofs.Looks.{bool_cases, is_in_on, is_in_off, is_in_kept, time_on, time_kept, time_off_in}
use Rattle.sfc_evolve.proofs.TableFacts.{all_preceding_below, all_following_below}

-- ---- what is cleared depends on the activity of the chart's steps alone

module _ (x y : ℕ → Bool) (n : ℕ) (same : (s : ℕ) → s < n → x s ≡ y s) where
  pub all_same : (steps : List StepId) → AllBelow n steps → is_enabled x steps ≡ is_enabled y steps
  all_same [] below = refl
  all_same (p ∷ steps) below =
      let here : x p.0 ≡ y p.0 = same p.0 (All-head (λ (step : StepId). step.0 < n) p steps below) in
      let rest : is_enabled x steps ≡ is_enabled y steps = all_same steps (All-tail (λ (step : StepId). step.0 < n) p steps below) in
      rw (here, rest) refl

  pub cleared_same : (sides : List Sides) → ((tr : TransitionId) → AllBelow n (sides_at sides tr).preceding)
      → (conditions : List Bool) (ranked : List TransitionId) (used cleared : List Bool)
      → cleared_in sides x conditions ranked used cleared ≡ cleared_in sides y conditions ranked used cleared
  cleared_same sides within conditions [] used cleared = refl
  cleared_same sides within conditions (tr ∷ ranked) used cleared =
      let preceding = (sides_at sides tr).preceding in
      let here : is_enabled x preceding ≡ is_enabled y preceding = all_same preceding (within tr) in
      let go = is_cleared y (flag conditions tr.0) preceding used in
      rw here (cleared_same sides within conditions ranked (cond go (marked preceding used) used) (slice_set cleared tr.0 go))

-- ---- a cleared transition was enabled

pub set_where : (flags : List Bool) (b : Bool) (p s : ℕ) → flag (slice_set flags p b) s ≡ true → ((p ≡ s) × (b ≡ true)) ⊎ (flag flags s ≡ true)
set_where [] b p s e = inr e
set_where (f ∷ flags) b zero zero e = inl (refl, e)
set_where (f ∷ flags) b zero (suc s) e = inr e
set_where (f ∷ flags) b (suc p) zero e = inr e
set_where (f ∷ flags) b (suc p) (suc s) e = elim (set_where flags b p s e) [
  | inl here ↦ inl (ap suc here.0, here.1)
  | inr there ↦ inr there
]

pub and_left : (a b : Bool) → (a && b) ≡ true → a ≡ true
and_left true b e = refl
and_left false b e = e

pub clears_enabled : (active : ℕ → Bool) (condition : Bool) (preceding : List StepId) (used : List Bool)
    → is_cleared active condition preceding used ≡ true → is_enabled active preceding ≡ true
clears_enabled active condition preceding used e =
    and_left (is_enabled active preceding) condition
    (and_left (is_enabled active preceding && condition) (not (list_any (λ (step : StepId). flag used step.0) preceding)) e)

cleared_enabled : (sides : List Sides) (active : ℕ → Bool) (conditions : List Bool) (ranked : List TransitionId)
    (used cleared : List Bool) (tr : ℕ)
    → flag (cleared_in sides active conditions ranked used cleared) tr ≡ true
    → (flag cleared tr ≡ true) ⊎ (is_enabled active (preceding_of sides tr) ≡ true)
cleared_enabled sides active conditions [] used cleared tr e = inl e
cleared_enabled sides active conditions (r ∷ ranked) used cleared tr e =
    let preceding = (sides_at sides r).preceding in
    let go = is_cleared active (flag conditions r.0) preceding used in
    elim (cleared_enabled sides active conditions ranked (cond go (marked preceding used) used) (slice_set cleared r.0 go) tr e) [
      | inl was ↦ elim (set_where cleared go r.0 tr was) [
        | inl here ↦ inr (subst (λ (k : ℕ). is_enabled active (preceding_of sides k) ≡ true) here.0
            (clears_enabled active (flag conditions r.0) preceding used here.1))
        | inr there ↦ inl there
      ]
      | inr enabled ↦ inr enabled
    ]

pub none_set : (n s : ℕ) → flag (replicate n false) s ≡ false
none_set n s = grind (arith, common_steps)

all_has : (active : ℕ → Bool) (steps : List StepId) (s : ℕ) → is_enabled active steps ≡ true → has steps s ≡ true → active s ≡ true
all_has active [] s all e = absurd (let bad : false ≡ true = e in cc)
all_has active (p ∷ steps) s all e = elim (bool_cases (p.0 == s)) [
  | inl here ↦ (let same : p.0 ≡ s = grind (arith, nat_tests) in
      subst (λ (k : ℕ). active k ≡ true) same (and_left (active p.0) (is_enabled active steps) all))
  | inr other ↦ (
      let rest : has steps s ≡ true = rw other at e in
      all_has active steps s (and_right (active p.0) (is_enabled active steps) all) rest)
]
  where
    and_right : (a b : Bool) → (a && b) ≡ true → b ≡ true
    and_right true b e = e
    and_right false b e = absurd (let bad : false ≡ true = e in cc)

pub set_enabled : (tables : Tabled) (active : ℕ → Bool) (conditions : List Bool) (tr : ℕ)
    → flag (cleared_set tables active conditions) tr ≡ true
    → is_enabled active (preceding_of tables.sides tr) ≡ true
set_enabled tables active conditions tr is_set =
    elim (cleared_enabled tables.sides active conditions tables.ranked (replicate (step_count tables) false)
    (replicate (transition_count tables) false) tr is_set) [
      | inl before ↦ absurd (let bad : false ≡ true = sym (none_set (transition_count tables) tr) ∙ before in cc)
      | inr enabled ↦ enabled
    ]

-- a step that a scan leaves was active, where all that it clears was enabled
pub left_active : (tables : Tabled) (active : ℕ → Bool) (set : List Bool)
    → ((tr : ℕ) → flag set tr ≡ true → is_enabled active (preceding_of tables.sides tr) ≡ true) → (s : ℕ)
    → leaves tables set s ≡ true → active s ≡ true
left_active tables active set enabled s e =
    let (tr, among, member) = any_where (λ tr. has (preceding_of tables.sides tr) s) (places_from set 0) e in
    let is_set : flag set tr ≡ true = sym (is_member set tr) ∙ member in
    all_has active (preceding_of tables.sides tr) s (enabled tr is_set) among

-- ---- one row more

pub apart : (tables : Tabled) (s : ℕ) (row : Row) → is_activated tables s row ≡ true → is_deactivated tables s row ≡ false
apart tables s row e = rw e refl

module _ (tables : Tabled) (s : ℕ) (row : Row) (rows : List Row) where
  left_is : (on off : Bool) → is_activated tables s row ≡ on → leaves tables row.cleared s ≡ off
      → is_deactivated tables s row ≡ (not on && off)
  left_is on off p q = rw (p, q) refl

  pub next_active : (on off active : Bool) → is_activated tables s row ≡ on → leaves tables row.cleared s ≡ off
      → active ≡ is_active tables rows s → ((not off && active) || on) ≡ is_active tables (row ∷ rows) s
  next_active true off active p q e = or_true (not off && active)
      ∙ sym (is_in_on (is_activated tables s) (is_deactivated tables s) (λ r. r.at) (apart tables s) row rows p)
    where
      or_true : (b : Bool) → (b || true) ≡ true
      or_true true = refl
      or_true false = refl
  next_active false true active p q e =
      sym (is_in_off (is_activated tables s) (is_deactivated tables s) (λ r. r.at) (apart tables s) row rows (left_is false true p q))
  next_active false false active p q e =
      or_false active ∙ e ∙ sym
      (is_in_kept (is_activated tables s) (is_deactivated tables s) (λ r. r.at) (apart tables s) row rows p (left_is false false p q))
    where
      or_false : (b : Bool) → (b || false) ≡ b
      or_false true = refl
      or_false false = refl

  next_time : (on off active : Bool) (since held_time now : ℤ) → is_activated tables s row ≡ on → leaves tables row.cleared s ≡ off
      → (off ≡ true → active ≡ true) → active ≡ is_active tables rows s
      → ((now : ℤ) → step_time tables rows s now ≡ cond active (now -ℤ since) held_time)
      → step_time tables (row ∷ rows) s now
      ≡ cond ((not off && active) || on) (now -ℤ cond on row.at since) (cond off (row.at -ℤ since) held_time)
  next_time true true active since held_time now p q a e t =
      time_on (is_activated tables s) (is_deactivated tables s) (λ r. r.at) (apart tables s) row rows now p
  next_time true false true since held_time now p q a e t =
      time_on (is_activated tables s) (is_deactivated tables s) (λ r. r.at) (apart tables s) row rows now p
  next_time true false false since held_time now p q a e t =
      time_on (is_activated tables s) (is_deactivated tables s) (λ r. r.at) (apart tables s) row rows now p
  next_time false true true since held_time now p q a e t =
      time_off_in (is_activated tables s) (is_deactivated tables s) (λ r. r.at) (apart tables s) row rows now p (left_is false true p q)
      (sym e) ∙ t row.at
  next_time false true false since held_time now p q a e t = absurd (let bad : false ≡ true = a refl in cc)
  next_time false false true since held_time now p q a e t =
      time_kept (is_activated tables s) (is_deactivated tables s) (λ r. r.at) (apart tables s) row rows now p (left_is false false p q)
      ∙ t now
  next_time false false false since held_time now p q a e t =
      time_kept (is_activated tables s) (is_deactivated tables s) (λ r. r.at) (apart tables s) row rows now p (left_is false false p q)
      ∙ t now

empty_rows : (tables : Tabled) (scans : List Scan) → is_empty (rows_of tables scans) ≡ is_empty scans
empty_rows tables [] = refl
empty_rows tables (scan ∷ scans) = refl

not_not : (b : Bool) → not (not b) ≡ b
not_not true = refl
not_not false = refl

-- what one scan does to the steps, where it clears these transitions and activates these steps
pub record HasMoved (tables : Tabled) (active : List Bool) (since held_times : List ℤ) (t : ℤ)
    (cleared' on' active' : List Bool) (since' held_times' : List ℤ) : Type 0 where
  pub held_times_are : (s : ℕ) → s < step_count tables → number held_times' s ≡ cond (leaves tables cleared' s) (t -ℤ number since s) (number held_times s)
  pub since_is : (s : ℕ) → s < step_count tables → number since' s ≡ cond (flag on' s) t (number since s)
  pub active_is : (s : ℕ) → s < step_count tables → flag active' s ≡ ((not (leaves tables cleared' s) && flag active s) || flag on' s)

-- what one scan does to what is kept
pub record Advanced (tables : Tabled) (begun : Bool) (active : List Bool) (since held_times : List ℤ) (conditions : List Bool) (t : ℤ)
    (cleared' on' active' : List Bool) (since' held_times' : List ℤ) : Type 0 where
  pub cleared_is : cleared' ≡ cleared_set tables (flag active) conditions
  pub on_is : (s : ℕ) → s < step_count tables → flag on' s ≡ activates tables (not begun) cleared' s
  pub moved : HasMoved tables active since held_times t cleared' on' active' since' held_times'

pub fields_next : (tables : Tabled) → AreTables tables
    → (begun : Bool) (active : List Bool) (since held_times : List ℤ) (cleared on conditions : List Bool) (t : ℤ)
    (cleared' on' active' : List Bool) (since' held_times' : List ℤ) (scans : List Scan)
    → Advanced tables begun active since held_times conditions t cleared' on' active' since' held_times'
    → FieldsAgree tables begun active since held_times cleared on scans
    → FieldsAgree tables true active' since' held_times' cleared' on' (record { conditions = conditions; at = t } ∷ scans)
fields_next tables sound begun active since held_times cleared on conditions t cleared' on' active' since' held_times' scans a k =
    let scan : Scan = record { conditions = conditions; at = t } in
    let rows : List Row = rows_of tables scans in
    let row : Row = row_after tables rows scan in
    let seen : cleared_set tables (flag active) conditions ≡ row.cleared =
    cleared_same (flag active) (is_active tables rows) (step_count tables) k.activity tables.sides
    (all_preceding_below tables sound) conditions tables.ranked
    (replicate (step_count tables) false) (replicate (transition_count tables) false) in
    let same : row.cleared ≡ cleared' = sym (a.cleared_is ∙ seen) in
    let first : row.first ≡ not begun = empty_rows tables scans ∙ sym (ap not k.has_begun ∙ not_not (is_empty scans)) in
    let goes_on : (s : ℕ) → s < step_count tables → is_activated tables s row ≡ flag on' s =
    λ s lt. ap (λ b. activates tables b row.cleared s) first ∙ ap (λ c. activates tables (not begun) c s) same ∙ sym (a.on_is s lt) in
    let goes_off : (s : ℕ) → leaves tables row.cleared s ≡ leaves tables cleared' s = λ s. ap (λ c. leaves tables c s) same in
    let was_in : (s : ℕ) → leaves tables cleared' s ≡ true → flag active s ≡ true =
    λ s e. left_active tables (flag active) (cleared_set tables (flag active) conditions) (set_enabled tables (flag active) conditions) s
    (ap (λ c. leaves tables c s) (sym a.cleared_is) ∙ e) in
    record {
      has_begun = refl;
      activity = λ s lt. a.moved.active_is s lt
          ∙ next_active tables s row rows (flag on' s) (leaves tables cleared' s) (flag active s) (goes_on s lt) (goes_off s)
          (k.activity s lt);
      time = λ s lt now.
          (let ea = a.moved.active_is s lt in
          let es = a.moved.since_is s lt in
          let ek = a.moved.held_times_are s lt in
          next_time tables s row rows (flag on' s) (leaves tables cleared' s) (flag active s) (number since s) (number held_times s) now
          (goes_on s lt) (goes_off s) (was_in s) (k.activity s lt) (k.time s lt)
          ∙ (λ i. cond (sym ea i) (now -ℤ sym es i) (sym ek i)));
      clearing = λ tr. ap (λ c. flag c tr) (sym same);
      activation = λ s lt. sym (goes_on s lt);
    }

-- agreement depends on the lists alone
pub fields_at : (tables : Tabled) (begun : Bool) (active active' : List Bool) (since since' held_times held_times' : List ℤ)
    (cleared cleared' on on' : List Bool) (scans : List Scan)
    → active' ≡ active → since' ≡ since → held_times' ≡ held_times → cleared' ≡ cleared → on' ≡ on
    → FieldsAgree tables begun active since held_times cleared on scans → FieldsAgree tables begun active' since' held_times' cleared' on' scans
fields_at tables begun active active' since since' held_times held_times' cleared cleared' on on' scans ea es ek ec eo k = rw (ea, es, ek, ec, eo) k

-- what the parts of a scan leave, together
module _ (tables : Tabled) (sound : AreTables tables) (begun : Bool) (active : List Bool) (since held_times : List ℤ) (conditions : List Bool)
    (t : ℤ)
    (used cleared cleared' active1 on1 on' active' : List Bool) (since' held_times' : List ℤ) where
  pub moved_on : length active ≡ step_count tables → length since ≡ step_count tables → length held_times ≡ step_count tables
      → length on' ≡ step_count tables
      → held_times' ≡ left_by t since (preceding_of tables.sides) (places_from cleared' 0) held_times
      → active1 ≡ changed_by unmarked (preceding_of tables.sides) (places_from cleared' 0) active
      → length active1 ≡ step_count tables
      → active' ≡ set_at (places_from on' 0) active1
      → since' ≡ begun_at t (places_from on' 0) since
      → HasMoved tables active since held_times t cleared' on' active' since' held_times'
  moved_on la ls lk lo' keeps leaves1 la1 joins begins =
      let n = step_count tables in
      let pre : (tr : ℕ) → AllBelow n (preceding_of tables.sides tr) = λ tr. all_preceding_below tables sound record { 0 = tr } in
      record {
        held_times_are = λ s lt. ap (λ xs. number xs s) keeps
            ∙ number-left_by n (preceding_of tables.sides) pre t since (places_from cleared' 0) held_times s lk;
        since_is = λ s lt.
            ap (λ xs. number xs s) begins
            ∙ number-begun_at n t (places_from on' 0) since s ls (members_below on' n lo')
            ∙ ap (λ b. cond b t (number since s)) (is_member on' s);
        active_is = λ s lt.
            ap (λ f. flag f s) joins
            ∙ flag-set_at n (places_from on' 0) active1 s la1 (members_below on' n lo')
            ∙ ap (λ b. b || flag active1 s) (is_member on' s)
            ∙ either_way (flag on' s) (flag active1 s)
            ∙ ap (λ b. b || flag on' s)
            (ap (λ f. flag f s) leaves1 ∙ flag-unmarked_by n (preceding_of tables.sides) pre (places_from cleared' 0) active s la);
      }
    where
      either_way : (x y : Bool) → (x || y) ≡ (y || x)
      either_way true true = refl
      either_way true false = refl
      either_way false true = refl
      either_way false false = refl

  pub advanced : length on1 ≡ step_count tables
      → used ≡ replicate (step_count tables) false → cleared ≡ replicate (transition_count tables) false
      → cleared' ≡ cleared_in tables.sides (flag active) conditions tables.ranked used cleared
      → ((s : ℕ) → s < step_count tables → flag on1 s ≡ (not begun && flag tables.initial s))
      → on' ≡ changed_by marked (following_of tables.sides) (places_from cleared' 0) on1
      → HasMoved tables active since held_times t cleared' on' active' since' held_times'
      → Advanced tables begun active since held_times conditions t cleared' on' active' since' held_times'
  advanced lo eu ec clears starts marks moves =
      let n = step_count tables in
      let fol : (tr : ℕ) → AllBelow n (following_of tables.sides tr) = λ tr. all_following_below tables sound record { 0 = tr } in
      record {
        cleared_is = clears ∙ (λ i. cleared_in tables.sides (flag active) conditions tables.ranked (eu i) (ec i));
        on_is = λ s lt.
            ap (λ f. flag f s) marks
            ∙ flag-marked_by n (following_of tables.sides) fol (places_from cleared' 0) on1 s lo
            ∙ ap (λ b. some_cleared (following_of tables.sides) cleared' s || b) (starts s lt);
        moved = moves;
      }

-- no place is set where no flag is
pub none_from : (n i : ℕ) → set_from i (replicate n false) ≡ []
none_from zero i = refl
none_from (suc n) i = none_from n (suc i)

pub no_places : (k : ℕ) (flags : List Bool) → flags ≡ replicate k false → places_from flags 0 ≡ []
no_places k flags e = ap (λ (f : List Bool). places_from f 0) e ∙ none_from k 0

-- a later scan that clears nothing leaves all as it is
pub quiet : (tables : Tabled) (sound : AreTables tables) (begun : Bool) (active : List Bool) (since held_times : List ℤ)
    (conditions : List Bool) (t : ℤ) (used cleared cleared' on' : List Bool) (k : ℕ)
    → length active ≡ step_count tables → length since ≡ step_count tables → length held_times ≡ step_count tables
    → length on' ≡ step_count tables
    → used ≡ replicate (step_count tables) false → cleared ≡ replicate (transition_count tables) false
    → cleared' ≡ cleared_in tables.sides (flag active) conditions tables.ranked used cleared
    → begun ≡ true → places_from cleared' 0 ≡ [] → on' ≡ replicate k false
    → Advanced tables begun active since held_times conditions t cleared' on' active since held_times
quiet tables sound begun active since held_times conditions t used cleared cleared' on' k la ls lk lo eu ec clears goes none off =
    let empty = no_places k on' off in
    let pre : ℕ → List StepId = preceding_of tables.sides in
    advanced tables sound begun active since held_times conditions t used cleared cleared' active on' on' active since held_times
    lo eu ec clears
    (λ s lt. ap (λ (f : List Bool). flag f s) off ∙ none_set k s ∙ ap (λ (b : Bool). not b && flag tables.initial s) (sym goes))
    (ap (λ (places : List ℕ). changed_by marked (following_of tables.sides) places on') (sym none))
    (moved_on tables sound begun active since held_times conditions t used cleared cleared' active on' on' active since held_times
    la ls lk lo
    (ap (λ (places : List ℕ). left_by t since pre places held_times) (sym none))
    (ap (λ (places : List ℕ). changed_by unmarked pre places active) (sym none))
    la
    (ap (λ (places : List ℕ). set_at places active) (sym empty))
    (ap (λ (places : List ℕ). begun_at t places since) (sym empty)))
