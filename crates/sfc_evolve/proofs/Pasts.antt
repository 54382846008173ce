-- What is kept of the scans of a life is their past, and the past goes on by one scan.
use denote.Struct.Props.{props}
use Rattle.std.proofs.Common.{◌≡◌, inl, inr, ℕ, ◌<◌, ◌≤◌, not, Bool, true, false, cond, List, [], ◌∷◌, ◌++◌}
use Rattle.std.proofs.Common.{arith, refl, sym, ◌∙◌, ap, ℤ, pos, ◌-ℤ◌, ◌+ℤ◌, Some, None}
use Rattle.std.specs.Prelude.{map, find, replicate}
use Rattle.std.specs.List.{range_with_len}
use Rattle.std.proofs.lemmas.Bool.{cases_lt}
use Rattle.std.proofs.lemmas.Int.{ints}
use Rattle.sfc_base.proofs.ByPlace.{at_place, mapped}
use Rattle.sfc_flags.specs.Flags.{flag}
use Rattle.sfc_tables.specs.Tables.{Tabled, AreTables}
use Rattle.sfc_evolve.specs.declared.steps.Steps.{Steps}
use Rattle.sfc_base.specs.Leading.{leading}
use Rattle.sfc_evolve.specs.Lookback.{oldest, is_in, is_empty, time_in}
use Rattle.sfc_evolve.specs.Clearing.{step_count, transition_count, cleared_set}
use Rattle.sfc_evolve.specs.Evolution.{Scan, Row, rows_of, row_after}
use Rattle.sfc_evolve.specs.Evolution.{is_active, is_activated, is_deactivated, active_steps, leaves}
use Rattle.sfc_evolve.specs.Evolution.{step_time, step_times, was_cleared, was_activated}
use Rattle.sfc_evolve.specs.Agreement.{StepsAgree}
use Rattle.sfc_evolve.specs.Past.{steps_past, past_in}
use Rattle.sfc_evolve.specs.Private.Keeping.{number}
use Rattle.sfc_evolve.proofs.FirstScan.{length-cleared_set, past_end}
use Rattle.sfc_evolve.proofs.Listed.{listed}
use Rattle.sfc_evolve.proofs.Looks.{bool_cases, is_in_off, is_in_kept, time_on, time_kept, time_off, time_out, in_goes_on}
use Rattle.sfc_evolve.proofs.Next.{apart, cleared_same, next_active}
use Rattle.sfc_evolve.proofs.TableFacts.{all_preceding_below}

-- ---- a time at one instant gives that at all

since_zero : (now a : ℤ) → (now -ℤ a) ≡ (now +ℤ (pos 0 -ℤ a))
since_zero now a = omega (arith, ints)

abbrev at_instant : Bool → ℤ → ℤ → ℤ
at_instant active time now = cond active (now +ℤ time) time

module _ {A : Type 0} (on off : A → Bool) (at : A → ℤ) (apart : (x : A) → on x ≡ true → off x ≡ false) where
  -- a step that is in came on
  found : (h : List A) → is_in on off h ≡ true → (y : A) × (find on h ≡ Some y)
  found [] e = absurd (let bad : false ≡ true = e in cc)
  found (x ∷ h) e = elim (bool_cases (on x)) [
    | inl p ↦ (x, rw p refl)
    | inr p ↦ elim (bool_cases (off x)) [
      | inl q ↦ absurd (let bad : true ≡ false = sym e ∙ is_in_off on off at apart x h q in cc)
      | inr q ↦ (let y = found h (sym (is_in_kept on off at apart x h p q) ∙ e) in
          let eq : find on h ≡ Some y.0 = y.1 in (y.0, rw p eq))
    ]
  ]

  time_by : (h : List A) (now : ℤ) → time_in on off at h now ≡ at_instant (is_in on off h) (time_in on off at h (pos 0)) now
  time_by h now = elim (bool_cases (is_in on off h)) [
    | inr out ↦ (let same = time_out on off at apart h now (pos 0) out in rw out same)
    | inl inside ↦
        (let y = found h inside in
        let eq : find on h ≡ Some y.0 = y.1 in
        let none : oldest off (leading (λ row. not (on row)) h) ≡ None = in_goes_on on off at apart h inside in
        rw (inside, eq, none) (since_zero now (at y.0)))
  ]

-- ---- answers by the past

module _ (tables : Tabled) (scans other : List Scan) (same : steps_past tables scans ≡ steps_past tables other) where
  pub active_by : (s : ℕ) → s < step_count tables → is_active tables (rows_of tables scans) s ≡ is_active tables (rows_of tables other) s
  active_by s lt = at_place (is_active tables (rows_of tables scans)) (is_active tables (rows_of tables other)) (step_count tables) s false lt
      (ap (λ p. p.active) same)

  pub time_by_past : (s : ℕ) (now : ℤ) → s < step_count tables
      → step_time tables (rows_of tables scans) s now ≡ step_time tables (rows_of tables other) s now
  time_by_past s now lt =
      let zero_same : step_time tables (rows_of tables scans) s (pos 0) ≡ step_time tables (rows_of tables other) s (pos 0) =
      at_place (λ s. step_time tables (rows_of tables scans) s (pos 0)) (λ s. step_time tables (rows_of tables other) s (pos 0))
      (step_count tables) s (pos 0) lt (ap (λ p. p.times) same) in
      let active_same = active_by s lt in
      time_by (is_activated tables s) (is_deactivated tables s) (λ r. r.at) (apart tables s) (rows_of tables scans) now
      ∙ (λ i. at_instant (active_same i) (zero_same i) now)
      ∙ sym (time_by (is_activated tables s) (is_deactivated tables s) (λ r. r.at) (apart tables s) (rows_of tables other) now)

  pub times_by : (now : ℤ) → step_times tables (rows_of tables scans) now ≡ step_times tables (rows_of tables other) now
  times_by now = mapped (λ s. step_time tables (rows_of tables scans) s now) (λ s. step_time tables (rows_of tables other) s now)
      (step_count tables) (λ s lt. time_by_past s now lt)

  pub activated_by : (s : ℕ) → s < step_count tables
      → was_activated tables (rows_of tables scans) s ≡ was_activated tables (rows_of tables other) s
  activated_by s lt = at_place (was_activated tables (rows_of tables scans)) (was_activated tables (rows_of tables other))
      (step_count tables) s false lt (ap (λ p. p.activated) same)

-- past the last transition none was cleared
cleared_past_end : (tables : Tabled) (scans : List Scan) (tr : ℕ) → transition_count tables ≤ tr → was_cleared (rows_of tables scans) tr ≡ false
cleared_past_end tables [] tr le = refl
cleared_past_end tables (scan ∷ scans) tr le =
    let set = cleared_set tables (is_active tables (rows_of tables scans)) scan.conditions in
    past_end set tr (let long = length-cleared_set tables (is_active tables (rows_of tables scans)) scan.conditions in omega arith)

pub cleared_by : (tables : Tabled) (scans other : List Scan) → steps_past tables scans ≡ steps_past tables other
    → (tr : ℕ) → was_cleared (rows_of tables scans) tr ≡ was_cleared (rows_of tables other) tr
cleared_by tables scans other same tr = elim (cases_lt tr (transition_count tables)) [
  | inl lt ↦ at_place (was_cleared (rows_of tables scans)) (was_cleared (rows_of tables other)) (transition_count tables) tr false lt
      (ap (λ p. p.cleared) same)
  | inr le ↦ cleared_past_end tables scans tr le ∙ sym (cleared_past_end tables other tr le)
]

-- ---- what is kept is the past

pub keeps_past : (tables : Tabled) (steps : Steps) (scans : List Scan) → StepsAgree tables steps scans → past_in tables steps ≡ steps_past tables scans
unfolding StepsAgree past_in
keeps_past tables steps scans k =
    let rows = rows_of tables scans in
    let begun : steps.begun ≡ not (is_empty scans) = k.fields.has_begun in
    let active : steps.active ≡ active_steps tables rows =
    listed (is_active tables rows) (step_count tables) steps.active k.size.same_steps k.fields.activity in
    let times : map (λ s. cond (flag steps.active s) (pos 0 -ℤ number steps.since.items s) (number steps.held_times.items s))
    (range_with_len 0 (step_count tables)) ≡ step_times tables rows (pos 0) =
    mapped (λ s. cond (flag steps.active s) (pos 0 -ℤ number steps.since.items s) (number steps.held_times.items s))
    (λ s. step_time tables rows s (pos 0)) (step_count tables) (λ s lt. sym (k.fields.time s lt (pos 0))) in
    let cleared : steps.cleared ≡ map (was_cleared rows) (range_with_len 0 (transition_count tables)) =
    listed (was_cleared rows) (transition_count tables) steps.cleared k.size.same_transitions (λ tr lt. k.fields.clearing tr) in
    let activated : steps.on ≡ map (was_activated tables rows) (range_with_len 0 (step_count tables)) =
    listed (was_activated tables rows) (step_count tables) steps.on (steps.on_len ∙ k.size.same_steps) k.fields.activation in
    (λ i. record { begun = begun i; active = active i; times = times i; cleared = cleared i; activated = activated i })

pub same_past : (tables : Tabled) (steps : Steps) (scans other : List Scan) → StepsAgree tables steps scans
    → steps_past tables scans ≡ steps_past tables other → StepsAgree tables steps other
unfolding StepsAgree
same_past tables steps scans other k e = record {
  size = k.size;
  fields = record {
    has_begun = k.fields.has_begun ∙ ap (λ p. p.begun) e;
    activity = λ s lt. k.fields.activity s lt ∙ active_by tables scans other e s lt;
    time = λ s lt now. sym (time_by_past tables scans other e s now lt) ∙ k.fields.time s lt now;
    clearing = λ tr. k.fields.clearing tr ∙ cleared_by tables scans other e tr;
    activation = λ s lt. k.fields.activation s lt ∙ activated_by tables scans other e s lt;
  };
  proposed = k.proposed;
}

-- ---- one scan more

-- the time after one row more, by that before it
time_after : (tables : Tabled) (s : ℕ) (row : Row) (rows rows' : List Row)
    → ((now : ℤ) → step_time tables rows s now ≡ step_time tables rows' s now)
    → (now : ℤ) → step_time tables (row ∷ rows) s now ≡ step_time tables (row ∷ rows') s now
time_after tables s row rows rows' same now =
    let on = is_activated tables s in
    let off = is_deactivated tables s in
    let at : Row → ℤ = λ r. r.at in
    elim (bool_cases (on row)) [
      | inl p ↦ time_on on off at (apart tables s) row rows now p ∙ sym (time_on on off at (apart tables s) row rows' now p)
      | inr p ↦ elim (bool_cases (off row)) [
        | inl q ↦ time_off on off at (apart tables s) row rows now p q ∙ same row.at
            ∙ sym (time_off on off at (apart tables s) row rows' now p q)
        | inr q ↦ time_kept on off at (apart tables s) row rows now p q ∙ same now
            ∙ sym (time_kept on off at (apart tables s) row rows' now p q)
      ]
    ]

active_after : (tables : Tabled) (s : ℕ) (row : Row) (rows rows' : List Row) → is_active tables rows s ≡ is_active tables rows' s
    → is_active tables (row ∷ rows) s ≡ is_active tables (row ∷ rows') s
active_after tables s row rows rows' same =
    sym (next_active tables s row rows (is_activated tables s row) (leaves tables row.cleared s) (is_active tables rows s) refl refl refl)
    ∙ next_active tables s row rows' (is_activated tables s row) (leaves tables row.cleared s) (is_active tables rows s) refl refl same

rows_begun : (tables : Tabled) (scans : List Scan) → is_empty (rows_of tables scans) ≡ not (not (is_empty scans))
rows_begun tables [] = refl
rows_begun tables (scan ∷ scans) = refl

-- a scan has the same row
row_by : (tables : Tabled) → AreTables tables → (scans other : List Scan) (scan : Scan) → steps_past tables scans ≡ steps_past tables other
    → row_after tables (rows_of tables scans) scan ≡ row_after tables (rows_of tables other) scan
row_by tables sound scans other scan same =
    let first : is_empty (rows_of tables scans) ≡ is_empty (rows_of tables other) =
    rows_begun tables scans ∙ ap (λ p. not p.begun) same ∙ sym (rows_begun tables other) in
    let cleared : cleared_set tables (is_active tables (rows_of tables scans)) scan.conditions
    ≡ cleared_set tables (is_active tables (rows_of tables other)) scan.conditions =
    cleared_same (is_active tables (rows_of tables scans)) (is_active tables (rows_of tables other)) (step_count tables)
    (active_by tables scans other same) tables.sides (all_preceding_below tables sound) scan.conditions tables.ranked
    (replicate (step_count tables) false) (replicate (transition_count tables) false) in
    (λ i. record { at = scan.at; first = first i; cleared = cleared i })

pub past_next : (tables : Tabled) → AreTables tables → (scan : Scan) (scans other : List Scan)
    → steps_past tables scans ≡ steps_past tables other → steps_past tables (scan ∷ scans) ≡ steps_past tables (scan ∷ other)
past_next tables sound scan scans other same =
    let rows = rows_of tables scans in
    let rows' = rows_of tables other in
    let row = row_after tables rows' scan in
    let same_row : row_after tables rows scan ≡ row = row_by tables sound scans other scan same in
    let active : active_steps tables (row_after tables rows scan ∷ rows) ≡ active_steps tables (row ∷ rows') =
    ap (λ r. active_steps tables (r ∷ rows)) same_row
    ∙ mapped (is_active tables (row ∷ rows)) (is_active tables (row ∷ rows')) (step_count tables)
    (λ s lt. active_after tables s row rows rows' (active_by tables scans other same s lt)) in
    let times : step_times tables (row_after tables rows scan ∷ rows) (pos 0) ≡ step_times tables (row ∷ rows') (pos 0) =
    ap (λ r. step_times tables (r ∷ rows) (pos 0)) same_row
    ∙ mapped (λ s. step_time tables (row ∷ rows) s (pos 0)) (λ s. step_time tables (row ∷ rows') s (pos 0)) (step_count tables)
    (λ s lt. time_after tables s row rows rows' (λ now. time_by_past tables scans other same s now lt) (pos 0)) in
    (λ i. record {
      begun = true;
      active = active i;
      times = times i;
      cleared = map (flag (same_row i).cleared) (range_with_len 0 (transition_count tables));
      activated = map (λ s. is_activated tables s (same_row i)) (range_with_len 0 (step_count tables));
    })

pub past_cut : (tables : Tabled) → AreTables tables → (scans other later : List Scan)
    → steps_past tables scans ≡ steps_past tables other → steps_past tables (later ++ scans) ≡ steps_past tables (later ++ other)
past_cut tables sound scans other [] e = e
past_cut tables sound scans other (scan ∷ later) e =
    past_next tables sound scan (later ++ scans) (later ++ other) (past_cut tables sound scans other later e)

-- it agrees in one way at most
pub agrees_prop : (tables : Tabled) (steps : Steps) (scans : List Scan) → IsProp (StepsAgree tables steps scans)
unfolding StepsAgree
agrees_prop tables steps scans = hlevel props
