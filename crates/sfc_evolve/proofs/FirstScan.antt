-- The first scan of a life.
use Rattle.std.proofs.Common.{◌≡◌, inl, inr, ℕ, zero, suc, ◌<◌, ◌≤◌, ◌||◌, ◌&&◌, not, Bool}
use Rattle.std.proofs.Common.{true, false, cond, List, [], ◌∷◌, length, arith, refl, sym, ◌∙◌, ap}
use Rattle.std.specs.Prelude.{replicate, slice_set}
use Rattle.std.proofs.lemmas.Bool.{cases_lt}
use Rattle.std.proofs.lemmas.List.{length-set, length-replicate}
use Rattle.sfc_base.specs.declared.references.StepId.{StepId}
use Rattle.sfc_flags.specs.Flags.{flag, places_from}
use Rattle.sfc_base.specs.declared.ids.TransitionId.{TransitionId}
use Rattle.sfc_tables.specs.Tables.{Sides, Tabled, AreTables, sides_at}
use Rattle.sfc_evolve.specs.Marks.{has, marked}
use Rattle.sfc_evolve.specs.Clearing.{transition_count, preceding_of, following_of, is_enabled, is_cleared, cleared_in, cleared_set}
use Rattle.sfc_evolve.specs.Evolution.{Scan, Row}
use Rattle.sfc_evolve.specs.Evolution.{some_cleared, row_after, is_active, is_activated, is_deactivated}
use Rattle.sfc_evolve.proofs.Flagged.{any_where, is_member}
use Rattle.sfc_evolve.proofs.Looks.{bool_cases, is_in_on, is_in_kept}
use Rattle.sfc_evolve.proofs.Next.{apart, set_enabled}
use Rattle.sfc_evolve.proofs.TableFacts.{sides_below}

pub length-cleared_in : (sides : List Sides) (active : ℕ → Bool) (conditions : List Bool) (ranked : List TransitionId)
    (used cleared : List Bool)
    → length (cleared_in sides active conditions ranked used cleared) ≡ length cleared
length-cleared_in sides active conditions [] used cleared = refl
length-cleared_in sides active conditions (tr ∷ ranked) used cleared =
    let preceding = (sides_at sides tr).preceding in
    let go = is_cleared active (flag conditions tr.0) preceding used in
    length-cleared_in sides active conditions ranked (cond go (marked preceding used) used) (slice_set cleared tr.0 go) ∙ length-set _ _ _

pub length-cleared_set : (tables : Tabled) (active : ℕ → Bool) (conditions : List Bool)
    → length (cleared_set tables active conditions) ≡ transition_count tables
length-cleared_set tables active conditions =
    length-cleared_in tables.sides active conditions tables.ranked (replicate (length tables.initial) false)
    (replicate (transition_count tables) false)
    ∙ length-replicate (transition_count tables) false

pub past_end : (flags : List Bool) (i : ℕ) → length flags ≤ i → flag flags i ≡ false
past_end [] i le = refl
past_end (b ∷ flags) zero le = absurd (omega arith)
past_end (b ∷ flags) (suc i) le = past_end flags i (omega arith)

-- no transition is enabled where no step is active
not_all : (steps : List StepId) → 0 < length steps → is_enabled (λ s. false) steps ≡ false
not_all [] lt = absurd (omega arith)
not_all (p ∷ steps) lt = refl

pub clears_nothing : (tables : Tabled) → AreTables tables → (scan : Scan) (tr : ℕ) → flag (row_after tables [] scan).cleared tr ≡ false
clears_nothing tables sound scan tr =
    let set = cleared_set tables (λ s. false) scan.conditions in
    elim (cases_lt tr (length tables.sides)) [
      | inr le ↦ past_end set tr (let long = length-cleared_set tables (λ s. false) scan.conditions in omega arith)
      | inl lt ↦ elim (bool_cases (flag set tr)) [
        | inr off ↦ off
        | inl on ↦ absurd (
            let all : is_enabled (λ s. false) (preceding_of tables.sides tr) ≡ true =
            set_enabled tables (λ s. false) scan.conditions tr on in
            let none = not_all (preceding_of tables.sides tr) (sides_below tables sound record { 0 = tr } lt).some_preceding in
            let bad : false ≡ true = sym none ∙ all in
            cc)
      ]
    ]

none_among : (side : ℕ → List StepId) (cleared : List Bool) (s : ℕ) → ((tr : ℕ) → flag cleared tr ≡ false)
    → some_cleared side cleared s ≡ false
none_among side cleared s none = elim (bool_cases (some_cleared side cleared s)) [
  | inr off ↦ off
  | inl on ↦ absurd (
      let (tr, among, member) = any_where (λ tr. has (side tr) s) (places_from cleared 0) on in
      let bad : true ≡ false = sym member ∙ is_member cleared tr ∙ none tr in
      cc)
]

and_false : (b : Bool) → (b && false) ≡ false
and_false true = refl
and_false false = refl

pub starts : (tables : Tabled) → AreTables tables → (scan : Scan) (s : ℕ)
    → is_active tables (row_after tables [] scan ∷ []) s ≡ flag tables.initial s
starts tables sound scan s =
    let row : Row = row_after tables [] scan in
    let on = none_among (following_of tables.sides) row.cleared s (clears_nothing tables sound scan) in
    let off = none_among (preceding_of tables.sides) row.cleared s (clears_nothing tables sound scan) in
    let came : is_activated tables s row ≡ flag tables.initial s = ap (λ b. b || flag tables.initial s) on in
    let stays : is_deactivated tables s row ≡ false = ap (λ b. not (is_activated tables s row) && b) off
    ∙ and_false (not (is_activated tables s row)) in
    elim (bool_cases (flag tables.initial s)) [
      | inl e ↦ is_in_on (is_activated tables s) (is_deactivated tables s) (λ row. row.at) (apart tables s) row [] (came ∙ e) ∙ sym e
      | inr e ↦ is_in_kept (is_activated tables s) (is_deactivated tables s) (λ row. row.at) (apart tables s) row [] (came ∙ e) stays
          ∙ sym e
    ]
