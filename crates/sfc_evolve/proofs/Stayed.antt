-- A scan in which no condition is TRUE clears nothing, and leaves the steps as they are.
use Rattle.std.proofs.Common.{◌≡◌, ℕ, zero, suc, ◌&&◌, not, Bool, true, false, List, [], ◌∷◌, length, refl, sym, ap, ◌∙◌, subst, ℤ}
use Rattle.std.specs.Prelude.{replicate, slice_set}
use Rattle.std.specs.List.{list_any}
use Rattle.sfc_base.specs.declared.references.StepId.{StepId}
use Rattle.sfc_base.specs.declared.ids.TransitionId.{TransitionId}
use Rattle.sfc_flags.specs.Flags.{flag}
use Rattle.sfc_tables.specs.Tables.{Sides, Tabled, AreTables, sides_at}
use Rattle.sfc_evolve.specs.Clearing.{step_count, transition_count, is_enabled, is_cleared, cleared_in}
use Rattle.sfc_evolve.specs.Evolution.{Scan, AreFalse}
use Rattle.sfc_evolve.specs.Private.Keeping.{FieldsAgree}
use Rattle.sfc_evolve.proofs.Next.{fields_next, quiet, no_places}

-- FALSE is put where all are FALSE
pub none_put : (n r : ℕ) → slice_set (replicate n false) r false ≡ replicate n false
none_put zero r = refl
none_put (suc n) zero = refl
none_put (suc n) (suc r) = ap (λ (xs : List Bool). false ∷ xs) (none_put n r)

nothing : (x y : Bool) → ((x && false) && y) ≡ false
nothing true y = refl
nothing false y = refl

none_cleared : (sides : List Sides) (active : ℕ → Bool) (conditions : List Bool) (ranked : List TransitionId) (used : List Bool) (n : ℕ)
    → AreFalse conditions → cleared_in sides active conditions ranked used (replicate n false) ≡ replicate n false
none_cleared sides active conditions [] used n off = refl
none_cleared sides active conditions (r ∷ ranked) used n off =
    let preceding = (sides_at sides r).preceding in
    let go : is_cleared active (flag conditions r.0) preceding used ≡ false =
    ap (λ b. is_cleared active b preceding used) (off r.0)
    ∙ nothing (is_enabled active preceding) (not (list_any (λ (step : StepId). flag used step.0) preceding)) in
    rw (go, none_put n r.0) (none_cleared sides active conditions ranked used n off)

pub stayed : (tables : Tabled) → AreTables tables → (begun : Bool) (active : List Bool) (since held_times : List ℤ)
    (cleared on cleared' on' : List Bool) (scan : Scan) (scans : List Scan)
    → length active ≡ step_count tables → length since ≡ step_count tables → length held_times ≡ step_count tables
    → begun ≡ true → AreFalse scan.conditions
    → cleared' ≡ replicate (transition_count tables) false → on' ≡ replicate (step_count tables) false → length on' ≡ step_count tables
    → FieldsAgree tables begun active since held_times cleared on scans
    → FieldsAgree tables begun active since held_times cleared' on' (scan ∷ scans)
stayed tables sound begun active since held_times cleared on cleared' on' scan scans la ls lk goes off none still lo k =
    let n = step_count tables in
    let m = transition_count tables in
    let clears : cleared' ≡ cleared_in tables.sides (flag active) scan.conditions tables.ranked (replicate n false) (replicate m false) =
    none ∙ sym (none_cleared tables.sides (flag active) scan.conditions tables.ranked (replicate n false) m off) in
    let went =
    quiet tables sound begun active since held_times scan.conditions scan.at (replicate n false) (replicate m false) cleared' on' n
    la ls lk lo refl refl clears goes (no_places m cleared' none) still in
    subst (λ (b : Bool). FieldsAgree tables b active since held_times cleared' on' (scan ∷ scans)) (sym goes)
    (fields_next tables sound begun active since held_times cleared on scan.conditions scan.at cleared' on' active since held_times scans went k)
