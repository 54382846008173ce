-- Parts of the flat list of links.
use Rattle.std.proofs.Common.{◌≡◌, ℕ, ◌+◌, ◌-◌, ◌<◌, ◌≤◌, List, [], ◌∷◌, ◌++◌, length, get_or, drop, ◌∙◌, refl, arith}
use Rattle.std.specs.Prelude.{map, All, slice_range}
use Rattle.std.proofs.lemmas.List.{drop-append-le, take-append-le, length-drop, length-append, map-append}
use Rattle.std.proofs.lemmas.List.{append_assoc, drop_at, take_at, take_all, drop_more}
use Rattle.std.proofs.lemmas.List.Elements.{All-head, All-tail, All-push}
use Rattle.sfc_base.specs.declared.references.StepId.{StepId}
use Rattle.sfc_plant.specs.declared.chart.Transition.{Transition}
use Rattle.sfc_tables.specs.declared.links.Range.{Range}
use Rattle.sfc_tables.specs.Tables.{sides_of}
use Rattle.sfc_tables.specs.Private.Parts.{sides_in, IsRange}

part_kept : (links more : List StepId) (i j : ℕ) → i ≤ j → j ≤ length links → slice_range (links ++ more) i j ≡ slice_range links i j
part_kept links more i j a b =
    rw (drop-append-le i links more (omega arith)) (take-append-le (j - i) (drop i links) more (omega (arith, length-drop i links)))

-- more links leave what the ranges show
sides_kept : (links more : List StepId) (ranges : List Range) → All (IsRange (length links)) ranges
    → map (sides_in (links ++ more)) ranges ≡ map (sides_in links) ranges
sides_kept links more [] all = refl
sides_kept links more (r ∷ ranges) all =
    let here = All-head (IsRange (length links)) r ranges all in
    let rest = sides_kept links more ranges (All-tail (IsRange (length links)) r ranges all) in
    rw (
      part_kept links more r.start r.middle here.rises (omega (arith, here.still, here.within)),
      part_kept links more r.middle r.end here.still here.within,
      rest,
    ) refl

module _ (links pre fol : List StepId) where
  abbrev pub new : List StepId
  new = (links ++ pre) ++ fol

  first_part : slice_range new (length links) (length links + length pre) ≡ pre
  first_part =
      let n : length links + length pre - length links ≡ length pre = omega arith in
      rw (append_assoc links pre fol, drop_at links (pre ++ fol) (length links) refl, n) (take_at pre fol (length pre) refl)

  second_part : slice_range new (length links + length pre) (length links + length pre + length fol) ≡ fol
  second_part =
      let n : length links + length pre + length fol - (length links + length pre) ≡ length fol = omega arith in
      rw (drop_at (links ++ pre) fol (length links + length pre) (length-append links pre), n) (take_all (length fol) fol (omega arith))

  abbrev pub range : Range
  range = record { start = length links; middle = length links + length pre; end = length links + length pre + length fol }

  longer : length new ≡ length links + length pre + length fol
  longer = omega (arith, length-append (links ++ pre) fol, length-append links pre)

  grown : (ranges : List Range) → All (IsRange (length links)) ranges → All (IsRange (length new)) ranges
  grown ranges all k d lt = let r = all k d lt in record { rises = r.rises; still = r.still; within = omega (arith, r.within, longer) }

  appended : (ranges : List Range) → All (IsRange (length links)) ranges
      → map (sides_in new) (ranges ++ range ∷ []) ≡ map (sides_in links) ranges ++ record { preceding = pre; following = fol } ∷ []
  appended ranges all =
      let kept : map (sides_in new) ranges ≡ map (sides_in links) ranges =
      rw (append_assoc links pre fol) (sides_kept links (pre ++ fol) ranges all) in
      map-append (sides_in new) ranges (range ∷ []) ∙ rw (kept, first_part, second_part) refl

  pub appended_within : (ranges : List Range) → All (IsRange (length links)) ranges → All (IsRange (length new)) (ranges ++ range ∷ [])
  appended_within ranges all =
      All-push (IsRange (length new)) ranges range
      (grown ranges all) record { rises = omega arith; still = omega arith; within = omega (arith, longer) }

-- one transition more is appended
module _ (links : List StepId) (ranges : List Range) (ts : List Transition) (i : ℕ) (t : Transition) where
  pub shown_next : i < length ts → t ≡ get_or ts i t → All (IsRange (length links)) ranges
      → map (sides_in links) ranges ++ map sides_of (drop i ts) ≡ map sides_of ts
      → map (sides_in (new links t.preceding t.following)) (ranges ++ range links t.preceding t.following ∷ [])
      ++ map sides_of (drop (i + 1) ts) ≡ map sides_of ts
  shown_next lt e all shown =
      let f : drop i ts ≡ t ∷ drop (i + 1) ts = rw (← e) at (drop_more ts i t lt) in
      rw (
        appended links t.preceding t.following ranges all,
        append_assoc (map (sides_in links) ranges) (sides_of t ∷ [])
            (map sides_of (drop (i + 1) ts)),
      ) (rw f at shown)
