-- Times that are there already, and those that a scan reads.
use Rattle.std.proofs.Common.{◌≡◌, ◌≢◌, refl, sym, subst, ap, ◌∙◌, ◌⊎◌, inl, inr, Bool, true, false, ◌||◌}
use Rattle.std.proofs.Common.{ℕ, ◌+◌, ◌<◌, ◌==◌, arith, ℤ, pos, List, [], ◌∷◌, ◌++◌, length, drop, get_or}
use Rattle.std.specs.Prelude.{slice_set}
use Rattle.std.proofs.lemmas.Bool.{cases_eq}
use Rattle.std.proofs.lemmas.Bool.Decides.{nat_tests}
use Rattle.std.proofs.lemmas.List.{get_or-set_same, get_or-set_other, get_or_default, drop_more, length-append, length-set}
use Rattle.std.proofs.lemmas.List.Folds.{list_any-append, list_any_at}
use Rattle.sfc_expr.specs.Environment.{Environment}
use Rattle.sfc_tables.specs.declared.step_action.StepAction.{StepAction}
use Rattle.sfc_instance.specs.ProgramScan.{time_of}
use Rattle.sfc_instance.specs.Private.Timing.{is_listed, HaveTimes, AreTimes}

neither : (a b : Bool) → (a || b) ≡ false → (a ≡ false) × (b ≡ false)
neither false false e = (refl, refl)
neither true b e = absurd cc
neither false true e = absurd cc

either : (a b : Bool) → (a || b) ≡ true → (a ≡ true) ⊎ (b ≡ true)
either true b e = inl refl
either false b e = inr e

nothing : false ≡ true → ⊥
nothing e = absurd cc

same_number : (j : ℕ) → (j == j) ≡ true
same_number j = grind (arith, nat_tests)

is_same : (j k : ℕ) → (j == k) ≡ true → j ≡ k
is_same j k e = grind (arith, nat_tests)

not_same : (j k : ℕ) → (j == k) ≡ false → k ≢ j
not_same j k e same = grind (arith, nat_tests)

-- what stands at a place is among them
pub listed_at : (ks : List ℕ) (i d : ℕ) → i < length ks → is_listed ks (get_or ks i d) ≡ true
listed_at ks i d lt = list_any_at (λ j. j == get_or ks i d) ks i d lt (same_number (get_or ks i d))

-- with one more number
listed_push : (ks : List ℕ) (n k : ℕ) → is_listed (ks ++ n ∷ []) k ≡ (is_listed ks k || ((n == k) || false))
listed_push ks n k = list_any-append (λ j. j == k) ks (n ∷ [])

module _ (associations : List StepAction) (times : List ℤ) (varied : List ℕ) (n : ℕ) where
  -- the time of one more association is the same in all scans
  pub one_more_fixed : (t : ℤ) (d : StepAction) → n < length times
      → ((env : Environment) → time_of env (get_or associations n d).qualifier ≡ t)
      → HaveTimes n associations times varied → HaveTimes (n + 1) associations (slice_set times n t) varied
  one_more_fixed t d lt is h = record {
    long = length-set times n t ∙ h.long;
    few = omega (arith, h.few);
    within = λ k on. omega (arith, h.within k on);
    fixed = λ k e env under off. elim (cases_eq k n) [
      | inl same ↦ rw (same, get_or-set_same times n t (pos 0) lt)
          (sym (is env) ∙ ap (λ (x : StepAction). time_of env x.qualifier) (get_or_default associations n d e (omega (arith, lt, h.long))))
      | inr other ↦ get_or-set_other times n k t (pos 0) other ∙ h.fixed k e env (omega (arith, under, other)) off
    ];
  }

  -- one more association is among those that a scan reads
  pub one_more_varied : HaveTimes n associations times varied → HaveTimes (n + 1) associations times (varied ++ n ∷ [])
  one_more_varied h = record {
    long = h.long;
    few = omega (arith, h.few, length-append varied (n ∷ []));
    within = λ k on. elim (either (is_listed varied k) ((n == k) || false) (sym (listed_push varied n k) ∙ on)) [
      | inl old ↦ omega (arith, h.within k old)
      | inr new ↦ elim (either (n == k) false new) [
        | inl here ↦ omega (arith, is_same n k here)
        | inr never ↦ absurd (nothing never)
      ]
    ];
    fixed = λ k e env under off.
        let none = neither (is_listed varied k) ((n == k) || false) (sym (listed_push varied n k) ∙ off) in
        let other = not_same n k (neither (n == k) false none.1).0 in
        h.fixed k e env (omega (arith, under, other)) none.0;
  }

  -- a time that a scan reads is put in
  pub one_read : (k : ℕ) (t : ℤ) → is_listed varied k ≡ true → HaveTimes n associations times varied
      → HaveTimes n associations (slice_set times k t) varied
  one_read k t on h = record {
    long = length-set times k t ∙ h.long;
    few = h.few;
    within = h.within;
    fixed = λ j e env under off. elim (cases_eq j k) [
      | inl same ↦ absurd (clash on (ap (is_listed varied) (sym same) ∙ off))
      | inr other ↦ get_or-set_other times k j t (pos 0) other ∙ h.fixed j e env under off
    ];
  }
    where
      clash : {b : Bool} → b ≡ true → b ≡ false → ⊥
      clash p q = absurd cc

-- the times are those that are wanted, but for the varied ones from the i-th on
abbrev pub ReadTo : ℕ → Environment → List StepAction → List ℤ → List ℕ → Type 0
ReadTo i env associations times varied =
    (j : ℕ) (d : StepAction) → j < length associations → is_listed (drop i varied) j ≡ false
    → get_or times j (pos 0) ≡ time_of env (get_or associations j d).qualifier

-- one more of them is read
pub read_more : (i : ℕ) (env : Environment) (associations : List StepAction) (times : List ℤ) (varied : List ℕ) (k : ℕ) (t : ℤ)
    (e : StepAction)
    → i < length varied → k ≡ get_or varied i 0 → k < length times → length times ≡ length associations
    → t ≡ time_of env (get_or associations k e).qualifier → ReadTo i env associations times varied
    → ReadTo (i + 1) env associations (slice_set times k t) varied
read_more i env associations times varied k t e lt is in_times long value before j d under off = elim (cases_eq j k) [
  | inl same ↦ rw (same, get_or-set_same times k t (pos 0) in_times)
      (value ∙ ap (λ (x : StepAction). time_of env x.qualifier) (get_or_default associations k e d (omega (arith, in_times, long))))
  | inr other ↦ get_or-set_other times k j t (pos 0) other ∙ before j d under
      (ap (λ ks. is_listed ks j) (drop_more varied i 0 lt) ∙ passed (get_or varied i 0) (omega (arith, other, is)))
]
  where
    here : (a b : ℕ) → a ≢ b → (b == a) ≡ false
    here a b differs = grind (arith, nat_tests)

    passed : (m : ℕ) → j ≢ m → is_listed (m ∷ drop (i + 1) varied) j ≡ false
    passed m differs = rw (here j m differs, off) refl

-- of no association the time is there yet
pub none_yet : (associations : List StepAction) (times : List ℤ) (varied : List ℕ) → length times ≡ length associations → varied ≡ []
    → HaveTimes 0 associations times varied
none_yet associations times varied long is = record {
  long = long;
  few = rw is (omega arith);
  within = λ k on. absurd (nothing (ap (λ ks. is_listed ks k) (sym is) ∙ on));
  fixed = λ k d env under off. absurd (omega (arith, under));
}

-- of all of them
pub all_there : (associations : List StepAction) (times : List ℤ) (varied : List ℕ) (n : ℕ) → n ≡ length associations
    → HaveTimes n associations times varied → AreTimes associations times varied
all_there associations times varied n is h = subst (λ m. HaveTimes m associations times varied) is h

-- these times and numbers are those
pub both_are : (associations : List StepAction) (n : ℕ) (times times2 : List ℤ) (varied varied2 : List ℕ) → times ≡ times2 → varied ≡ varied2
    → HaveTimes n associations times varied → HaveTimes n associations times2 varied2
both_are associations n times times2 varied varied2 a b h =
    subst (λ ts. HaveTimes n associations ts varied2) a (subst (λ ns. HaveTimes n associations times ns) b h)
