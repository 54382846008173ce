-- How a new row changes the look-backs.
use Rattle.std.proofs.Common.{◌≡◌, ◌⊎◌, inl, inr, not, Bool, true, false, List, [], ◌∷◌, refl, sym, ◌∙◌, ap, Option, Some, None, ℤ, ◌-ℤ◌}
use Rattle.std.specs.List.{find}
use Rattle.sfc_base.specs.Leading.{leading}
use Rattle.sfc_evolve.specs.Lookback.{oldest, or_else, is_in, time_from, time_in}

pub bool_cases : (b : Bool) → (b ≡ true) ⊎ (b ≡ false)
bool_cases true = inl refl
bool_cases false = inr refl

or_none : {A : Type 0} (o : Option A) → or_else o None ≡ o
or_none (Some y) = refl
or_none None = refl

or_some : {A : Type 0} (o : Option A) (x : A) → (y : A) × (or_else o (Some x) ≡ Some y)
or_some (Some y) x = (y, refl)
or_some None x = (x, refl)

module _ {A : Type 0} (on off : A → Bool) (at : A → ℤ) (apart : (x : A) → on x ≡ true → off x ≡ false) where
  fixed : (f : Option A) (k : A) (now later : ℤ) → time_from at now f (Some k) ≡ time_from at later f (Some k)
  fixed None k now later = refl
  fixed (Some a) k now later = refl

  ended : (f : Option A) (row : A) (now : ℤ) → time_from at now f (Some row) ≡ time_from at (at row) f None
  ended None row now = refl
  ended (Some a) row now = refl

  pub is_in_on : (row : A) (h : List A) → on row ≡ true → is_in on off (row ∷ h) ≡ true
  is_in_on row h p = let q : off row ≡ false = apart row p in rw (q, p) refl

  pub is_in_off : (row : A) (h : List A) → off row ≡ true → is_in on off (row ∷ h) ≡ false
  is_in_off row h q = rw q refl

  pub is_in_kept : (row : A) (h : List A) → on row ≡ false → off row ≡ false → is_in on off (row ∷ h) ≡ is_in on off h
  is_in_kept row h p q = rw (q, p) refl

  pub time_on : (row : A) (h : List A) (now : ℤ) → on row ≡ true → time_in on off at (row ∷ h) now ≡ (now -ℤ at row)
  time_on row h now p = rw p refl

  pub time_kept : (row : A) (h : List A) (now : ℤ) → on row ≡ false → off row ≡ false
      → time_in on off at (row ∷ h) now ≡ time_in on off at h now
  time_kept row h now p q =
      rw (p, q) (ap (time_from at now (find on h)) (or_none (oldest off (leading (λ row. not (on row)) h))))

  -- a step that is in has not ended since it last came on
  pub in_goes_on : (h : List A) → is_in on off h ≡ true → oldest off (leading (λ row. not (on row)) h) ≡ None
  in_goes_on [] e = refl
  in_goes_on (x ∷ h) e = elim (bool_cases (on x)) [
    | inl p ↦ rw p refl
    | inr p ↦ elim (bool_cases (off x)) [
      | inl q ↦ absurd (let bad : true ≡ false = sym e ∙ is_in_off x h q in cc)
      | inr q ↦ rw (p, in_goes_on h (sym (is_in_kept x h p q) ∙ e), q) refl
    ]
  ]

  pub time_off_in : (row : A) (h : List A) (now : ℤ) → on row ≡ false → off row ≡ true → is_in on off h ≡ true
      → time_in on off at (row ∷ h) now ≡ time_in on off at h (at row)
  time_off_in row h now p q e = let o : oldest off (leading (λ row. not (on row)) h) ≡ None = in_goes_on h e in
      rw (p, o, q) (ended (find on h) row now)

  -- out of it, time stands still
  pub time_out : (h : List A) (now later : ℤ) → is_in on off h ≡ false → time_in on off at h now ≡ time_in on off at h later
  time_out [] now later e = refl
  time_out (x ∷ h) now later e = elim (bool_cases (on x)) [
    | inl p ↦ absurd (let bad : true ≡ false = sym (is_in_on x h p) ∙ e in cc)
    | inr p ↦ elim (bool_cases (off x)) [
      | inl q ↦
          (let k : (y : A) × (or_else (oldest off (leading (λ row. not (on row)) h)) (Some x) ≡ Some y) = or_some _ x in
          let eq : or_else (oldest off (leading (λ row. not (on row)) h)) (Some x) ≡ Some k.0 = k.1 in
          rw (p, q, eq) (fixed (find on h) k.0 now later))
      | inr q ↦ time_kept x h now p q ∙ time_out h now later (sym (is_in_kept x h p q) ∙ e) ∙ sym (time_kept x h later p q)
    ]
  ]

  -- a step that is out never came on, or has ended
  out_ended : (h : List A) → is_in on off h ≡ false
      → (find on h ≡ None) ⊎ ((y : A) × (oldest off (leading (λ row. not (on row)) h) ≡ Some y))
  out_ended [] e = inl refl
  out_ended (x ∷ h) e = elim (bool_cases (on x)) [
    | inl p ↦ absurd (let bad : true ≡ false = sym (is_in_on x h p) ∙ e in cc)
    | inr p ↦ elim (bool_cases (off x)) [
      | inl q ↦ inr (rw (p, q) (or_some (oldest off (leading (λ row. not (on row)) h)) x))
      | inr q ↦ elim (out_ended h (sym (is_in_kept x h p q) ∙ e)) [
        | inl f ↦ inl (rw p f)
        | inr k ↦ (let eq : oldest off (leading (λ row. not (on row)) h) ≡ Some k.0 = k.1 in inr (k.0, rw (p, eq) refl))
      ]
    ]
  ]

  pub time_off_out : (row : A) (h : List A) (now : ℤ) → on row ≡ false → off row ≡ true → is_in on off h ≡ false
      → time_in on off at (row ∷ h) now ≡ time_in on off at h now
  time_off_out row h now p q e = elim (out_ended h e) [
    | inl f ↦ rw (p, f) refl
    | inr k ↦ (let eq : oldest off (leading (λ row. not (on row)) h) ≡ Some k.0 = k.1 in rw (p, eq) refl)
  ]

  ended_by : (f o : Option A) (row : A) (now : ℤ) → time_from at now f (or_else o (Some row)) ≡ time_from at (at row) f o
  ended_by None o row now = refl
  ended_by (Some a) None row now = refl
  ended_by (Some a) (Some k) row now = refl

  -- a row that goes off stops the time there, unless it stood already
  pub time_off : (row : A) (h : List A) (now : ℤ) → on row ≡ false → off row ≡ true
      → time_in on off at (row ∷ h) now ≡ time_in on off at h (at row)
  time_off row h now p q = rw (p, q) (ended_by (find on h) (oldest off (leading (λ row. not (on row)) h)) row now)
