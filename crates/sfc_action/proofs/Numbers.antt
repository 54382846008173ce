-- The look-backs agree with their forms by the numbers of scans.
use Rattle.std.proofs.Common.{◌≡◌, Bool, true, false, cond, List, [], ◌∷◌, ℕ, suc, ◌-◌, ◌≤◌, ◌==◌, length, refl, ◌∙◌, sym, ap, subst}
use Rattle.sfc_timers.specs.Timers.{Bistable, Reading, input_of, preset_of, instant_of}
use Rattle.sfc_timers.specs.Numbered.{call_at, s_at, r_at, IsSetSince, reading_at, HasRunSince}
use Rattle.sfc_tables.specs.Tables.{Tabled}
use Rattle.sfc_action.specs.ActionControl.{Scan, Letter, R, input, preset, column, reading, set_reset}
use Rattle.sfc_action.specs.ScanNumbers.{value_at, input_at, preset_at, instant_at, IsStoredSince, HasActedSince}

length-column : {A B : Type 0} (value : List A → B) (h : List A) → length (column value h) ≡ length h
length-column value [] = refl
length-column value (x ∷ h) = ap suc (length-column value h)

part : {A B : Type 0} (p : A → B) (b : Bool) (x y : A) → p (cond b x y) ≡ cond b (p x) (p y)
part p true x y = refl
part p false x y = refl

-- ---- flip-flops

module _ (tables : Tabled) (a : ℕ) (value : List Scan → Bool) where
  abbrev pub calls : List Scan → List Bistable
  calls h = column (set_reset tables a value) h

  pub sets_at : (h : List Scan) (i : ℕ) → s_at (calls h) i ≡ value_at value h i
  sets_at [] i = refl
  sets_at (scan ∷ h) i =
      part (λ (c : Bistable). c.0) (i == suc (length (calls h))) (value (scan ∷ h), input tables a R (scan ∷ h))
      (call_at (false, false) (calls h) i)
      ∙ (λ k. cond (i == suc (length-column (set_reset tables a value) h k))
      (value (scan ∷ h)) (sets_at h i k))

  pub resets_at : (h : List Scan) (i : ℕ) → r_at (calls h) i ≡ input_at tables a R h i
  resets_at [] i = refl
  resets_at (scan ∷ h) i =
      part (λ (c : Bistable). c.1) (i == suc (length (calls h))) (value (scan ∷ h), input tables a R (scan ∷ h))
      (call_at (false, false) (calls h) i)
      ∙ (λ k. cond (i == suc (length-column (set_reset tables a value) h k))
      (input tables a R (scan ∷ h)) (resets_at h i k))

  pub size : (h : List Scan) → length (calls h) ≡ length h
  size h = length-column (set_reset tables a value) h

  -- ---- on-delays

  abbrev pub reads : List Scan → List Reading
  reads h = column (reading tables a value) h

  pub reads_size : (h : List Scan) → length (reads h) ≡ length h
  reads_size h = length-column (reading tables a value) h

  pub inputs_at : (h : List Scan) (i : ℕ) → input_of (reading_at (reads h) i) ≡ value_at value h i
  inputs_at [] i = refl
  inputs_at (scan ∷ h) i =
      part (λ (c : Reading). c.0) (i == suc (length (reads h))) (reading tables a value (scan ∷ h))
      (reading_at (reads h) i)
      ∙ (λ k. cond (i == suc (reads_size h k)) (value (scan ∷ h)) (inputs_at h i k))

  pub presets_at : (h : List Scan) (i : ℕ) → preset_of (reading_at (reads h) i) ≡ preset_at tables a h i
  presets_at [] i = refl
  presets_at (scan ∷ h) i =
      part (λ (c : Reading). c.1) (i == suc (length (reads h))) (reading tables a value (scan ∷ h))
      (reading_at (reads h) i)
      ∙ (λ k. cond (i == suc (reads_size h k)) (preset tables a scan) (presets_at h i k))

  pub instants_at : (h : List Scan) (i : ℕ) → instant_of (reading_at (reads h) i) ≡ instant_at h i
  instants_at [] i = refl
  instants_at (scan ∷ h) i =
      part (λ (c : Reading). c.2) (i == suc (length (reads h))) (reading tables a value (scan ∷ h))
      (reading_at (reads h) i)
      ∙ (λ k. cond (i == suc (reads_size h k)) scan.at (instants_at h i k))

  pub newest_at : (h : List Scan) → instant_of (reading_at (reads h) (length (reads h))) ≡ instant_at h (length h)
  newest_at h = ap (λ n. instant_of (reading_at (reads h) n)) (reads_size h) ∙ instants_at h (length h)

-- ---- the same of an input

module _ (tables : Tabled) (a : ℕ) (letter : Letter) where
  abbrev value : List Scan → Bool
  value h = input tables a letter h

  pub stored_since : (h : List Scan) (j : ℕ) → IsSetSince (calls tables a value h) j → IsStoredSince tables a letter h j
  stored_since h j since = record {
    number = subst (λ n. j ≤ n) (size tables a value h) since.number;
    comes = sym (sets_at tables a value h j) ∙ since.is_set;
    unreset = λ k le top. sym (resets_at tables a value h k) ∙ since.unreset k le (subst (λ n. k ≤ n) (sym (size tables a value h)) top);
  }

  pub set_since : (h : List Scan) (j : ℕ) → IsStoredSince tables a letter h j → IsSetSince (calls tables a value h) j
  set_since h j since = record {
    number = subst (λ n. j ≤ n) (sym (size tables a value h)) since.number;
    is_set = sets_at tables a value h j ∙ since.comes;
    unreset = λ k le top. resets_at tables a value h k ∙ since.unreset k le (subst (λ n. k ≤ n) (size tables a value h) top);
  }

  pub acted_since : (h : List Scan) (m : ℕ) → HasRunSince (reads tables a value h) m → HasActedSince tables a letter h m
  acted_since h m since = record {
    after_none = since.after_none;
    number = subst (λ n. m ≤ n) (reads_size tables a value h) since.number;
    rises = sym (inputs_at tables a value h (m - 1)) ∙ since.rises;
    acts = λ k le top. sym (inputs_at tables a value h k) ∙ since.runs k le (subst (λ n. k ≤ n) (sym (reads_size tables a value h)) top);
    lasts = rw (← presets_at tables a value h m, ← newest_at tables a value h, ← instants_at tables a value h m) since.lasts;
  }

  pub run_since : (h : List Scan) (m : ℕ) → HasActedSince tables a letter h m → HasRunSince (reads tables a value h) m
  run_since h m since = record {
    after_none = since.after_none;
    number = subst (λ n. m ≤ n) (sym (reads_size tables a value h)) since.number;
    rises = inputs_at tables a value h (m - 1) ∙ since.rises;
    runs = λ k le top. inputs_at tables a value h k ∙ since.acts k le (subst (λ n. k ≤ n) (reads_size tables a value h) top);
    lasts = rw (presets_at tables a value h m, newest_at tables a value h, instants_at tables a value h m) since.lasts;
  }
