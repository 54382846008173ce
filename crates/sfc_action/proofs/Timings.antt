-- The times of an action's associations that act: none, one, or more than one.
use Rattle.std.proofs.Common.{◌≡◌, ◌⊎◌, ℕ, zero, suc, ◌<◌, ◌==◌, Bool, true, false, cond, ◌&&◌, ◌||◌, List, [], ◌∷◌, length, arith, refl, sym, ◌∙◌, ap, inl, inr, ℤ, pos, nat_lt}
use Rattle.std.specs.Prelude.{slice_set, slice_index_or, filter, map, All, replicate}
use Rattle.std.specs.List.{list_any}
use Rattle.std.proofs.lemmas.Bool.Decides.{nat_tests}
use Rattle.std.proofs.lemmas.Grind.{common_steps}
use Rattle.sfc_flags.specs.Flags.{flag, places_from}
use Rattle.sfc_plant.specs.declared.association.Qualifier.{Qualifier}
use Rattle.sfc_plant.specs.declared.association.Qualifier.TheVariants.{Timed}
use Rattle.sfc_tables.specs.declared.step_action.StepAction.{StepAction}
use Rattle.sfc_action.specs.declared.inputs.Inputs.{Inputs}
use Rattle.sfc_action.specs.ActionControl.{Scan, Letter, N, is, is_timed, acts}
use Rattle.sfc_action.specs.Private.Marking.{AreSized, cleared, marked, marked_at, presets_at, IsWithin}
use Rattle.sfc_action.proofs.Sizes.{sized_cleared}
use Rattle.sfc_action.proofs.Walks.{Gathering, total}
use Rattle.sfc_action.proofs.ScanInputs.{one_set, flags_at, letter_marked, gathered_at}
use Rattle.sfc_action.proofs.Works.{within}

pub flag-replicate : (n k : ℕ) → flag (replicate n false) k ≡ false
flag-replicate zero k = refl
flag-replicate (suc n) zero = refl
flag-replicate (suc n) (suc k) = flag-replicate n k

-- ---- inputs

abbrev either : Gathering Bool
either = record {
  join = λ x y. x || y;
  unit = false;
  unit_left = λ x. refl;
  comm = or_comm;
  assoc = or_assoc;
}
  where
    or_comm : (x y : Bool) → (x || y) ≡ (y || x)
    or_comm true true = refl
    or_comm true false = refl
    or_comm false true = refl
    or_comm false false = refl

    or_assoc : (x y z : Bool) → ((x || y) || z) ≡ (x || (y || z))
    or_assoc true y z = refl
    or_assoc false y z = refl

none_cleared : (n b : ℕ) (letter : Letter) → flag (flags_at (cleared n) letter) b ≡ false
none_cleared n b N = flag-replicate n b
none_cleared n b _ = flag-replicate n b

any_acts : (b : ℕ) (letter : Letter) (scan : Scan) (xs : List StepAction)
    → total either (λ x. cond (flag scan.active x.step.0) ((x.action.0 == b) && is letter x.qualifier) false) xs
    ≡ list_any (λ x. acts b scan x && is letter x.qualifier) xs
any_acts b letter scan [] = refl
any_acts b letter scan (x ∷ xs) = (λ i. turn (flag scan.active x.step.0) (x.action.0 == b) (is letter x.qualifier) i || any_acts b letter scan xs i)
  where
    turn : (c p r : Bool) → cond c (p && r) false ≡ ((p && c) && r)
    turn true true r = refl
    turn true false r = refl
    turn false true r = refl
    turn false false r = refl

pub inputs_are : (n m : ℕ) (times : List ℤ) (scan : Scan) (associations : List StepAction) (ps : List ℤ) (b : ℕ) (letter : Letter)
    → All (IsWithin n m) associations → length ps ≡ n
    → flag (flags_at (marked_at associations (places_from scan.active 0) (cleared n)) letter) b
    ≡ list_any (λ x. acts b scan x && is letter x.qualifier) associations
inputs_are n m times scan associations ps b letter within e =
    gathered_at either n m times (λ i ps. flag (flags_at i letter) b) (λ x. (x.action.0 == b) && is letter x.qualifier)
    (λ x i ps here sized e. letter_marked n i x.action.0 b here.action sized x.qualifier letter)
    associations scan.active (cleared n) ps within (sized_cleared n) e (none_cleared n b letter)
    ∙ any_acts b letter scan associations

-- ---- times

pub data Timing : Type 0 where
  Untimed : Timing
  Once : ℤ → Timing
  Often : Timing

abbrev joined : Timing → Timing → Timing
joined Untimed t = t
joined (Once t) Untimed = Once t
joined (Once t) (Once u) = Often
joined (Once t) Often = Often
joined Often t = Often

abbrev times_together : Gathering Timing
times_together = record { join = joined; unit = Untimed; unit_left = λ t. refl; comm = comm; assoc = assoc }
  where
    comm : (s t : Timing) → joined s t ≡ joined t s
    comm Untimed Untimed = refl
    comm Untimed (Once t) = refl
    comm Untimed Often = refl
    comm (Once s) Untimed = refl
    comm (Once s) (Once t) = refl
    comm (Once s) Often = refl
    comm Often Untimed = refl
    comm Often (Once t) = refl
    comm Often Often = refl

    assoc : (s t u : Timing) → joined (joined s t) u ≡ joined s (joined t u)
    assoc Untimed t u = refl
    assoc (Once s) Untimed u = refl
    assoc (Once s) (Once t) Untimed = refl
    assoc (Once s) (Once t) (Once u) = refl
    assoc (Once s) (Once t) Often = refl
    assoc (Once s) Often u = refl
    assoc Often t u = refl

abbrev timing : Bool → Bool → ℤ → Timing
timing true any t = Often
timing false true t = Once t
timing false false t = Untimed

-- what is kept of the times of action b
abbrev timing_at : ℕ → Inputs → List ℤ → Timing
timing_at b i ps = timing (flag i.more_times b) (flag i.any_time b) (slice_index_or ps b (pos 0))

abbrev time_of : List ℤ → StepAction → ℤ
time_of times x = slice_index_or times x.number.0 (pos 0)

-- what an association gives to action b
abbrev timing_of : ℕ → List ℤ → StepAction → Timing
timing_of b times x = cond ((x.action.0 == b) && is_timed x.qualifier) (Once (time_of times x)) Untimed

no_time : (t : Timing) (e : Bool) (u : ℤ) → t ≡ joined t (cond (e && false) (Once u) Untimed)
no_time Untimed true u = refl
no_time (Once t) true u = refl
no_time Often true u = refl
no_time Untimed false u = refl
no_time (Once t) false u = refl
no_time Often false u = refl

more_set : (c : Bool) (flags : List Bool) (a b : ℕ) → a < length flags
    → flag (cond c (slice_set flags a true) flags) b ≡ (flag flags b || (c && (a == b)))
more_set true flags a b lt = one_set flags a b lt
more_set false flags a b lt = or_false (flag flags b)
  where
    or_false : (x : Bool) → x ≡ (x || false)
    or_false true = refl
    or_false false = refl

bool_cases : (b : Bool) → (b ≡ true) ⊎ (b ≡ false)
bool_cases true = inl refl
bool_cases false = inr refl

one_put : (ps : List ℤ) (v : ℤ) (a b : ℕ) → a < length ps
    → slice_index_or (slice_set ps a v) b (pos 0) ≡ cond (a == b) v (slice_index_or ps b (pos 0))
one_put ps v a b lt = elim (bool_cases (a == b)) [
  | inl e ↦ (let same : a ≡ b = grind (arith, nat_tests) in rw e (grind (arith, common_steps)))
  | inr e ↦ (let apart : a ≡ b → ⊥ = λ h. (let t : (a == b) ≡ true = grind (arith, nat_tests) in let bad : true ≡ false = sym t ∙ e in absurd cc) in
      rw e (grind (arith, common_steps)))
]

one_time : (more any e c : Bool) (p t : ℤ) → (e ≡ true → c ≡ any)
    → timing (more || (c && e)) (any || e) (cond e t p) ≡ joined (timing more any p) (cond (e && true) (Once t) Untimed)
one_time true any e c p t is = refl
one_time false true true c p t is = rw (is refl) refl
one_time false false true c p t is = rw (is refl) refl
one_time false true false true p t is = refl
one_time false true false false p t is = refl
one_time false false false true p t is = refl
one_time false false false false p t is = refl

module _ (n m : ℕ) (times : List ℤ) (b : ℕ) where
  each_time : (q : Qualifier) (a : ℕ) (t : ℤ) (i : Inputs) (ps : List ℤ) → a < n → AreSized n i → length ps ≡ n
      → timing_at b (marked q a i) (cond (is_timed q) (slice_set ps a t) ps)
      ≡ joined (timing_at b i ps) (cond ((a == b) && is_timed q) (Once t) Untimed)
  each_time (Timed q time) a t i ps lt sized e =
      let more = more_set (flag i.any_time a) i.more_times a b (let h = sized.more_times in omega arith) in
      let any = one_set i.any_time a b (let h = sized.any_time in omega arith) in
      let put = one_put ps t a b (omega arith) in
      (λ k. timing (more k) (any k) (put k))
      ∙ one_time (flag i.more_times b) (flag i.any_time b) (a == b) (flag i.any_time a) (slice_index_or ps b (pos 0)) t
      (λ h. let same : a ≡ b = grind (arith, nat_tests) in ap (flag i.any_time) same)
  each_time _ a t i ps lt sized e = no_time (timing_at b i ps) (a == b) t

  -- of those that act, in text order
  abbrev listed : List ℤ → Timing
  listed [] = Untimed
  listed (t ∷ []) = Once t
  listed (t ∷ (u ∷ ts)) = Often

  listed_more : (t : ℤ) (ts : List ℤ) → joined (Once t) (listed ts) ≡ listed (t ∷ ts)
  listed_more t [] = refl
  listed_more t (u ∷ []) = refl
  listed_more t (u ∷ (v ∷ ts)) = refl

  all_acting : (scan : Scan) (xs : List StepAction)
      → total times_together (λ x. cond (flag scan.active x.step.0) (timing_of b times x) Untimed) xs
      ≡ listed (map (time_of times) (filter (λ x. acts b scan x && is_timed x.qualifier) xs))
  all_acting scan [] = refl
  all_acting scan (x ∷ xs) =
      let rest = filter (λ x. acts b scan x && is_timed x.qualifier) xs in
      ap (joined (cond (flag scan.active x.step.0) (timing_of b times x) Untimed)) (all_acting scan xs)
      ∙ one_more (flag scan.active x.step.0) (x.action.0 == b) (is_timed x.qualifier) x rest
    where
      one_more : (c p r : Bool) (x : StepAction) (xs : List StepAction)
          → joined (cond c (cond (p && r) (Once (time_of times x)) Untimed) Untimed) (listed (map (time_of times) xs))
          ≡ listed (map (time_of times) (cond ((p && c) && r) (x ∷ xs) xs))
      one_more true true true x xs = listed_more (time_of times x) (map (time_of times) xs)
      one_more true true false x xs = refl
      one_more true false r x xs = refl
      one_more false true r x xs = refl
      one_more false false r x xs = refl

  abbrev times_at : Scan → List StepAction → List ℤ
  times_at scan associations = map (time_of times) (filter (λ x. acts b scan x && is_timed x.qualifier) associations)

  pub timing_is : (scan : Scan) (associations : List StepAction) (ps : List ℤ) → All (IsWithin n m) associations → length ps ≡ n
      → timing_at b (marked_at associations (places_from scan.active 0) (cleared n))
      (presets_at times associations (places_from scan.active 0) ps)
      ≡ listed (times_at scan associations)
  timing_is scan associations ps within e =
      gathered_at times_together n m times (timing_at b) (timing_of b times)
      (λ x i ps here sized e. each_time x.qualifier x.action.0 (time_of times x) i ps here.action sized e)
      associations scan.active (cleared n) ps within (sized_cleared n) e
      (λ i. timing (flag-replicate n b i) (flag-replicate n b i) (slice_index_or ps b (pos 0)))
      ∙ all_acting scan associations

  is_often : Timing → Bool
  is_often Untimed = false
  is_often (Once t) = false
  is_often Often = true

  the_time : Timing → ℤ
  the_time Untimed = pos 0
  the_time (Once t) = t
  the_time Often = pos 0

  pub more_are : (more any : Bool) (p : ℤ) (ts : List ℤ) → timing more any p ≡ listed ts → more ≡ nat_lt 1 (length ts)
  unfolding is_often
  more_are more any p ts e = sym (often_kept more any p) ∙ ap is_often e ∙ often_is ts
    where
      often_kept : (more any : Bool) (p : ℤ) → is_often (timing more any p) ≡ more
      often_kept true any p = refl
      often_kept false true p = refl
      often_kept false false p = refl

      often_is : (ts : List ℤ) → is_often (listed ts) ≡ nat_lt 1 (length ts)
      often_is [] = grind (arith, nat_tests)
      often_is (t ∷ []) = grind (arith, nat_tests)
      often_is (t ∷ (u ∷ ts)) = grind (arith, nat_tests)

  pub preset_is : (more any : Bool) (p : ℤ) (ts : List ℤ) → timing more any p ≡ listed ts → more ≡ false
      → cond any p (pos 0) ≡ slice_index_or ts 0 (pos 0)
  unfolding is_often the_time
  preset_is true any p ts e none = absurd cc
  preset_is false true p [] e none = ap the_time e
  preset_is false false p [] e none = refl
  preset_is false true p (t ∷ []) e none = ap the_time e
  preset_is false false p (t ∷ []) e none = ap the_time e
  preset_is false true p (t ∷ (u ∷ ts)) e none = absurd (let bad : false ≡ true = ap is_often e in cc)
  preset_is false false p (t ∷ (u ∷ ts)) e none = absurd (let bad : false ≡ true = ap is_often e in cc)
