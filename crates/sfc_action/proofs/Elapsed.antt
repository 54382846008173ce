-- The on-delays that have elapsed are those of the definitions.
use Rattle.std.proofs.Common.{◌≡◌, ◌⊎◌, ℕ, ◌<◌, ◌==◌, Bool, true, false, cond, not, ◌&&◌, ◌||◌, List, [], ◌∷◌, length, arith, refl, sym, ◌∙◌, ap, inl, inr, ℤ}
use Rattle.std.specs.Prelude.{slice_set, All}
use Rattle.std.specs.List.{list_any}
use Rattle.std.proofs.lemmas.Bool.Decides.{nat_tests}
use Rattle.std.proofs.lemmas.List.Elements.{All-head, All-tail}
use Rattle.sfc_base.specs.declared.qualifier.TimedQualifier.{TimedQualifier}
use Rattle.sfc_base.specs.declared.qualifier.TimedQualifier.TheVariants.{Limited, Delayed, StoredDelayed, DelayedStored, StoredLimited}
use Rattle.sfc_flags.specs.Flags.{flag}
use Rattle.sfc_timers.specs.Timers.{Reading, Bistable, has_elapsed, is_on}
use Rattle.sfc_plant.specs.declared.association.Qualifier.{Qualifier}
use Rattle.sfc_plant.specs.declared.association.Qualifier.TheVariants.{NonStored, Reset, Set, Pulse, RisingPulse, FallingPulse}
use Rattle.sfc_plant.specs.declared.association.Qualifier.TheVariants as qualifier
use Rattle.sfc_tables.specs.declared.step_action.StepAction.{StepAction}
use Rattle.sfc_tables.specs.Tables.{Tabled}
use Rattle.sfc_action.specs.declared.timed.Timed.{Timed}
use Rattle.sfc_action.specs.declared.blocks.Block.{Block}
use Rattle.sfc_action.specs.ActionControl.{Scan, Letter, L, D, SD, DS, SL, R, is, acts, input, stored, on_delay, preset}
use Rattle.sfc_action.specs.Private.TimedSets.{AreAll, none, by, with_action}
use Rattle.sfc_action.specs.Private.Delays.{gathered, AreOf}
use Rattle.sfc_action.specs.Private.Keeping.{is_of, has_block, IsCovered, called, readings, BlockAgrees}
use Rattle.sfc_action.specs.Private.DelayLists.{same_timed}
use Rattle.sfc_action.proofs.Sizes.{all_added, all_none}
use Rattle.sfc_action.proofs.ScanInputs.{one_set}
use Rattle.sfc_action.proofs.Timings.{flag-replicate}

pub bool_cases : (b : Bool) → (b ≡ true) ⊎ (b ≡ false)
bool_cases true = inl refl
bool_cases false = inr refl

and_none : (b e : Bool) → b ≡ (b || (e && false))
and_none true e = refl
and_none false true = refl
and_none false false = refl

and_true : (e : Bool) → (e && true) ≡ e
and_true true = refl
and_true false = refl

module _ (n : ℕ) (sets : Timed) (a b : ℕ) (lt : a < n) (h : AreAll n sets) where
  put : (flags : List Bool) → length flags ≡ n → flag (slice_set flags a true) b ≡ (flag flags b || ((a == b) && true))
  put flags e = one_set flags a b (omega arith) ∙ ap (λ x. flag flags b || x) (sym (and_true (a == b)))

  keep : (flags : List Bool) → flag flags b ≡ (flag flags b || ((a == b) && false))
  keep flags = and_none (flag flags b) (a == b)

  pub added : (p q : TimedQualifier)
      → flag (by q (with_action p a sets)) b ≡ (flag (by q sets) b || ((a == b) && same_timed q p))
  added Limited Limited = put sets.limited h.limited
  added Limited _ = keep _
  added Delayed Delayed = put sets.delayed h.delayed
  added Delayed _ = keep _
  added StoredDelayed StoredDelayed = put sets.stored_delayed h.stored_delayed
  added StoredDelayed _ = keep _
  added DelayedStored DelayedStored = put sets.delayed_stored h.delayed_stored
  added DelayedStored _ = keep _
  added StoredLimited StoredLimited = put sets.stored_limited h.stored_limited
  added StoredLimited _ = keep _

module _ (n b : ℕ) (q : TimedQualifier) where
  one_gathered : (block : Block) (sets : Timed) → block.action.0 < n → AreAll n sets
      → flag (by q (cond block.elapsed (with_action block.qualifier block.action.0 sets) sets)) b
      ≡ (flag (by q sets) b || (block.elapsed && is_of b q block))
  one_gathered block sets lt h = by_test block.elapsed
    where
      by_test : (e : Bool) → flag (by q (cond e (with_action block.qualifier block.action.0 sets) sets)) b
          ≡ (flag (by q sets) b || (e && is_of b q block))
      by_test true = added n sets block.action.0 b lt h block.qualifier q
      by_test false = or_false (flag (by q sets) b)
        where
          or_false : (x : Bool) → x ≡ (x || false)
          or_false true = refl
          or_false false = refl

  added_sized : (block : Block) (sets : Timed) → AreAll n sets
      → AreAll n (cond block.elapsed (with_action block.qualifier block.action.0 sets) sets)
  added_sized block sets h = by_test block.elapsed
    where
      by_test : (e : Bool) → AreAll n (cond e (with_action block.qualifier block.action.0 sets) sets)
      by_test true = all_added n block.qualifier block.action.0 sets h
      by_test false = h

  flag-gathered : (blocks : List Block) (sets : Timed) → AreOf n blocks → AreAll n sets
      → flag (by q (gathered blocks sets)) b ≡ (flag (by q sets) b || list_any (λ k. k.elapsed && is_of b q k) blocks)
  flag-gathered [] sets of h = or_false (flag (by q sets) b)
    where
      or_false : (x : Bool) → x ≡ (x || false)
      or_false true = refl
      or_false false = refl
  flag-gathered (block ∷ blocks) sets of h =
      let here = All-head (λ (k : Block). k.action.0 < n) block blocks of in
      flag-gathered blocks (cond block.elapsed (with_action block.qualifier block.action.0 sets) sets)
      (All-tail (λ (k : Block). k.action.0 < n) block blocks of) (added_sized block sets h)
      ∙ ap (λ x. x || list_any (λ k. k.elapsed && is_of b q k) blocks) (one_gathered block sets here h)
      ∙ turn (flag (by q sets) b) (block.elapsed && is_of b q block) (list_any (λ k. k.elapsed && is_of b q k) blocks)
    where
      turn : (x y z : Bool) → ((x || y) || z) ≡ (x || (y || z))
      turn true y z = refl
      turn false y z = refl

  pub none_at : (k : TimedQualifier) → flag (by k (none n)) b ≡ false
  none_at Limited = flag-replicate n b
  none_at Delayed = flag-replicate n b
  none_at StoredDelayed = flag-replicate n b
  none_at DelayedStored = flag-replicate n b
  none_at StoredLimited = flag-replicate n b

-- ---- blocks of one action and qualifier

pub same_timed_is : (p q : TimedQualifier) → same_timed p q ≡ true → q ≡ p
same_timed_is Limited Limited e = refl
same_timed_is Limited _ e = absurd cc
same_timed_is Delayed Delayed e = refl
same_timed_is Delayed _ e = absurd cc
same_timed_is StoredDelayed StoredDelayed e = refl
same_timed_is StoredDelayed _ e = absurd cc
same_timed_is DelayedStored DelayedStored e = refl
same_timed_is DelayedStored _ e = absurd cc
same_timed_is StoredLimited StoredLimited e = refl
same_timed_is StoredLimited _ e = absurd cc

pub and_left : (x y : Bool) → (x && y) ≡ true → x ≡ true
and_left true y e = refl
and_left false y e = e

pub and_right : (x y : Bool) → (x && y) ≡ true → y ≡ true
and_right true y e = e
and_right false y e = absurd cc

pub elapsed_of : (tables : Tabled) (h : List Scan) (a : ℕ) (q : TimedQualifier) (block : Block) → BlockAgrees tables h block
    → is_of a q block ≡ true → block.elapsed ≡ on_delay tables a (called tables a q) h
elapsed_of tables h a q block agrees e =
    let t = and_left (block.action.0 == a) (same_timed q block.qualifier) e in
    let same_action : block.action.0 ≡ a = grind (arith, nat_tests) in
    let same_qualifier : block.qualifier ≡ q = same_timed_is q block.qualifier
    (and_right (block.action.0 == a) (same_timed q block.qualifier) e) in
    agrees.elapsed ∙ (λ i. has_elapsed (readings tables (same_action i) (same_qualifier i) h))

any_elapsed : (v : Bool) (is : Block → Bool) (blocks : List Block) → All (λ k. is k ≡ true → k.elapsed ≡ v) blocks
    → list_any (λ k. k.elapsed && is k) blocks ≡ (v && list_any is blocks)
any_elapsed v is [] each = no v
  where
    no : (v : Bool) → false ≡ (v && false)
    no true = refl
    no false = refl
any_elapsed v is (k ∷ blocks) each =
    ap (λ x. (k.elapsed && is k) || x)
    (any_elapsed v is blocks (All-tail (λ (k : Block). is k ≡ true → k.elapsed ≡ v) k blocks each))
    ∙ turn k.elapsed (is k) v (list_any is blocks) (All-head (λ (k : Block). is k ≡ true → k.elapsed ≡ v) k blocks each)
  where
    turn : (e m v r : Bool) → (m ≡ true → e ≡ v) → ((e && m) || (v && r)) ≡ (v && (m || r))
    turn e true v r is = rw (is refl) (when v r)
      where
        when : (v r : Bool) → ((v && true) || (v && r)) ≡ (v && true)
        when true r = refl
        when false r = refl
    turn e false v r is = ap (λ x. x || (v && r)) (no e)
      where
        no : (e : Bool) → (e && false) ≡ false
        no true = refl
        no false = refl

-- ---- where there is no block there is no input

abbrev letter_for : TimedQualifier → Letter
letter_for Limited = L
letter_for Delayed = D
letter_for StoredDelayed = SD
letter_for DelayedStored = DS
letter_for StoredLimited = SL

is_for : (blocks : List Block) (a : ℕ) (q : TimedQualifier) (p : Qualifier) → is (letter_for q) p ≡ true
    → has_block blocks a p ≡ list_any (is_of a q) blocks
is_for blocks a Limited (qualifier.Timed Limited time) e = refl
is_for blocks a Limited _ e = absurd cc
is_for blocks a Delayed (qualifier.Timed Delayed time) e = refl
is_for blocks a Delayed _ e = absurd cc
is_for blocks a StoredDelayed (qualifier.Timed StoredDelayed time) e = refl
is_for blocks a StoredDelayed _ e = absurd cc
is_for blocks a DelayedStored (qualifier.Timed DelayedStored time) e = refl
is_for blocks a DelayedStored _ e = absurd cc
is_for blocks a StoredLimited (qualifier.Timed StoredLimited time) e = refl
is_for blocks a StoredLimited _ e = absurd cc

one_silent : (blocks : List Block) (a : ℕ) (q : TimedQualifier) (scan : Scan) (x : StepAction) → IsCovered blocks x
    → list_any (is_of a q) blocks ≡ false → (acts a scan x && is (letter_for q) x.qualifier) ≡ false
one_silent blocks a q scan x covered empty = elim (bool_cases (acts a scan x && is (letter_for q) x.qualifier)) [
  | inr never ↦ never
  | inl both ↦ (
      let acting = and_left (acts a scan x) (is (letter_for q) x.qualifier) both in
      let t = and_left (x.action.0 == a) (flag scan.active x.step.0) acting in
      let same : x.action.0 ≡ a = grind (arith, nat_tests) in
      let letter = and_right (acts a scan x) (is (letter_for q) x.qualifier) both in
      let there : list_any (is_of a q) blocks ≡ true =
      sym (is_for blocks a q x.qualifier letter) ∙ ap (λ k. has_block blocks k x.qualifier) (sym same) ∙ covered in
      let bad : true ≡ false = sym there ∙ empty in
      absurd cc)
]

all_silent : (blocks : List Block) (a : ℕ) (q : TimedQualifier) (scan : Scan) (xs : List StepAction) → All (IsCovered blocks) xs
    → list_any (is_of a q) blocks ≡ false → list_any (λ x. acts a scan x && is (letter_for q) x.qualifier) xs ≡ false
all_silent blocks a q scan [] covered empty = refl
all_silent blocks a q scan (x ∷ xs) covered empty =
    ap (λ b. b || list_any (λ x. acts a scan x && is (letter_for q) x.qualifier) xs)
    (one_silent blocks a q scan x (All-head (IsCovered blocks) x xs covered) empty)
    ∙ all_silent blocks a q scan xs (All-tail (IsCovered blocks) x xs covered) empty

module _ (tables : Tabled) (blocks : List Block) (a : ℕ) (q : TimedQualifier) (covered : All (IsCovered blocks) tables.associations)
    (empty : list_any (is_of a q) blocks ≡ false) where
  no_input : (h : List Scan) → input tables a (letter_for q) h ≡ false
  no_input [] = refl
  no_input (scan ∷ h) = all_silent blocks a q scan tables.associations covered empty

-- one more call of a flip-flop
pub is_on_next : (s r : Bool) (h : List Bistable) → is_on ((s, r) ∷ h) ≡ ((is_on h || s) && not r)
is_on_next true true h = never (is_on h)
  where
    never : (b : Bool) → false ≡ ((b || true) && false)
    never true = refl
    never false = refl
is_on_next false true h = never (is_on h)
  where
    never : (b : Bool) → false ≡ ((b || false) && false)
    never true = refl
    never false = refl
is_on_next true false h = always (is_on h)
  where
    always : (b : Bool) → true ≡ ((b || true) && true)
    always true = refl
    always false = refl
is_on_next false false h = same (is_on h)
  where
    same : (b : Bool) → b ≡ ((b || false) && true)
    same true = refl
    same false = refl

never_stored : (tables : Tabled) (a : ℕ) (letter : Letter) → ((h : List Scan) → input tables a letter h ≡ false)
    → (h : List Scan) → stored tables a letter h ≡ false
never_stored tables a letter none [] = refl
never_stored tables a letter none (scan ∷ h) =
    is_on_next (input tables a letter (scan ∷ h)) (input tables a R (scan ∷ h)) _
    ∙ (λ i. (never_stored tables a letter none h i || none (scan ∷ h) i) && not (input tables a R (scan ∷ h)))

pub never_called : (tables : Tabled) (blocks : List Block) (a : ℕ) (q : TimedQualifier) → All (IsCovered blocks) tables.associations
    → list_any (is_of a q) blocks ≡ false → (h : List Scan) → called tables a q h ≡ false
never_called tables blocks a Limited covered empty h = no_input tables blocks a Limited covered empty h
never_called tables blocks a Delayed covered empty h = no_input tables blocks a Delayed covered empty h
never_called tables blocks a StoredDelayed covered empty h =
    never_stored tables a SD (no_input tables blocks a StoredDelayed covered empty) h
never_called tables blocks a DelayedStored covered empty h = no_input tables blocks a DelayedStored covered empty h
never_called tables blocks a StoredLimited covered empty h =
    never_stored tables a SL (no_input tables blocks a StoredLimited covered empty) h

pub never_elapsed : (x : Bool) (p t : ℤ) (h : List Reading) → x ≡ false → has_elapsed ((x, p, t) ∷ h) ≡ false
never_elapsed true p t h e = absurd cc
never_elapsed false p t h e = refl

-- the sets of those that have elapsed
pub elapsed_are : (tables : Tabled) (scan : Scan) (h : List Scan) (n : ℕ) (blocks : List Block) (q : TimedQualifier) (a : ℕ)
    → AreOf n blocks → All (BlockAgrees tables (scan ∷ h)) blocks → All (IsCovered blocks) tables.associations
    → flag (by q (gathered blocks (none n))) a ≡ on_delay tables a (called tables a q) (scan ∷ h)
elapsed_are tables scan h n blocks q a of agree covered =
    let v = on_delay tables a (called tables a q) (scan ∷ h) in
    flag-gathered n a q blocks (none n) of (all_none n)
    ∙ ap (λ x. x || list_any (λ k. k.elapsed && is_of a q k) blocks) (none_at n a q q)
    ∙ any_elapsed v (is_of a q) blocks
    (λ k d lt. elapsed_of tables (scan ∷ h) a q _ (agree k d lt))
    ∙ elim (bool_cases (list_any (is_of a q) blocks)) [
      | inl there ↦ (ap (λ x. v && x) there ∙ and_true v)
      | inr empty ↦ (
          let silent : v ≡ false =
          never_elapsed (called tables a q (scan ∷ h)) (preset tables a scan) scan.at _
          (never_called tables blocks a q covered empty (scan ∷ h)) in
          ap (λ x. v && x) empty ∙ (λ i. silent i && false) ∙ sym silent)
    ]
