-- A scan of the live on-delays is one of all.
use Rattle.std.proofs.Common.{◌≡◌, ℕ, zero, suc, ◌+◌, ◌-◌, ◌<◌, ◌≤◌, Bool, true, false, cond, ◌||◌, List, [], ◌∷◌, ◌++◌, length, get_or, take, drop, arith, refl, sym, ◌∙◌, ap, subst, inl, inr, Option, Some, None, ℤ}
use Rattle.std.specs.Prelude.{slice_set, is_some, map}
use Rattle.std.proofs.lemmas.Bool.{cases_lt}
use Rattle.std.proofs.lemmas.List.{get_or-drop, get_or-set_same, get_or-set_other, take_more, take_all, length-set}
use Rattle.sfc_flags.specs.Flags.{flag, set_from, places_from}
use Rattle.sfc_timers.specs.Past.{on_delay_in}
use Rattle.sfc_timers.proofs.Pasts.{on_delay_keeps, on_delay_agrees}
use Rattle.sfc_action.specs.declared.timed.Timed.{Timed}
use Rattle.sfc_action.specs.declared.blocks.Block.{Block}
use Rattle.sfc_action.specs.Private.TimedSets.{AreAll, with_action}
use Rattle.sfc_action.specs.Private.Delays.{IsStepped, gathered}
use Rattle.sfc_action.specs.Private.Listing.{IsNew}
use Rattle.sfc_action.specs.Private.Live.{IsIdle}
use Rattle.sfc_action.specs.Private.DelayLists.{Delay}
use Rattle.sfc_action.specs.Private.Keeping.{delay_of}
use Rattle.sfc_action.proofs.Elements.{next_done}
use Rattle.sfc_action.proofs.Sizes.{all_added}

-- ---- places without a flag

before_first : (s j : ℕ) (flags : List Bool) (rest : List ℕ) → set_from s flags ≡ j ∷ rest → (m : ℕ) → s + m < j → flag flags m ≡ false
before_first s j [] rest e m lt = refl
before_first s j (true ∷ flags) rest e m lt = let same : s ≡ j = cc in absurd (omega arith)
before_first s j (false ∷ flags) rest e zero lt = refl
before_first s j (false ∷ flags) rest e (suc m) lt = before_first (suc s) j flags rest e m (omega arith)

with_none : (s : ℕ) (flags : List Bool) → set_from s flags ≡ [] → (m : ℕ) → flag flags m ≡ false
with_none s [] e m = refl
with_none s (true ∷ flags) e m = absurd cc
with_none s (false ∷ flags) e zero = refl
with_none s (false ∷ flags) e (suc m) = with_none (suc s) flags e m

at_place : (flags : List Bool) (at k : ℕ) → at ≤ k → flag (drop at flags) (k - at) ≡ flag flags k
at_place flags at k le =
    let same : at + (k - at) ≡ k = omega arith in get_or-drop at flags (k - at) false ∙ ap (flag flags) same

-- between a place and the next set one none is set
pub between : (flags : List Bool) (at j : ℕ) (rest : List ℕ) → places_from flags at ≡ j ∷ rest → (k : ℕ) → at ≤ k → k < j
    → flag flags k ≡ false
between flags at j rest e k le lt =
    sym (at_place flags at k le) ∙ before_first at j (drop at flags) rest e (k - at) (omega arith)

pub none_behind : (flags : List Bool) (at : ℕ) → places_from flags at ≡ [] → (k : ℕ) → at ≤ k → flag flags k ≡ false
none_behind flags at e k le = sym (at_place flags at k le) ∙ with_none at (drop at flags) e (k - at)

-- ---- idle on-delays

pub none_is : {A : Type 0} (o : Option A) → is_some o ≡ false → o ≡ None
none_is None e = refl
none_is (Some x) e = absurd cc

pub idle_stepped : (pt t : ℤ) (block : Block) → IsIdle block → IsStepped false pt t block block
idle_stepped pt t block idle = record {
  action = refl;
  qualifier = refl;
  agrees = λ h agrees. on_delay_agrees block.delay ((false, pt, t) ∷ h) (none_is (on_delay_in block.delay) idle.runs);
  answer = λ h agrees. idle.elapsed;
}

-- an on-delay without a flag, which it would have with its input
pub idle_apart : (input live : Bool) (pt t : ℤ) (block : Block) → IsIdle block → live ≡ false → (input ≡ true → live ≡ true)
    → IsStepped input pt t block block
idle_apart true live pt t block idle off wakes = let bad : true ≡ false = sym (wakes refl) ∙ off in absurd cc
idle_apart false live pt t block idle off wakes = idle_stepped pt t block idle

pub new_idle : (block : Block) → IsNew block → IsIdle block
new_idle block new = record { runs = ap is_some (on_delay_keeps block.delay [] new.delay); elapsed = new.elapsed }

pub or_left : (x y : Bool) → (x || y) ≡ false → x ≡ false
or_left true y e = e
or_left false y e = refl

pub or_right : (x y : Bool) → (x || y) ≡ false → y ≡ false
or_right true y e = absurd cc
or_right false y e = e

pub noted_idle : (block : Block) → (is_some (on_delay_in block.delay) || block.elapsed) ≡ false → IsIdle block
noted_idle block e = record { runs = or_left _ _ e; elapsed = or_right _ _ e }

-- ---- one live on-delay more

module _ (old now : List Block) (at p : ℕ) (e after : Block) (le : at ≤ p) (lt : p < length now)
    (rest : (k : ℕ) (d : Block) → at ≤ k → get_or now k d ≡ get_or old k d) where
  pub more_stepped : (R : Block → Block → Type 0) → R (get_or now p e) after
      → ((k : ℕ) (d : Block) → k < at → R (get_or old k d) (get_or now k d))
      → ((k : ℕ) (d : Block) → at ≤ k → k < p → R (get_or old k d) (get_or old k d))
      → (k : ℕ) (d : Block) → k < p + 1 → R (get_or old k d) (get_or (slice_set now p after) k d)
  more_stepped R step done same =
      next_done R old now p e after lt step
      (λ k d less. elim (cases_lt k at) [
        | inl before ↦ done k d before
        | inr behind ↦ subst (R (get_or old k d)) (sym (rest k d (omega arith))) (same k d (omega arith) less)
      ])
      (λ k d more. rest k d (omega arith))

  pub more_idle : (live first : List Bool) (b : Bool) → length live ≡ length now → (b ≡ false → IsIdle after)
      → ((k : ℕ) → at ≤ k → flag live k ≡ flag first k)
      → ((k : ℕ) (d : Block) → k < at → flag live k ≡ false → IsIdle (get_or now k d))
      → ((k : ℕ) (d : Block) → at ≤ k → k < p → flag first k ≡ false → IsIdle (get_or old k d))
      → (k : ℕ) (d : Block) → k < p + 1 → flag (slice_set live p b) k ≡ false → IsIdle (get_or (slice_set now p after) k d)
  more_idle live first b size here unseen idle others k d less off = elim (cases_lt k p) [
    | inl before ↦ (
        let apart : get_or (slice_set now p after) k d ≡ get_or now k d =
        get_or-set_other now p k after d (λ e. omega (arith, e)) in
        let still : flag live k ≡ false = sym (get_or-set_other live p k b false (λ e. omega (arith, e))) ∙ off in
        subst IsIdle (sym apart) (elim (cases_lt k at) [
          | inl seen ↦ idle k d seen still
          | inr ahead ↦ subst IsIdle (sym (rest k d (omega arith))) (others k d (omega arith) before (sym (unseen k (omega arith)) ∙ still))
        ]))
    | inr behind ↦ (
        let there : k ≡ p = omega arith in
        let put : get_or (slice_set now p after) p d ≡ after = get_or-set_same now p after d lt in
        let bit : flag (slice_set live p b) p ≡ b = get_or-set_same live p b false (omega arith) in
        let is_off : b ≡ false = sym bit ∙ ap (flag (slice_set live p b)) (sym there) ∙ off in
        rw (there, put) (here is_off))
  ]

-- ---- those that have elapsed

pub sized_noted : (n : ℕ) (block : Block) (sets : Timed) → AreAll n sets
    → AreAll n (cond block.elapsed (with_action block.qualifier block.action.0 sets) sets)
sized_noted n block sets h = by_test block.elapsed
  where
    by_test : (e : Bool) → AreAll n (cond e (with_action block.qualifier block.action.0 sets) sets)
    by_test true = all_added n block.qualifier block.action.0 sets h
    by_test false = h

pub gathered_more : (xs : List Block) (block : Block) (sets : Timed) → gathered (xs ++ block ∷ []) sets
    ≡ cond block.elapsed (with_action block.qualifier block.action.0 (gathered xs sets)) (gathered xs sets)
gathered_more [] block sets = refl
gathered_more (x ∷ xs) block sets =
    gathered_more xs block (cond x.elapsed (with_action x.qualifier x.action.0 sets) sets)

-- those that are idle add nothing
pub gathered_idle : (blocks : List Block) (sets : Timed) (at n : ℕ) → at + n ≤ length blocks
    → ((k : ℕ) (d : Block) → at ≤ k → k < at + n → IsIdle (get_or blocks k d))
    → gathered (take (at + n) blocks) sets ≡ gathered (take at blocks) sets
gathered_idle blocks sets at zero le idle = let e : at + 0 ≡ at = omega arith in ap (λ k. gathered (take k blocks) sets) e
gathered_idle [] sets at (suc n) le idle = absurd (omega arith)
gathered_idle (b ∷ bs) sets at (suc n) le idle =
    let blocks : List Block = b ∷ bs in
    let last : Block = get_or (b ∷ bs) (at + n) b in
    let e : at + suc n ≡ (at + n) + 1 = omega arith in
    let off : last.elapsed ≡ false = (idle (at + n) b (omega arith) (omega arith)).elapsed in
    ap (λ k. gathered (take k (b ∷ bs)) sets) e
    ∙ ap (λ xs. gathered xs sets) (take_more (b ∷ bs) (at + n) b (omega arith))
    ∙ gathered_more (take (at + n) (b ∷ bs)) last sets
    ∙ ap (λ c. cond c (with_action last.qualifier last.action.0 (gathered (take (at + n) (b ∷ bs)) sets))
    (gathered (take (at + n) (b ∷ bs)) sets)) off
    ∙ gathered_idle (b ∷ bs) sets at n (omega arith) (λ k d ge less. idle k d ge (omega arith))

take_set : (xs : List Block) (p : ℕ) (x : Block) → take p (slice_set xs p x) ≡ take p xs
take_set [] zero x = refl
take_set [] (suc p) x = refl
take_set (y ∷ xs) zero x = refl
take_set (y ∷ xs) (suc p) x = ap (λ l. y ∷ l) (take_set xs p x)

-- one more, behind idle ones
pub gathered_next : (blocks : List Block) (sets : Timed) (at p : ℕ) (after : Block) → at ≤ p → p < length blocks
    → ((k : ℕ) (d : Block) → at ≤ k → k < p → IsIdle (get_or blocks k d))
    → gathered (take (p + 1) (slice_set blocks p after)) sets
    ≡ cond after.elapsed (with_action after.qualifier after.action.0 (gathered (take at blocks) sets)) (gathered (take at blocks) sets)
gathered_next blocks sets at p after le lt idle =
    let whole : length (slice_set blocks p after) ≡ length blocks = length-set blocks p after in
    let here : get_or (slice_set blocks p after) p after ≡ after = get_or-set_same blocks p after after lt in
    let same : at + (p - at) ≡ p = omega arith in
    let before : gathered (take p blocks) sets ≡ gathered (take at blocks) sets =
    ap (λ k. gathered (take k blocks) sets) (sym same)
    ∙ gathered_idle blocks sets at (p - at) (omega arith) (λ k d ge less. idle k d ge (omega arith)) in
    ap (λ xs. gathered xs sets) (take_more (slice_set blocks p after) p after (omega arith))
    ∙ (λ i. gathered (take_set blocks p after i ++ here i ∷ []) sets)
    ∙ gathered_more (take p blocks) after sets
    ∙ ap (λ s. cond after.elapsed (with_action after.qualifier after.action.0 s) s) before

-- all of them, where those from a place on are idle
pub gathered_all : (blocks : List Block) (sets : Timed) (at : ℕ) → at ≤ length blocks
    → ((k : ℕ) (d : Block) → at ≤ k → k < length blocks → IsIdle (get_or blocks k d))
    → gathered (take at blocks) sets ≡ gathered blocks sets
gathered_all blocks sets at le idle =
    let n = length blocks - at in
    let same : at + n ≡ length blocks = omega arith in
    sym (gathered_idle blocks sets at n (omega arith) (λ k d ge less. idle k d ge (omega arith)))
    ∙ ap (λ k. gathered (take k blocks) sets) same ∙ ap (λ xs. gathered xs sets) (take_all (length blocks) blocks (omega arith))

-- the same on-delays are of the same actions
pub same_actions : (xs ys : List Block) → map delay_of xs ≡ map delay_of ys → (k : ℕ) (d : Block)
    → (get_or xs k d).action.0 ≡ (get_or ys k d).action.0
same_actions [] [] e k d = refl
same_actions [] (y ∷ ys) e k d = absurd cc
same_actions (x ∷ xs) [] e k d = absurd cc
same_actions (x ∷ xs) (y ∷ ys) e zero d = let first : delay_of x ≡ delay_of y = cc in ap (λ (r : Delay). r.action) first
same_actions (x ∷ xs) (y ∷ ys) e (suc k) d = let rest : map delay_of xs ≡ map delay_of ys = cc in same_actions xs ys rest k d
