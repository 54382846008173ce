-- Before the first scan, and copies.
use Rattle.std.proofs.Common.{◌≡◌, ℕ, Bool, true, false, List, [], length, arith, sym, subst, ◌∙◌, ap}
use Rattle.std.specs.Prelude.{All, map, replicate}
use Rattle.std.proofs.lemmas.List.{length-replicate}
use Rattle.sfc_flags.specs.Flags.{flag}
use Rattle.sfc_tables.specs.declared.step_action.StepAction.{StepAction}
use Rattle.sfc_tables.specs.Tables.{Tabled}
use Rattle.sfc_action.specs.declared.kept.Kept.{Kept}
use Rattle.sfc_action.specs.declared.timed.Timed.{Timed}
use Rattle.sfc_action.specs.declared.blocks.Block.{Block}
use Rattle.sfc_action.specs.declared.control_state.ControlState.{ControlState}
use Rattle.sfc_action.specs.ActionControl.{Scan}
use Rattle.sfc_action.specs.Private.TimedSets.{none}
use Rattle.sfc_action.specs.Private.Storing.{IsKept}
use Rattle.sfc_action.specs.Private.Delays.{AreOf}
use Rattle.sfc_action.specs.Private.Keeping.{IsStateSized, IsFresh, IsCopy, AreFor, IsStateAfter, BlockAgrees, IsCovered, delay_of}
use Rattle.sfc_action.specs.Private.DelayLists.{with_delays}
use Rattle.sfc_action.specs.Private.Listing.{IsNew, IsList}
use Rattle.sfc_action.specs.Private.Singles.{AreSingle}
use Rattle.sfc_action.proofs.Sizes.{is_kept}
use Rattle.sfc_action.proofs.Timings.{flag-replicate}

-- ---- before the first scan

pub all_listed : (n : ℕ) (seen : Timed) (associations : List StepAction) (blocks : List Block) → seen ≡ none n
    → IsList (length seen.limited) associations blocks → IsList n associations blocks
all_listed n seen associations blocks e listed =
    let size : length seen.limited ≡ n = ap (λ (sets : Timed). length sets.limited) e ∙ length-replicate n false in
    subst (λ k. IsList k associations blocks) size listed

sized_flags : (n : ℕ) (flags : List Bool) → flags ≡ replicate n false → length flags ≡ n
sized_flags n flags e = ap length e ∙ length-replicate n false

no_flag : (n a : ℕ) (flags : List Bool) → flags ≡ replicate n false → flag flags a ≡ false
no_flag n a flags e = ap (λ xs. flag xs a) e ∙ flag-replicate n a

pub fresh_sized : (n : ℕ) (blocks : List Block) (is_single : Bool) (state : ControlState) → IsFresh n blocks is_single state → AreOf n blocks → IsStateSized n state
fresh_sized n blocks is_single state fresh of = record {
  kept = is_kept n state.kept fresh.kept;
  q = sized_flags n state.q fresh.q;
  executed = sized_flags n state.executed fresh.executed;
  blocks = subst (AreOf n) (sym fresh.blocks) of;
}

pub fresh_for : (tables : Tabled) (n : ℕ) (associations : List StepAction) (blocks : List Block) (is_single : Bool)
    (state : ControlState) → n ≡ length tables.actions → associations ≡ tables.associations → IsFresh n blocks is_single state
    → IsList n associations blocks → (is_single ≡ true → AreSingle associations) → AreFor tables state
fresh_for tables n associations blocks is_single state en ea fresh listed single = record {
  sized = subst (λ k. IsStateSized k state) en (fresh_sized n blocks is_single state fresh listed.actions);
  delays = ap (map delay_of) fresh.blocks ∙ listed.delays ∙ ap (with_delays []) ea;
  few = let e = ap length fresh.blocks in let same = ap length ea in let few = listed.few in omega arith;
  covered = subst (λ (xs : List Block). All (IsCovered xs) tables.associations) (sym fresh.blocks)
      (subst (λ (xs : List StepAction). All (IsCovered blocks) xs) ea listed.covered);
  single = λ on. subst AreSingle ea (single (sym fresh.single ∙ on));
}

pub fresh_state : (tables : Tabled) (n : ℕ) (blocks : List Block) (is_single : Bool) (state : ControlState)
    → IsFresh n blocks is_single state → All IsNew blocks
    → IsStateAfter tables state []
fresh_state tables n blocks is_single state fresh all = record {
  pulse = λ a lt. ap (λ (k : Kept). flag k.pulse a) fresh.kept ∙ flag-replicate n a;
  rising_pulse = λ a lt. ap (λ (k : Kept). flag k.rising_pulse a) fresh.kept ∙ flag-replicate n a;
  falling_pulse = λ a lt. ap (λ (k : Kept). flag k.falling_pulse a) fresh.kept ∙ flag-replicate n a;
  set = λ a lt. ap (λ (k : Kept). flag k.stores.set a) fresh.kept ∙ flag-replicate n a;
  stored_delayed = λ a lt. ap (λ (k : Kept). flag k.stores.stored_delayed a) fresh.kept ∙ flag-replicate n a;
  stored_limited = λ a lt. ap (λ (k : Kept). flag k.stores.stored_limited a) fresh.kept ∙ flag-replicate n a;
  delayed_stored = λ a lt. ap (λ (k : Kept). flag k.delayed_stored a) fresh.kept ∙ flag-replicate n a;
  q = λ a lt. no_flag n a state.q fresh.q;
  executed = λ a lt. no_flag n a state.executed fresh.executed;
  blocks = subst (λ (xs : List Block). All (BlockAgrees tables []) xs) (sym fresh.blocks)
      (λ k d lt. record { delay = (all k d lt).delay; elapsed = (all k d lt).elapsed });
}

-- ---- copies

copied_sized : (n : ℕ) (from to : ControlState) → IsCopy from to → IsStateSized n from → IsStateSized n to
copied_sized n from to copy sized = record {
  kept = subst (IsKept n) (sym copy.kept) sized.kept;
  q = ap length copy.q ∙ sized.q;
  executed = ap length copy.executed ∙ sized.executed;
  blocks = subst (AreOf n) (sym copy.blocks) sized.blocks;
}

pub copied_for : (tables : Tabled) (from to : ControlState) → IsCopy from to → AreFor tables from → AreFor tables to
copied_for tables from to copy for = record {
  sized = copied_sized (length tables.actions) from to copy for.sized;
  delays = ap (map delay_of) copy.blocks ∙ for.delays;
  few = let e = ap length copy.blocks in let few = for.few in omega arith;
  covered = subst (λ (xs : List Block). All (IsCovered xs) tables.associations) (sym copy.blocks) for.covered;
  single = λ on. for.single (sym copy.single ∙ on);
}

pub copied_state : (tables : Tabled) (from to : ControlState) (h : List Scan) → IsCopy from to → IsStateAfter tables from h → IsStateAfter tables to h
copied_state tables from to h copy each = record {
  pulse = λ a lt. ap (λ (k : Kept). flag k.pulse a) copy.kept ∙ each.pulse a lt;
  rising_pulse = λ a lt. ap (λ (k : Kept). flag k.rising_pulse a) copy.kept ∙ each.rising_pulse a lt;
  falling_pulse = λ a lt. ap (λ (k : Kept). flag k.falling_pulse a) copy.kept ∙ each.falling_pulse a lt;
  set = λ a lt. ap (λ (k : Kept). flag k.stores.set a) copy.kept ∙ each.set a lt;
  stored_delayed = λ a lt. ap (λ (k : Kept). flag k.stores.stored_delayed a) copy.kept ∙ each.stored_delayed a lt;
  stored_limited = λ a lt. ap (λ (k : Kept). flag k.stores.stored_limited a) copy.kept ∙ each.stored_limited a lt;
  delayed_stored = λ a lt. ap (λ (k : Kept). flag k.delayed_stored a) copy.kept ∙ each.delayed_stored a lt;
  q = λ a lt. ap (λ xs. flag xs a) copy.q ∙ each.q a lt;
  executed = λ a lt. ap (λ xs. flag xs a) copy.executed ∙ each.executed a lt;
  blocks = subst (λ (xs : List Block). All (BlockAgrees tables h) xs) (sym copy.blocks) each.blocks;
}
