-- One more on-delay.
use Rattle.std.proofs.Common.{◌≡◌, ℕ, ◌+◌, ◌<◌, ◌≤◌, ◌==◌, Bool, true, false, cond, ◌&&◌, ◌||◌, List, [], ◌∷◌, ◌++◌, length, get_or, drop, arith, subst, inl, inr, refl, sym, ◌∙◌, ap}
use Rattle.std.specs.Prelude.{map}
use Rattle.std.specs.List.{list_any}
use Rattle.std.proofs.lemmas.Bool.{cases_lt}
use Rattle.std.proofs.lemmas.Bool.Decides.{nat_tests}
use Rattle.std.proofs.lemmas.List.{length-append, map-append, get_or_default, at_drop_more, at_drop_all}
use Rattle.std.proofs.lemmas.List.Elements.{All-nil, All-push}
use Rattle.std.proofs.lemmas.List.Folds.{list_any-append}
use Rattle.sfc_base.specs.declared.qualifier.TimedQualifier.{TimedQualifier}
use Rattle.sfc_base.specs.declared.qualifier.TimedQualifier.TheVariants.{Limited, Delayed, StoredDelayed, DelayedStored, StoredLimited}
use Rattle.sfc_plant.specs.declared.association.Time.{Time}
use Rattle.sfc_plant.specs.declared.association.Qualifier.{Qualifier}
use Rattle.sfc_plant.specs.declared.association.Qualifier.TheVariants.{Timed}
use Rattle.sfc_tables.specs.declared.step_action.StepAction.{StepAction}
use Rattle.sfc_flags.specs.Flags.{flag}
use Rattle.sfc_action.specs.declared.timed.Timed as timed
use Rattle.sfc_action.specs.declared.blocks.Block.{Block}
use Rattle.sfc_action.specs.Private.DelayLists.{Delay, is_delay, same_timed, with_delay, with_delays}
use Rattle.sfc_action.specs.Private.TimedSets.{AreAll, by, none, with_action}
use Rattle.sfc_action.specs.Private.Keeping.{delay_of, is_of, has_block, IsCovered}
use Rattle.sfc_action.specs.Private.Listing.{IsNew, IsListing, IsLonger}
use Rattle.sfc_action.proofs.Sizes.{all_added, are_all}
use Rattle.sfc_action.proofs.Elapsed.{added, none_at}

any_delay : (a : ℕ) (q : TimedQualifier) (blocks : List Block)
    → list_any (is_delay a q) (map delay_of blocks) ≡ list_any (is_of a q) blocks
any_delay a q [] = refl
any_delay a q (x ∷ blocks) = ap (λ b. is_of a q x || b) (any_delay a q blocks)

pub delay_there : (blocks : List Block) (a : ℕ) (q : TimedQualifier) (time : Time) (p : Qualifier) → p ≡ Timed q time
    → list_any (is_of a q) blocks ≡ true → map delay_of blocks ≡ with_delay (map delay_of blocks) a p
delay_there blocks a q time p e there =
    let there_too = any_delay a q blocks ∙ there in
    rw e (sym (ap (λ (b : Bool). cond b (map delay_of blocks) (map delay_of blocks ++ record { action = a; qualifier = q } ∷ [])) there_too))

pub delay_added : (blocks new : List Block) (block : Block) (q : TimedQualifier) (time : Time) (p : Qualifier) → p ≡ Timed q time
    → block.qualifier ≡ q → list_any (is_of block.action.0 q) blocks ≡ false → new ≡ blocks ++ block ∷ []
    → map delay_of new ≡ with_delay (map delay_of blocks) block.action.0 p
delay_added blocks new block q time p e same empty is =
    let a = block.action.0 in
    let empty_too = any_delay a q blocks ∙ empty in
    ap (map delay_of) is ∙ map-append delay_of blocks (block ∷ [])
    ∙ (λ i. map delay_of blocks ++ record { action = a; qualifier = same i } ∷ [])
    ∙ rw e (sym (ap (λ (b : Bool). cond b (map delay_of blocks) (map delay_of blocks ++ record { action = a; qualifier = q } ∷ [])) empty_too))

-- ---- the on-delays so far, and one more

any_pushed : (p : Block → Bool) (blocks : List Block) (block : Block)
    → list_any p (blocks ++ block ∷ []) ≡ (list_any p blocks || p block)
any_pushed p blocks block =
    list_any-append p blocks (block ∷ []) ∙ ap (λ x. list_any p blocks || x) (or_false (p block))
  where
    or_false : (x : Bool) → (x || false) ≡ x
    or_false true = refl
    or_false false = refl

pub none_listed : (n : ℕ) (seen : timed.Timed) → seen ≡ none n → IsListing (length seen.limited) seen []
none_listed n seen e =
    let all = are_all n seen e in
    record {
      sized = subst (λ (m : ℕ). AreAll m seen) (sym all.limited) all;
      actions = All-nil (λ (k : Block). k.action.0 < length seen.limited);
      listed = λ q a lt. ap (λ (sets : timed.Timed). flag (by q sets) a) e ∙ none_at n a q q;
      fresh = All-nil IsNew;
    }

pub listing_added : (n : ℕ) (seen : timed.Timed) (blocks : List Block) (block : Block) → IsListing n seen blocks → IsNew block
    → block.action.0 < n → IsListing n (with_action block.qualifier block.action.0 seen) (blocks ++ block ∷ [])
listing_added n seen blocks block listing new lt = record {
  sized = all_added n block.qualifier block.action.0 seen listing.sized;
  actions = All-push (λ (k : Block). k.action.0 < n) blocks block listing.actions lt;
  listed = λ q a la. added n seen block.action.0 a lt listing.sized block.qualifier q
      ∙ ap (λ x. x || is_of a q block) (listing.listed q a la) ∙ sym (any_pushed (is_of a q) blocks block);
  fresh = All-push IsNew blocks block listing.fresh new;
}

pub longer_added : (blocks : List Block) (block : Block) → IsLonger blocks (blocks ++ block ∷ [])
longer_added blocks block = record {
  few = omega (arith, length-append blocks (block ∷ []));
  covered = λ x. covered_too x.action.0 x.qualifier;
}
  where
    covered_too : (a : ℕ) (p : Qualifier) → has_block blocks a p ≡ true → has_block (blocks ++ block ∷ []) a p ≡ true
    covered_too a (Timed q time) e = any_pushed (is_of a q) blocks block ∙ ap (λ x. x || is_of a q block) e
    covered_too a _ e = refl

pub covered_there : (blocks : List Block) (a : ℕ) (q : TimedQualifier) (time : Time) (p : Qualifier) → p ≡ Timed q time
    → list_any (is_of a q) blocks ≡ true → has_block blocks a p ≡ true
covered_there blocks a q time p e there = rw e there

pub covered_added : (blocks : List Block) (block : Block) (time : Time) (p : Qualifier) → p ≡ Timed block.qualifier time
    → has_block (blocks ++ block ∷ []) block.action.0 p ≡ true
covered_added blocks block time p e =
    covered_there (blocks ++ block ∷ []) block.action.0 block.qualifier time p e
    (any_pushed (is_of block.action.0 block.qualifier) blocks block
    ∙ ap (λ x. list_any (is_of block.action.0 block.qualifier) blocks || x) (own block.action.0 block.qualifier)
    ∙ or_true (list_any (is_of block.action.0 block.qualifier) blocks))
  where
    same_same : (q : TimedQualifier) → same_timed q q ≡ true
    same_same Limited = refl
    same_same Delayed = refl
    same_same StoredDelayed = refl
    same_same DelayedStored = refl
    same_same StoredLimited = refl

    same_number : (a : ℕ) → (a == a) ≡ true
    same_number a = grind (arith, nat_tests)

    own : (a : ℕ) (q : TimedQualifier) → ((a == a) && same_timed q q) ≡ true
    own a q = ap (λ x. x && same_timed q q) (same_number a) ∙ same_same q

    or_true : (x : Bool) → (x || true) ≡ true
    or_true true = refl
    or_true false = refl

-- ---- the list, one association after another

module _ (xs : List StepAction) (index : ℕ) (e : StepAction) where
  pub delays_more : (old new : List Delay) → index < length xs
      → new ≡ with_delay old (get_or xs index e).action.0 (get_or xs index e).qualifier
      → with_delays old (drop index xs) ≡ with_delays [] xs → with_delays new (drop (index + 1) xs) ≡ with_delays [] xs
  delays_more old new lt is was =
      ap (λ ds. with_delays ds (drop (index + 1) xs)) is ∙ sym (at_drop_more (with_delays old) xs index e lt) ∙ was

  pub covered_more : (old new : List Block) → index < length xs → ((x : StepAction) → IsCovered old x → IsCovered new x)
      → IsCovered new (get_or xs index e) → ((k : ℕ) (d : StepAction) → k < index → IsCovered old (get_or xs k d))
      → (k : ℕ) (d : StepAction) → k < index + 1 → IsCovered new (get_or xs k d)
  covered_more old new lt still here was k d le = elim (cases_lt k index) [
    | inl earlier ↦ still (get_or xs k d) (was k d earlier)
    | inr later ↦ (
        let at : k ≡ index = omega arith in
        rw (at, get_or_default xs index d e lt) here)
  ]

pub delays_done : (xs : List StepAction) (index : ℕ) (delays : List Delay) → length xs ≤ index
    → with_delays delays (drop index xs) ≡ with_delays [] xs → delays ≡ with_delays [] xs
delays_done xs index delays le was = sym (at_drop_all (with_delays delays) xs index le) ∙ was
