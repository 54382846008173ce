use Rattle.std.proofs.Common.{◌≡◌, ◌∙◌, List, length, get_or, ap, sym, subst, arith}
use Rattle.std.specs.Prelude.{map}
use Rattle.std.specs.Vec.{with_items}
use Rattle.std.proofs.lemmas.List.{length-map, with_items_is}
use Rattle.sfc_action.specs.declared.blocks.Block.{Block}
use Rattle.sfc_action.specs.Private.Keeping.{delay_of}
use Rattle.sfc_action.specs.Private.Live.{AreKept, IsIdle, has_place}
use Rattle.sfc_action.proofs.CopiedDelays.{same_delay}
use Rattle.sfc_action.proofs.Idle.{same_block, same_idle}
use Rattle.sfc_action.proofs.Live.{same_actions}
use Rattle.sfc_action.proofs.delays.Delays.copy_from.Goals as goal

pub copy_live-requires-clause-same : goal.copy_live-requires-clause-same
copy_live-requires-clause-same c k d lt off from_off =
    let own = c.self.inside.blocks.items in
    let from = c.other.inside.blocks.items in
    let same : map delay_of own ≡ map delay_of from =
    ap (map delay_of) c.self.view_is ∙ sym c.requires ∙ ap (map delay_of) (sym c.other.view_is) in
    let long : length own ≡ length from = sym (length-map own delay_of) ∙ ap length same ∙ length-map from delay_of in
    let within = ap length c.deref_mut.ensures.value in
    let here : IsIdle (get_or own k d) = c.self.invariant.idle k d (omega (arith, lt, within)) off in
    let there : IsIdle (get_or from k d) = c.other.invariant.idle k d (omega (arith, lt, within, long)) from_off in
    ap (λ (xs : List Block). get_or xs k d) c.deref_mut.ensures.value
    ∙ same_block (get_or own k d) (get_or from k d) (same_delay own from same k d) here there
    ∙ ap (λ (xs : List Block). get_or xs k d) (sym c.deref.ensures.value)

pub invariant_of-self : goal.invariant_of-self
invariant_of-self c =
    let own = c.self.inside.blocks.items in
    let from = c.other.inside.blocks.items in
    let same : map delay_of from ≡ map delay_of own =
    ap (map delay_of) c.other.view_is ∙ c.requires ∙ ap (map delay_of) (sym c.self.view_is) in
    let long : length from ≡ length own = sym (length-map from delay_of) ∙ ap length same ∙ length-map own delay_of in
    let new = c.copy_live.new.blocks in
    let copied : new ≡ from = c.copy_live.ensures.blocks ∙ c.deref.ensures.value in
    let items : (with_items c.self.inside.blocks new).items ≡ from =
    with_items_is c.self.inside.blocks new (omega (arith, ap length copied, long)) ∙ copied in
    let kept : AreKept from c.other.inside.live c.self.inside.places c.other.inside.is_idle = record {
      size = c.other.invariant.size;
      idle = c.other.invariant.idle;
      listed = λ k d lt.
          ap (λ a. has_place c.self.inside.places a k) (same_actions from own same k d)
          ∙ c.self.invariant.listed k d (omega (arith, lt, long));
      all_idle = c.other.invariant.all_idle;
    } in
    subst (λ (xs : List Block). AreKept xs c.copy_live.new.live c.self.inside.places c.other.inside.is_idle) (sym items)
    (subst (λ live. AreKept from live c.self.inside.places c.other.inside.is_idle) (sym c.copy_live.ensures.live) kept)

pub returns-then-other-clause-copy : goal.returns-then-other-clause-copy
returns-then-other-clause-copy c =
    let own = c.self.inside.blocks.items in
    let from = c.other.inside.blocks.items in
    let same : map delay_of own ≡ map delay_of from =
    ap (map delay_of) c.self.view_is ∙ sym c.requires ∙ ap (map delay_of) (sym c.other.view_is) in
    sym c.self.view_is ∙ same_idle own from same (c.self.invariant.all_idle c.if-self.true) (c.other.invariant.all_idle c.if-other.true)
    ∙ c.other.view_is
