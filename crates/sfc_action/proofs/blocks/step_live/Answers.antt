use Rattle.std.proofs.Common.{◌≡◌, ◌∙◌, ◌||◌, ◌<◌, ◌≤◌, ℕ, Bool, true, false, not, cond, length, get_or, arith, refl, ap, sym, subst, inl, inr}
use Rattle.std.specs.Prelude.{slice_set, is_some}
use Rattle.std.proofs.lemmas.Bool.{cases_lt}
use Rattle.std.proofs.lemmas.List.{get_or-set_same, get_or-set_other, length-set}
use Rattle.sfc_flags.specs.Flags.{flag}
use Rattle.sfc_timers.specs.Past.{on_delay_in}
use Rattle.sfc_action.specs.declared.timed.Timed as timed
use Rattle.sfc_action.specs.declared.blocks.Block.{Block}
use Rattle.sfc_action.specs.Private.TimedSets.{AreAll, with_action}
use Rattle.sfc_action.specs.Private.Delays.{input_of, preset_of, IsStepped}
use Rattle.sfc_action.specs.Private.Live.{IsIdle}
use Rattle.sfc_action.proofs.Elapsed.{and_left, and_right}
use Rattle.sfc_action.proofs.Elements.{next_rest}
use Rattle.sfc_action.proofs.Live.{between, none_behind, idle_apart, noted_idle, more_stepped, more_idle, sized_noted, gathered_next, gathered_all}
use Rattle.sfc_action.proofs.blocks.step_live.Goals as goal

not_true : (x : Bool) → not x ≡ true → x ≡ false
not_true true e = absurd (let bad : false ≡ true = e in cc)
not_true false e = refl

pub live-preserved : goal.live-preserved
live-preserved c =
    let inputs = c.args.call.inputs.now in
    let stores = c.args.call.stores.now in
    let presets = c.args.call.presets.now in
    let t = c.args.call.t in
    let old = c.args.blocks.now in
    let first = c.args.live.now in
    let now = c.live.blocks in
    let live = c.live.live in
    let sets = c.live.elapsed in
    let at = c.live.at in
    let p = c.in-Some.place in
    let e = c.index-blocks-place.result in
    let after = c.step_block.new.block in
    let was = c.live.invariant in
    let found = c.in-Some.ensures.some in
    let size : length live ≡ length now = omega (arith, was.size, c.requires.size, c.live.auto.blocks) in
    let lt : p < length now = omega (arith, found, size) in
    let le : at ≤ p = found.0 in
    let noted : get_or (slice_set now p after) p c.index-blocks-place-in-Some.result ≡ after =
    get_or-set_same now p after c.index-blocks-place-in-Some.result lt in
    let bit : Block → Bool = λ (b : Block). is_some (on_delay_in b.delay) || b.elapsed in
    let marked : c.note.new.live ≡ slice_set live p (bit after) =
    c.note.ensures.live ∙ ap (λ (b : Block). slice_set live p (bit b)) noted in
    let added : c.note.new.elapsed ≡ cond after.elapsed (with_action after.qualifier after.action.0 sets) sets =
    c.note.ensures.elapsed ∙ ap (λ (b : Block). cond b.elapsed (with_action b.qualifier b.action.0 sets) sets) noted in
    let off : (k : ℕ) → at ≤ k → k < p → flag first k ≡ false =
    λ k ge less. sym (was.unseen k ge) ∙ between live at p _ found.2 k ge less in
    let within : (k : ℕ) → k < p → k < length old = λ k less. omega (arith, lt, c.live.auto.blocks, less) in
    let quiet : (k : ℕ) (d : Block) → at ≤ k → k < p → IsIdle (get_or old k d) =
    λ k d ge less. c.requires.idle k d (within k less) (off k ge less) in
    let R : Block → Block → Type 0 = λ x y. IsStepped (flag (input_of x.qualifier inputs stores) x.action.0)
    (preset_of inputs presets x.action.0) t x y in
    let apart : (k : ℕ) (d : Block) → at ≤ k → k < p → R (get_or old k d) (get_or old k d) =
    λ k d ge less. idle_apart (flag (input_of (get_or old k d).qualifier inputs stores) (get_or old k d).action.0) (flag first k)
    (preset_of inputs presets (get_or old k d).action.0) t (get_or old k d) (quiet k d ge less) (off k ge less)
    (c.requires.awake k d (within k less)) in
    record {
      size = ap length marked ∙ length-set live p (bit after) ∙ was.size;
      done = more_stepped old now at p e after le lt was.rest R c.step_block.ensures.stepped was.done apart;
      rest = λ k d ge. next_rest R old now p e after (λ j b more. was.rest j b (omega (arith, le, more))) k d ge;
      unseen = λ k ge.
          ap (λ l. flag l k) marked ∙ get_or-set_other live p k (bit after) false (λ same. omega (arith, same, ge)) ∙ was.unseen k (omega (arith, le, ge));
      idle = λ k d less out.
          more_idle old now at p e after le lt was.rest live first (bit after) size (noted_idle after) was.unseen was.idle
          (λ j b ge near out_too. quiet j b ge near) k d less (sym (ap (λ l. flag l k) marked) ∙ out);
      sized = subst (AreAll (length presets)) (sym added) (sized_noted (length presets) after sets was.sized);
      sets =
          added ∙ ap (λ (s : timed.Timed). cond after.elapsed (with_action after.qualifier after.action.0 s) s) was.sets
          ∙ sym (gathered_next now c.args.elapsed.now at p after le lt
          (λ k d ge less. subst IsIdle (sym (was.rest k d ge)) (quiet k d ge less)));
      all_idle = λ on k less.
          let bit_off : bit after ≡ false =
          ap bit (sym noted) ∙ sym c.note.ensures.value ∙ not_true c.note.result (and_right c.live.are_idle (not c.note.result) on) in
          ap (λ l. flag l k) marked ∙ elim (cases_lt k p) [
            | inr there ↦ (
                let same : k ≡ p = omega (arith, less, there) in
                ap (flag (slice_set live p (bit after))) same
                ∙ get_or-set_same live p (bit after) false (omega (arith, lt, size)) ∙ bit_off)
            | inl near ↦ (
                get_or-set_other live p k (bit after) false (λ e. omega (arith, e, near))
                ∙ elim (cases_lt k at) [
                  | inl seen ↦ was.all_idle (and_left c.live.are_idle (not c.note.result) on) k seen
                  | inr ahead ↦ between live at p _ found.2 k ahead near
                ])
          ];
      within = let whole = ap length marked ∙ length-set live p (bit after) in omega (arith, whole, found);
      ticks = (
        omega (arith, was.ticks, c.in-Some.ensures.ticks, c.step_block.ensures.ticks),
        omega (arith, was.ticks, c.in-Some.ensures.ticks, c.step_block.ensures.ticks, le),
      );
    }

-- behind the last live one all are idle
off_behind : (c : goal.In_default) → (k : ℕ) → c.live.at ≤ k → flag c.args.live.now k ≡ false
off_behind c k ge =
    sym (c.live.invariant.unseen k ge) ∙ none_behind c.live.live c.live.at (c.next_set.ensures.none c.in_default.is) k ge

pub returns-clause-all_idle : goal.returns-clause-all_idle
returns-clause-all_idle c on k d lt =
    let was = c.live.invariant in
    let long : k < length c.args.blocks.now = omega (arith, lt, c.live.auto.blocks) in
    elim (cases_lt k c.live.at) [
      | inl seen ↦ was.idle k d seen (was.all_idle on k seen)
      | inr ge ↦ subst IsIdle (sym (was.rest k d ge)) (c.requires.idle k d long (off_behind c k ge))
    ]

pub returns-clause-stepped : goal.returns-clause-stepped
returns-clause-stepped c k d lt =
    let inputs = c.args.call.inputs.now in
    let stores = c.args.call.stores.now in
    let old = get_or c.args.blocks.now k d in
    let now = get_or c.live.blocks k d in
    let input = flag (input_of old.qualifier inputs stores) old.action.0 in
    let pt = preset_of inputs c.args.call.presets.now old.action.0 in
    let was = c.live.invariant in
    elim (cases_lt k c.live.at) [
      | inl seen ↦ was.done k d seen
      | inr ge ↦ (
          let off = off_behind c k ge in
          subst (IsStepped input pt c.args.call.t old) (sym (was.rest k d ge))
          (idle_apart input (flag c.args.live.now k) pt c.args.call.t old (c.requires.idle k d lt off) off (c.requires.awake k d lt)))
    ]

pub returns-clause-sets : goal.returns-clause-sets
returns-clause-sets c =
    let was = c.live.invariant in
    was.sets
    ∙ gathered_all c.live.blocks c.args.elapsed.now c.live.at (omega (arith, was.within, was.size, c.requires.size, c.live.auto.blocks))
    (λ k d ge lt. subst IsIdle (sym (was.rest k d ge))
    (c.requires.idle k d (omega (arith, lt, c.live.auto.blocks)) (off_behind c k ge)))
