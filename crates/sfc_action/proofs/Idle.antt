-- On-delays that are idle.
use Rattle.std.proofs.Common.{◌≡◌, ℕ, Bool, false, List, [], ◌∷◌, arith, refl, sym, ◌∙◌, ap, ℤ}
use Rattle.std.specs.Prelude.{map, All, slice_index_or}
use Rattle.std.proofs.lemmas.List.Elements.{All-head, All-tail}
use Rattle.sfc_flags.specs.Flags.{flag}
use Rattle.sfc_timers.specs.Past.{on_delay_in}
use Rattle.sfc_timers.proofs.Alike.{alike}
use Rattle.sfc_action.specs.declared.inputs.Inputs.{Inputs}
use Rattle.sfc_action.specs.declared.stores.Stores.{Stores}
use Rattle.sfc_action.specs.declared.timed.Timed.{Timed}
use Rattle.sfc_action.specs.declared.blocks.Block.{Block}
use Rattle.sfc_action.specs.Private.Calling.{AreCalled}
use Rattle.sfc_action.specs.Private.Delays.{input_of, preset_of, AreStepped, gathered}
use Rattle.sfc_action.specs.Private.DelayLists.{Delay}
use Rattle.sfc_action.specs.Private.Keeping.{delay_of}
use Rattle.sfc_action.specs.Private.Live.{IsIdle}
use Rattle.sfc_action.proofs.Live.{none_is, idle_apart, gathered_all}

-- a scan in which none is called leaves them as they are
pub uncalled_stepped : (inputs : Inputs) (stores : Stores) (presets : List ℤ) (t : ℤ) (called : List Bool) (blocks : List Block)
    → AreCalled inputs stores called → ((a : ℕ) → flag called a ≡ false) → All IsIdle blocks
    → AreStepped inputs stores presets t blocks blocks
uncalled_stepped inputs stores presets t called blocks calls none idle k d lt =
    let block : Block = slice_index_or blocks k d in
    idle_apart (flag (input_of block.qualifier inputs stores) block.action.0) (flag called block.action.0)
    (preset_of inputs presets block.action.0) t block (idle k d lt) (none block.action.0) (calls block.qualifier block.action.0)

-- and none of them has elapsed
pub none_gathered : (blocks : List Block) (sets : Timed) → All IsIdle blocks → sets ≡ gathered blocks sets
none_gathered blocks sets idle = gathered_all blocks sets 0 (omega arith) (λ k d ge lt. idle k d lt)

-- those of the same actions and qualifiers are equal
pub same_block : (x y : Block) → delay_of x ≡ delay_of y → IsIdle x → IsIdle y → x ≡ y
same_block x y e h k =
    let never = none_is (on_delay_in x.delay) h.runs ∙ sym (none_is (on_delay_in y.delay) k.runs) in
    λ i. record {
      action = record { 0 = ap (λ (r : Delay). r.action) e i };
      qualifier = ap (λ (r : Delay). r.qualifier) e i;
      delay = alike x.delay y.delay never i;
      elapsed = (h.elapsed ∙ sym k.elapsed) i;
    }

pub same_idle : (xs ys : List Block) → map delay_of xs ≡ map delay_of ys → All IsIdle xs → All IsIdle ys → xs ≡ ys
same_idle [] [] e h k = refl
same_idle [] (y ∷ ys) e h k = absurd cc
same_idle (x ∷ xs) [] e h k = absurd cc
same_idle (x ∷ xs) (y ∷ ys) e h k =
    let first : delay_of x ≡ delay_of y = cc in
    let rest : map delay_of xs ≡ map delay_of ys = cc in
    λ i. same_block x y first (All-head IsIdle x xs h) (All-head IsIdle y ys k) i
    ∷ same_idle xs ys rest (All-tail IsIdle x xs h) (All-tail IsIdle y ys k) i
