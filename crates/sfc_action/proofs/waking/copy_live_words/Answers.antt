use Rattle.std.proofs.Common.{◌≡◌, ◌∙◌, ◌<◌, length, arith, sym, inl, inr}
use Rattle.sfc_flags.specs.Flags.{flag}
use Rattle.sfc_flags.proofs.Wordwise.{all_done, past, same_flags}
use Rattle.sfc_action.proofs.CopiedDelays.{same_blocks, either_flag}
use Rattle.sfc_action.proofs.waking.copy_live_words.Goals as goal

pub returns-clause-blocks : goal.returns-clause-blocks
returns-clause-blocks c =
    let was = c.loop-number.invariant in
    same_blocks c.loop-number.blocks c.args.from.now (was.len ∙ sym c.requires.len) (λ k d lt.
    let within : k < length c.args.blocks.now = omega (arith, lt, was.len) in
    elim (either_flag (flag c.args.live.now k) (flag c.args.from_live.now k)) [
      | inl off ↦ was.kept k d (c.requires.same k d within off.0 off.1)
      | inr on ↦ was.done k d (omega (arith, within, c.requires.live_len, c.words-number-end.ensures, c.loop-number-test.false)) on
    ])

pub returns-clause-live : goal.returns-clause-live
returns-clause-live c =
    let n = length c.args.live.now in
    let own = c.loop-number.invariant.size in
    let from : length c.args.from_live.now ≡ length c.args.live.now = c.requires.from_live_len ∙ sym c.requires.live_len in
    same_flags n c.loop-number.live c.args.from_live.now own from
    (all_done (flag c.args.from_live.now) (flag c.args.live.now) n c.loop-number.number (flag c.loop-number.live)
    (omega (arith, c.words-number-end.ensures)) c.loop-number.invariant.flags
    (λ a le. past n a c.loop-number.live own le ∙ sym (past n a c.args.from_live.now from le)))
