use Rattle.std.proofs.Common.{◌≡◌, ◌∙◌, ◌<◌, length, arith, sym, inl, inr}
use Rattle.sfc_flags.specs.Flags.{flag}
use Rattle.sfc_flags.proofs.Wordwise.{begun, more, all_done, past, same_flags}
use Rattle.sfc_action.proofs.CopiedDelays.{same_blocks, either_flag}
use Rattle.sfc_action.proofs.waking.copy_live.Goals as goal

pub returns-then-words-eq1-clause-blocks : goal.returns-then-words-eq1-clause-blocks
returns-then-words-eq1-clause-blocks c =
    let is = c.copy_live_word.ensures in
    same_blocks c.copy_live_word.new.blocks c.args.from.now (is.len ∙ sym c.requires.len) (λ k d lt.
    let within : k < length c.args.blocks.now = omega (arith, lt, is.len) in
    elim (either_flag (flag c.args.live.now k) (flag c.args.from_live.now k)) [
      | inl off ↦ is.kept k d (c.requires.same k d within off.0 off.1)
      | inr on ↦ is.taken k d (omega (arith, within, c.requires.live_len, c.words.ensures, c.if-words-eq1.true)) on
    ])

pub returns-then-words-eq1-clause-live : goal.returns-then-words-eq1-clause-live
returns-then-words-eq1-clause-live c =
    let n = length c.args.live.now in
    let was = flag c.args.live.now in
    let rows = flag c.args.from_live.now in
    let new = c.copy_live_word.new.live in
    let own = c.copy_live_word.ensures.live_len in
    let from : length c.args.from_live.now ≡ length c.args.live.now = c.requires.from_live_len ∙ sym c.requires.live_len in
    same_flags n new c.args.from_live.now own from
    (all_done rows was n 1 (flag new) (omega (arith, c.words.ensures, c.if-words-eq1.true))
    (more rows was was (flag new) 0 (begun rows was) c.copy_live_word.ensures.put)
    (λ a le. past n a new own le ∙ sym (past n a c.args.from_live.now from le)))
