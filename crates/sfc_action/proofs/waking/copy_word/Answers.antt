use Rattle.std.proofs.Common.{rules, ◌≡◌, ◌*◌, ◌+◌, ◌<◌, ◌%◌, ◌==◌, ◌&&◌, not, length, arith, ap, ◌∙◌}
use Rattle.sfc_flags.specs.Words.{has}
use Rattle.sfc_flags.proofs.Fewer.{fewer}
use Rattle.sfc_evolve.proofs.Copied.{reached}
use Rattle.sfc_action.proofs.waking.copy_word.Goals as goal

pub live-smaller : goal.live-smaller
live-smaller c = fewer (has c.live.left) (has c.in-Some.rest) 64 c.in-Some.place c.in-Some.ensures.first.0 c.in-Some.ensures.first.1
    (λ q lt. c.in-Some.ensures.rest q ∙ (let e : q % 64 ≡ q = omega arith in ap (λ k. has c.live.left q && not (k == c.in-Some.place)) e))

-- the on-delay is one of the table
below : (c : goal.In-Some) → c.args.word * 64 + c.in-Some.place < length c.args.blocks.now
below c = reached c.args.word c.in-Some.place (length c.args.blocks.now) c.live.left c.args.live c.in-Some.ensures.first.0
    c.in-Some.ensures.first.1 c.live.invariant.flags c.requires.places

pub overflow_mul-k : goal.overflow_mul-k
overflow_mul-k c = let lt = below c in search rules

pub overflow_add-k : goal.overflow_add-k
overflow_add-k c = let lt = below c in search rules

pub offset_bounds-from-k : goal.offset_bounds-from-k
offset_bounds-from-k c = let lt = below c in search rules

pub bounds-from-k : goal.bounds-from-k
bounds-from-k c = omega (arith, below c, c.requires.len)

pub offset_bounds-blocks-k : goal.offset_bounds-blocks-k
offset_bounds-blocks-k c =
    let lt = reached c.args.word c.in-Some.place (length c.args.blocks.now) c.live.left c.args.live c.in-Some.ensures.first.0
    c.in-Some.ensures.first.1 c.live.invariant.flags c.requires.places in
    search rules

pub bounds-blocks-k : goal.bounds-blocks-k
bounds-blocks-k c =
    let lt = reached c.args.word c.in-Some.place (length c.args.blocks.now) c.live.left c.args.live c.in-Some.ensures.first.0
    c.in-Some.ensures.first.1 c.live.invariant.flags c.requires.places in
    omega (arith, lt, c.live.invariant.len)
