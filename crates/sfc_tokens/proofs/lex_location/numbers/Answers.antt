use Rattle.std.proofs.Common.{◌≡◌, suc, ◌-◌, sym, arith}
use Rattle.sfc_tokens.proofs.Addresses.{ends, goes_on}
use Rattle.sfc_tokens.specs.Lexing.Locations.{numbers}
use Rattle.sfc_tokens.proofs.lex_location.numbers.Goals as goal

pub returns-in_default-split_first : goal.returns-in_default-split_first
returns-in_default-split_first c =
    let k : c.all.left ≡ suc (c.all.left - 1) = omega arith in
    rw c.in_ok-push.ensures.items (ends c.all.numbers.items c.all.left (c.all.left - 1) c.in-Some.number c.all.rest.now c.in-Some.behind.now (numbers 8 c.args.text.now) k (sym c.in-Some.ensures) c.in_default-split_first.ensures.cases c.all.invariant)

pub all-preserved : goal.all-preserved
all-preserved c =
    let k : c.all.left ≡ suc (c.all.left - 1) = omega arith in
    rw c.in_ok-push.ensures.items (goes_on c.all.numbers.items c.all.left (c.all.left - 1) c.in-Some.number c.in-Some-split_first.point.now c.all.rest.now c.in-Some.behind.now c.in-Some-split_first.further.now (numbers 8 c.args.text.now) k (sym c.in-Some.ensures) c.in-Some-split_first.ensures.cases.0 c.if-point-ne46.false c.all.invariant)
