use Rattle.std.proofs.Common.{length, Some, None, arith}
use Rattle.sfc_tokens.specs.Lexing.Tokens.{view_next, lex}
use Rattle.sfc_tokens.specs.Tokens.{kinds}
use Rattle.sfc_tokens.proofs.Shorter.{next_shorter}
use Rattle.sfc_tokens.proofs.Loop.{starts, goes_on, fails, ends, kinds_push}
use Rattle.sfc_tokens.proofs.lex.lex.Goals as goal

pub all-init : goal.all-init
all-init c = rw c.new-tokens.ensures.items (starts (lex (length c.args.bytes.now) c.args.bytes.now))

pub all-smaller-in_ok-push : goal.all-smaller-in_ok-push
all-smaller-in_ok-push c = let lt = next_shorter c.in-Some.first.now c.in-Some.after.now (view_next c.in-Ok.found) c.in-Ok.ensures in omega (arith, lt, c.in-Some.ensures.cases.1)

pub all-smaller : goal.all-smaller
all-smaller c = let lt = next_shorter c.in-Some.first.now c.in-Some.after.now (view_next c.in-Ok.found) c.in-Ok.ensures in omega (arith, lt, c.in-Some.ensures.cases.1)

pub returns-in-Err : goal.returns-in-Err
returns-in-Err c = rw c.refusal_at.ensures (fails c.in-Err.fault (kinds c.all.tokens.items) c.all.rest.now c.in-Some.first.now c.in-Some.after.now (lex (length c.args.bytes.now) c.args.bytes.now) c.in-Some.ensures.cases.0 c.in-Err.ensures c.all.invariant)

pub all-preserved-in_ok-push : goal.all-preserved-in_ok-push
all-preserved-in_ok-push c =
    rw (c.in_ok-push.ensures.items, kinds_push) (goes_on (kinds c.all.tokens.items) c.all.rest.now c.in-Some.first.now c.in-Some.after.now (Some c.in-Some-kind.kind) c.in-Ok.found.1.now (lex (length c.args.bytes.now) c.args.bytes.now) c.in-Some.ensures.cases.0 (rw c.in-Some-kind.is at c.in-Ok.ensures) c.all.invariant)

pub all-preserved : goal.all-preserved
all-preserved c =
    goes_on (kinds c.all.tokens.items) c.all.rest.now c.in-Some.first.now c.in-Some.after.now None c.in-Ok.found.1.now (lex (length c.args.bytes.now) c.args.bytes.now) c.in-Some.ensures.cases.0 (rw c.in_default-kind.is at c.in-Ok.ensures) c.all.invariant

pub returns : goal.returns
returns c = ends (kinds c.all.tokens.items) c.all.rest.now (lex (length c.args.bytes.now) c.args.bytes.now) c.in_default.ensures.cases c.all.invariant
