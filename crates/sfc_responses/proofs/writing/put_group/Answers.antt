use Rattle.std.proofs.Common.{◌≡◌, ◌==◌, ap, false, length, rules, subst}
use Rattle.std.proofs.lemmas.Result.{on_ok_weaker}
use Rattle.serde_json.specs.Written.{WritesValue}
use Rattle.sfc_responses.specs.Bodies.{group_of, nest_of}
use Rattle.sfc_responses.proofs.writing.put_group.Goals as goal

pub returns-else-is_empty-clause-ok : goal.returns-else-is_empty-clause-ok
returns-else-is_empty-clause-ok c =
    let group = c.args.group.now in
    let some : (length group.inner.items == 0) ≡ false = search rules in
    let same : nest_of group.head c.deref.result.now ≡ group_of group = rw some (ap (nest_of group.head) c.deref.ensures.value) in
    on_ok_weaker c.put_nest.result (λ w. subst (λ d. WritesValue d c.args.out.now.tokens c.put_nest.new.out.tokens) same w) c.put_nest.ensures.ok
