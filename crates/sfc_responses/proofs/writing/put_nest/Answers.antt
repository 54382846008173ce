use Rattle.std.proofs.Common.{codes, refl}
use Rattle.std.proofs.lemmas.Result.{on_ok_weaker}
use Rattle.serde_json.specs.Data.{array, member}
use Rattle.sfc_responses.specs.Bodies.{members_of, symbols_of}
use Rattle.sfc_responses.proofs.Members.{next_member, whole_object}
use Rattle.sfc_responses.proofs.writing.put_nest.Goals as goal

pub returns-clause-ok : goal.returns-clause-ok
returns-clause-ok c =
    let rest = members_of c.args.head.now in
    on_ok_weaker c.put_rest.result (λ r.
    whole_object (member (codes "children") (array (symbols_of c.args.inner.now)) rest) _ _ _ c.in_ok-begin_object.ensures.ok
    (next_member _ _ rest _ _ _ c.in_ok-put_children.ensures.ok r) refl
    ) c.put_rest.ensures.ok
