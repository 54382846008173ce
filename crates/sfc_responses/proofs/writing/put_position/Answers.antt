use Rattle.std.proofs.Common.{codes, refl}
use Rattle.std.proofs.lemmas.Result.{on_ok_weaker}
use Rattle.serde_json.specs.Data.{member, no_members}
use Rattle.sfc_responses.specs.Bodies.{count}
use Rattle.sfc_responses.proofs.Members.{last_member, next_member, whole_object}
use Rattle.sfc_responses.proofs.writing.put_position.Goals as goal

pub returns-clause-ok : goal.returns-clause-ok
returns-clause-ok c =
    let place = c.args.position in
    let line = count place.line in
    let rest = member (codes "line") line no_members in
    on_ok_weaker c.end_object.result (λ e.
    whole_object (member (codes "character") (count place.character) rest) _ _ _ (rw c.in_ok-key.ensures.ok at c.in_ok-begin_object.ensures.ok)
    (next_member _ _ rest _ _ _ c.in_ok-put_count.ensures.ok (next_member _ _ no_members _ _ _ c.in_ok-put_count-2.ensures.ok (last_member _ _ e))) refl
    ) c.end_object.ensures.ok
