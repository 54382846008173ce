use Rattle.std.proofs.Common.{codes, rules}
use Rattle.serde_json.specs.View.{view}
use Rattle.sfc_responses.proofs.Members.{opens, writes_text}
use Rattle.sfc_responses.proofs.responding.begin.Goals as goal

pub returns-clause-ok : goal.returns-clause-ok
returns-clause-ok c = λ _.
    let id = rw c.in_ok-key.ensures.ok at c.in_ok-put_id.ensures.ok (search rules) in
    let version = writes_text (codes "2.0") _ _ (rw c.in_ok-key-2.ensures.ok at c.in_ok-string.ensures.ok) in
    opens (view c.args.id.now) _ _ _ _ _ c.in_ok-begin_object.ensures.ok id version c.in_ok-key-3.ensures.ok
