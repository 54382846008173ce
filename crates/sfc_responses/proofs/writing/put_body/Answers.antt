use Rattle.std.proofs.lemmas.Result.{on_ok_weaker}
use Rattle.sfc_responses.specs.Bodies.{groups_of, list_of}
use Rattle.sfc_responses.proofs.Members.{whole_array}
use Rattle.sfc_responses.proofs.writing.put_body.Goals as goal

pub returns-in_ok-begin_array-in-Symbols-clause-ok : goal.returns-in_ok-begin_array-in-Symbols-clause-ok
returns-in_ok-begin_array-in-Symbols-clause-ok c = on_ok_weaker c.put_groups.result
    (λ r. rw c.in-Symbols.is (whole_array (groups_of c.in-Symbols.groups.now) _ _ _ c.in_ok-begin_array-in-Symbols.ensures.ok r)) c.put_groups.ensures.ok

pub returns-in_ok-begin_array-in-List-clause-ok : goal.returns-in_ok-begin_array-in-List-clause-ok
returns-in_ok-begin_array-in-List-clause-ok c = on_ok_weaker c.put_list.result
    (λ r. rw c.in-List.is (whole_array (list_of c.in-List.symbols.now) _ _ _ c.in_ok-begin_array-in-List.ensures.ok r)) c.put_list.ensures.ok
