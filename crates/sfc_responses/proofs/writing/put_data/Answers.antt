use Rattle.std.proofs.Common.{codes, refl}
use Rattle.std.proofs.lemmas.Result.{on_ok_weaker}
use Rattle.serde_json.specs.Data.{array, member, no_members}
use Rattle.sfc_responses.specs.Bodies.{counts_of}
use Rattle.sfc_responses.proofs.Members.{last_member, next_member, whole_array, whole_object}
use Rattle.sfc_responses.proofs.writing.put_data.Goals as goal

pub returns-clause-ok : goal.returns-clause-ok
returns-clause-ok c =
    let numbers = counts_of c.args.numbers.now in
    on_ok_weaker c.end_object.result (λ e.
    whole_object (member (codes "data") (array numbers) no_members) _ _ _ c.in_ok-begin_object.ensures.ok
    (next_member _ _ no_members _ _ _ (whole_array numbers _ _ _ (rw c.in_ok-key.ensures.ok at c.in_ok-begin_array.ensures.ok) c.in_ok-put_numbers.ensures.ok) (last_member _ _ e)) refl
    ) c.end_object.ensures.ok
