use Rattle.std.proofs.Common.{codes, refl, string_bytes}
use Rattle.std.proofs.lemmas.Result.{on_ok_weaker}
use Rattle.serde_json.specs.Data.{member, no_members}
use Rattle.sfc_responses.specs.Bodies.{count, location_of, text}
use Rattle.sfc_responses.proofs.Members.{last_member, next_member, whole_object}
use Rattle.sfc_responses.proofs.writing.put_located.Goals as goal

pub returns-clause-ok : goal.returns-clause-ok
returns-clause-ok c =
    let symbol = c.args.symbol.now in
    let fourth = member (codes "name") (text (string_bytes symbol.name)) no_members in
    let third = member (codes "location") (location_of symbol) fourth in
    let second = member (codes "kind") (count symbol.kind) third in
    on_ok_weaker c.end_object.result (λ e.
    whole_object (member (codes "containerName") (text (string_bytes symbol.around)) second) _ _ _ c.in_ok-begin_object.ensures.ok
    (next_member _ _ second _ _ _ (rw c.as_str.ensures.value at c.in_ok-put_text.ensures.ok)
    (next_member _ _ third _ _ _ c.in_ok-put_count.ensures.ok
    (next_member _ _ fourth _ _ _ c.in_ok-put_location.ensures.ok
    (next_member _ _ no_members _ _ _ (rw c.as_str-2.ensures.value at c.in_ok-put_text-2.ensures.ok) (last_member _ _ e))))) refl
    ) c.end_object.ensures.ok
