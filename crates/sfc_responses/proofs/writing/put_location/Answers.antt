use Rattle.std.proofs.Common.{codes, refl, string_bytes}
use Rattle.std.proofs.lemmas.Result.{on_ok_weaker}
use Rattle.serde_json.specs.Data.{member, no_members}
use Rattle.sfc_responses.specs.Bodies.{range_of, text}
use Rattle.sfc_responses.proofs.Members.{last_member, next_member, whole_object}
use Rattle.sfc_responses.proofs.writing.put_location.Goals as goal

pub returns-clause-ok : goal.returns-clause-ok
returns-clause-ok c =
    let symbol = c.args.symbol.now in
    let second = member (codes "uri") (text (string_bytes symbol.uri)) no_members in
    on_ok_weaker c.end_object.result (λ e.
    whole_object (member (codes "range") (range_of symbol.range) second) _ _ _ (rw c.in_ok-key.ensures.ok at c.in_ok-begin_object.ensures.ok)
    (next_member _ _ second _ _ _ c.in_ok-put_range.ensures.ok
    (next_member _ _ no_members _ _ _ (rw c.as_str.ensures.value at c.in_ok-put_text.ensures.ok) (last_member _ _ e))) refl
    ) c.end_object.ensures.ok
