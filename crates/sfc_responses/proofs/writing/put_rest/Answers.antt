use Rattle.std.proofs.Common.{codes, string_bytes}
use Rattle.std.proofs.lemmas.Result.{on_ok_weaker}
use Rattle.serde_json.specs.Data.{member, no_members}
use Rattle.sfc_responses.specs.Bodies.{range_of, text}
use Rattle.sfc_responses.proofs.Members.{last_member, next_member}
use Rattle.sfc_responses.proofs.writing.put_rest.Goals as goal

pub returns-clause-ok : goal.returns-clause-ok
returns-clause-ok c =
    let symbol = c.args.symbol.now in
    let third = member (codes "selectionRange") (range_of symbol.selection) no_members in
    let second = member (codes "range") (range_of symbol.range) third in
    let first = member (codes "name") (text (string_bytes symbol.name)) second in
    on_ok_weaker c.end_object.result (λ e.
    next_member _ _ first _ _ _ c.in_ok-put_count.ensures.ok (next_member _ _ second _ _ _ (rw c.as_str.ensures.value at c.in_ok-put_text.ensures.ok)
    (next_member _ _ third _ _ _ c.in_ok-put_range.ensures.ok (next_member _ _ no_members _ _ _ c.in_ok-put_range-2.ensures.ok (last_member _ _ e))))
    ) c.end_object.ensures.ok
