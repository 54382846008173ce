use Rattle.std.proofs.Common.{◌≡◌, ◌++◌, ◌∙◌, [], ap, arith, sym}
use Rattle.json.specs.Print.{print}
use Rattle.serde_json.specs.View.{view}
use Rattle.serde_json.specs.Written.{WritesValue}
use Rattle.sfc_responses.specs.Bodies.{body_of}
use Rattle.sfc_responses.proofs.Whole.{body_depth, read_back, same_data}
use Rattle.sfc_responses.proofs.responding.value_of.Goals as goal

pub returns-in-Ok : goal.returns-in-Ok
returns-in-Ok c =
    let told = c.put_body.new.out.tokens in
    let empty : c.put_body.new.out.before ≡ [] = c.in_ok-put_body.ensures.before ∙ c.new-out.ensures.before ∙ c.new.ensures.items in
    let text : c.deref.result.now ≡ print told = c.deref.ensures.value ∙ c.into_inner.ensures.items ∙ ap (λ before. before ++ print told) empty in
    let put : WritesValue (body_of c.args.body) [] told = rw c.new-out.ensures.tokens at c.in_ok-put_body.ensures.ok in
    let reads = read_back (body_of c.args.body) told put c.into_inner.ensures.reads_back (omega (arith, body_depth c.args.body)) in
    same_data (view c.in-Ok.value) (body_of c.args.body) (sym (rw text at c.in-Ok.ensures.ok).1 ∙ reads)
