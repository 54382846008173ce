use Rattle.std.proofs.Common.{◌≡◌, ◌∙◌, ◌++◌, [], ◌∷◌, ap, arith, rules, subst, sym}
use Rattle.std.proofs.lemmas.Result.{on_ok_weaker}
use Rattle.json.specs.Print.{print}
use Rattle.serde_json.specs.View.{view}
use Rattle.serde_json.specs.Written.{WritesValue}
use Rattle.sfc_responses.specs.Bodies.{body_of}
use Rattle.sfc_responses.proofs.Whole.{body_depth, written}
use Rattle.sfc_responses.proofs.responding.respond_body.Goals as goal
use Rattle.sfc_wire.specs.RpcAnswers.{success_of}
use Rattle.sfc_wire.specs.Texts.{IsWritten}
use Rattle.sfc_wire.proofs.Told.{depth_success, responds_success}

pub respond-requires-clause-depth : goal.respond-requires-clause-depth
respond-requires-clause-depth c = rw c.in_ok-value.ensures (omega (arith, body_depth c.args.body))

pub returns-clause-put : goal.returns-clause-put
returns-clause-put c =
    let message = success_of (view c.args.id.now) (body_of c.args.body) in
    let told = c.end_object.new.self.tokens in
    let opened = rw c.new-out.ensures.tokens at c.in_ok-begin.ensures.ok (search rules) in
    let whole : WritesValue message [] told =
    subst (λ ts. WritesValue message [] ts) (sym c.in_ok-end_object.ensures.ok) (opened (body_of c.args.body) c.put_body.new.out.tokens c.in_ok-put_body.ensures.ok) in
    let empty : c.end_object.new.self.before ≡ [] =
    c.end_object.ensures.room.0 ∙ c.in_ok-put_body.ensures.before ∙ c.in_ok-begin.ensures.before ∙ c.new-out.ensures.before ∙ c.new.ensures.items in
    let text : c.into_inner.result.items ≡ print told = c.into_inner.ensures.items ∙ ap (λ before. before ++ print told) empty in
    let shallow = depth_success (view c.args.id.now) (body_of c.args.body) c.requires (omega (arith, body_depth c.args.body)) in
    let is = written message told whole c.into_inner.ensures.reads_back c.into_inner.ensures.utf8 shallow in
    on_ok_weaker c.put.result (λ e. (c.into_inner.result.items ∷ [], e, subst (IsWritten message) (sym text) is)) c.put.ensures.put

pub returns-clause-responds : goal.returns-clause-responds
returns-clause-responds c = on_ok_weaker c.put.result
    (λ p. responds_success c.args.outbox.now c.put.new.self (view c.args.id.now) (body_of c.args.body) c.requires p) (returns-clause-put c)
