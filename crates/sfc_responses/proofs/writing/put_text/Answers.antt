use Rattle.std.proofs.lemmas.Result.{on_ok_weaker}
use Rattle.sfc_responses.proofs.Members.{writes_text}
use Rattle.sfc_responses.proofs.writing.put_text.Goals as goal

pub returns-clause-ok : goal.returns-clause-ok
returns-clause-ok c = on_ok_weaker c.string.result (λ e. writes_text c.args.text.now _ _ (rw c.in_ok-key.ensures.ok at e)) c.string.ensures.ok
