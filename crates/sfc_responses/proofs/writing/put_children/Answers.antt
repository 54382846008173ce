use Rattle.std.proofs.lemmas.Result.{on_ok_weaker}
use Rattle.sfc_responses.specs.Bodies.{symbols_of}
use Rattle.sfc_responses.proofs.Members.{whole_array}
use Rattle.sfc_responses.proofs.writing.put_children.Goals as goal

pub returns-clause-ok : goal.returns-clause-ok
returns-clause-ok c = on_ok_weaker c.put_symbols.result
    (λ r. whole_array (symbols_of c.args.inner.now) _ _ _ (rw c.in_ok-key.ensures.ok at c.in_ok-begin_array.ensures.ok) r) c.put_symbols.ensures.ok
