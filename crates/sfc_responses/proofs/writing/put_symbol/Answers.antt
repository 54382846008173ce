use Rattle.std.proofs.Common.{refl}
use Rattle.std.proofs.lemmas.Result.{on_ok_weaker}
use Rattle.sfc_responses.specs.Bodies.{members_of}
use Rattle.sfc_responses.proofs.Members.{whole_object}
use Rattle.sfc_responses.proofs.writing.put_symbol.Goals as goal

pub returns-clause-ok : goal.returns-clause-ok
returns-clause-ok c = on_ok_weaker c.put_rest.result (λ r. whole_object (members_of c.args.symbol.now) _ _ _ c.in_ok-begin_object.ensures.ok r refl) c.put_rest.ensures.ok
