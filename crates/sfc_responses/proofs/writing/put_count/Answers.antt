use Rattle.std.proofs.Common.{◌≡◌, [], ◌∷◌, ◌++◌, arith, rules}
use Rattle.std.proofs.lemmas.Result.{on_ok_weaker}
use Rattle.json.specs.Token.{key}
use Rattle.sfc_responses.proofs.Members.{writes_count}
use Rattle.sfc_responses.proofs.writing.put_count.Goals as goal

pub returns-clause-ok : goal.returns-clause-ok
returns-clause-ok c =
    let keyed : c.key.new.self.tokens ≡ c.args.out.now.tokens ++ key c.args.key.now ∷ [] = search rules in
    on_ok_weaker c.u64.result (λ e. writes_count c.args.number _ _ (omega arith) (rw keyed at e)) c.u64.ensures.ok
