use Rattle.std.proofs.Common.{◌≡◌, ◌∙◌, ap, arith, rules, subst, sym}
use Rattle.serde_json.specs.Data.{number, string}
use Rattle.serde_json.specs.View.{number_view, view}
use Rattle.serde_json.specs.Written.{WritesValue}
use Rattle.serde_json.specs.declared.value.Value.{the_lemmas}
use Rattle.sfc_responses.proofs.Members.{writes_count, writes_text}
use Rattle.sfc_responses.proofs.Whole.{as_unsigned}
use Rattle.sfc_responses.proofs.responding.put_id.Goals as goal

pub returns-in_ok-string-in-String-clause-ok : goal.returns-in_ok-string-in-String-clause-ok
returns-in_ok-string-in-String-clause-ok c =
    let seen : string c.as_str.result.now ≡ view c.args.id.now = rw c.in-String.is (search (rules, the_lemmas)) in
    λ _. subst (λ d. WritesValue d c.args.out.now.tokens c.string.new.self.tokens) seen (writes_text c.as_str.result.now _ _ c.in_ok-string-in-String.ensures.ok)

pub returns-in_ok-u64-in-Some-clause-ok : goal.returns-in_ok-u64-in-Some-clause-ok
returns-in_ok-u64-in-Some-clause-ok c =
    let seen : number (number_view c.in-Number.number) ≡ view c.args.id.now = rw c.in-Number.is (search (rules, the_lemmas)) in
    let whole = ap number (sym (as_unsigned (number_view c.in-Number.number) c.in-Some.whole (sym c.as_u64.ensures ∙ c.in-Some.is))) in
    λ _. subst (λ d. WritesValue d c.args.out.now.tokens c.u64.new.self.tokens) (whole ∙ seen) (writes_count c.in-Some.whole _ _ (omega arith) c.in_ok-u64-in-Some.ensures.ok)
