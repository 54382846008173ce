use Rattle.std.proofs.Common.{◌∙◌, subst, sym}
use Rattle.std.proofs.lemmas.Result.{on_ok_weaker}
use Rattle.serde_json.specs.Written.{WritesItems}
use Rattle.sfc_responses.specs.Bodies.{list_of, located_of}
use Rattle.sfc_responses.proofs.Members.{last_item, next_item, nothing_left}
use Rattle.sfc_responses.proofs.writing.put_list.Goals as goal

pub all-preserved : goal.all-preserved
all-preserved c = record {
  before = c.in_ok-put_located.ensures.before ∙ c.all.invariant.before;
  ok = λ end rest. c.all.invariant.ok end (subst (λ xs. WritesItems (list_of xs) c.all.out.tokens end) (sym c.in-Some.ensures.cases.0)
      (next_item (located_of c.in-Some.symbol.now) (list_of c.in-Some.behind.now) _ _ _ c.in_ok-put_located.ensures.ok rest));
}

pub returns-clause-ok : goal.returns-clause-ok
returns-clause-ok c = on_ok_weaker c.end_array.result (λ e.
    c.all.invariant.ok _ (subst (λ xs. WritesItems (list_of xs) c.all.out.tokens c.end_array.new.self.tokens) (nothing_left c.all.rest.now c.in_default.ensures.cases) (last_item _ _ e))
    ) c.end_array.ensures.ok
