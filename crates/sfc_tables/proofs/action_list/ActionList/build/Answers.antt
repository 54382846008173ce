use Rattle.std.proofs.Common.{◌≡◌, ◌++◌, List, ◌∙◌, ap, arith}
use Rattle.sfc_plant.specs.declared.chart.Step.{Step}
use Rattle.sfc_tables.specs.Actions.{distinct, booleans_of, associations_in, declared_actions, boolean_actions}
use Rattle.sfc_tables.specs.Private.Listing.{listed}
use Rattle.sfc_tables.proofs.Listings.{distinct_is}
use Rattle.sfc_tables.proofs.action_list.ActionList.build.Goals as goal

pub invariant_of-result : goal.invariant_of-result
invariant_of-result c =
    let keys = c.in_ok-booleans.booleans.keys in
    let n = c.len-declared.result in
    let all : c.add_declared.new.targets.items ≡ listed keys n = c.in_ok-add_declared.ensures
    ∙ ap (λ r. r ++ declared_actions n) c.in_ok-targets.ensures in
    let made : keys ≡ boolean_actions c.args.chart.now =
    c.in_ok-booleans.ensures ∙ distinct_is (booleans_of (associations_in c.as_slice.result.now))
    ∙ ap (λ (steps : List Step). distinct (booleans_of (associations_in steps))) c.as_slice.ensures in
    record {
      all = all;
      few = omega (arith, c.add_declared.new.targets.ok.0, c.add_declared.new.targets.ok.1, c.add_declared.new.targets.small);
    }

pub returns : goal.returns
returns c =
    let keys = c.in_ok-booleans.booleans.keys in
    let made : keys ≡ boolean_actions c.args.chart.now =
    c.in_ok-booleans.ensures ∙ distinct_is (booleans_of (associations_in c.as_slice.result.now))
    ∙ ap (λ (steps : List Step). distinct (booleans_of (associations_in steps))) c.as_slice.ensures in
    c.in_ok-add_declared.ensures
    ∙ ap (λ r. r ++ declared_actions c.len-declared.result) c.in_ok-targets.ensures
    ∙ (λ i. listed (made i) (c.len-declared.ensures i))
