use Rattle.std.proofs.Common.{◌==◌, ◌∙◌, ap, subst, List, rules}
use Rattle.std.specs.Prelude.{filter}
use Rattle.std.specs.List.Sorted.{IsPermutation}
use Rattle.std.proofs.lemmas.List.Sorted.{IsNonDecreasingBy-from_sort_by_key}
use Rattle.sfc_tables.specs.declared.step_action.StepAction.{StepAction}
use Rattle.sfc_tables.proofs.Groupings.{stable_groups}
use Rattle.sfc_tables.proofs.groups.by_action.Goals as goal

pub returns : goal.returns
returns c = record {
  permutation = subst (λ (xs : List StepAction). IsPermutation xs c.sort_by_key.new.self.items)
      c.in_ok-members.ensures.items c.in_ok-sort_by_key.ensures.permutation;
  sorted = IsNonDecreasingBy-from_sort_by_key
      (λ (m : StepAction). m.action.0) c.sort_by_key.new.self.items c.in_ok-sort_by_key.ensures.sorted (λ a r q k. search rules);
  groups = λ k.
      stable_groups c.in_ok-members.members.items c.sort_by_key.new.self.items c.in_ok-sort_by_key.ensures.stable
      (λ a r q k. search rules) k
      ∙ ap (λ (xs : List StepAction). filter (λ m. m.action.0 == k) xs) c.in_ok-members.ensures.items;
}
