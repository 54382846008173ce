use Rattle.std.proofs.Common.{◌≡◌, ◌∙◌, ℕ, true, false, arith, sym, ap, subst, inl, inr}
use Rattle.std.proofs.lemmas.Bool.{cases_lt}
use Rattle.std.specs.Prelude.{List}
use Rattle.std.specs.List.{list_any}
use Rattle.std.proofs.Common.{◌==◌}
use Rattle.sfc_action.specs.Private.Live.{has_place}
use Rattle.sfc_action.proofs.Live.{between, none_behind}
use Rattle.sfc_action.proofs.waking.wake.Goals as goal

pub called-preserved : goal.called-preserved
called-preserved c =
    let called = c.args.called.now in
    let at = c.called.at in
    let j = c.in-Some.action in
    let was = c.called.invariant in
    let found = c.in-Some.ensures.some in
    let put = c.set_all.ensures in
    record {
      size = put.size ∙ was.size;
      kept = λ k on. put.kept k (was.kept k on);
      awake = λ a k less lt on among. elim (cases_lt a j) [
        | inl before ↦ elim (cases_lt a at) [
          | inl seen ↦ put.kept k (was.awake a k seen lt on among)
          | inr ge ↦ (let bad : true ≡ false = sym on ∙ between called at j _ found.2 a ge before in absurd cc)
        ]
        | inr behind ↦ (
            let there : a ≡ j = omega (arith, less, behind) in
            put.set k (omega (arith, lt, was.size))
            (ap (λ (xs : List ℕ). list_any (λ p. p == k) xs) c.of_group.ensures
            ∙ subst (λ i. has_place c.args.places.now i k ≡ true) there among))
      ];
      within = omega (arith, found);
      rises = omega (arith, c.in-Some.ensures.ticks, was.rises);
      ticks = omega (arith, c.in-Some.ensures.ticks, found, was.ticks);
    }

pub returns-clause-awake : goal.returns-clause-awake
returns-clause-awake c a k lt on among =
    elim (cases_lt a c.called.at) [
      | inl seen ↦ c.called.invariant.awake a k seen lt on among
      | inr ge ↦ (
          let bad : true ≡ false = sym on ∙ none_behind c.args.called.now c.called.at (c.next_set.ensures.none c.in_default.is) a ge in
          absurd cc)
    ]
