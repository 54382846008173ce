use Rattle.std.proofs.Common.{rules, ◌≡◌, All, true, subst, sym, arith}
use Rattle.std.proofs.lemmas.Fn.{filter_same}
use Rattle.std.specs.Prelude.{nat_le}
use Rattle.sfc_control.proofs.Kept.{all_stay}
use Rattle.sfc_control.proofs.work.let_go.Goals as goal

pub returns-then-before-first : goal.returns-then-before-first
returns-then-before-first c = filter_same _ _ _ (λ x b f' k. search rules) _ _ c.retain.ensures.filtered

pub returns-else-before-first : goal.returns-else-before-first
returns-else-before-first c =
    let items = c.args.receipts.now.items in
    let same : c.args.before ≡ c.args.first = omega (arith, c.requires.rising, c.if-before-first.false) in
    sym (all_stay (λ r. nat_le c.args.first r.index) items (subst (λ k. All (λ r. nat_le k r.index ≡ true) items) same c.requires.kept))
