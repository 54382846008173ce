use Rattle.std.proofs.Common.{◌≡◌, ◌≢◌, ◌≤◌, ◌∷◌, [], suc, All, length, add-one, subst, sym, ap, ◌∙◌, length-append, arith}
use Rattle.std.proofs.lemmas.List.Elements.{All-append}
use Rattle.sfc_why.specs.Telling.{RisesFrom, start}
use Rattle.sfc_why.proofs.Rising.{next_place, rises_more, next_more, one_holds}
use Rattle.sfc_why.proofs.all.behind_first.Goals as goal

pub all-preserved-then-len-lt-MOST : goal.all-preserved-then-len-lt-MOST
all-preserved-then-len-lt-MOST c =
    let place : c.start_of-place.result ≡ start c.in-Some.report = c.start_of-place.ensures in
    let least : next_place 0 c.all.others.items ≤ start c.in-Some.report =
    subst (λ n. n ≤ start c.in-Some.report) (sym c.all.invariant.next) (subst (λ p. c.all.least ≤ p) place c.if-place-least.true) in
    record {
      rises = subst (RisesFrom 0) (sym c.in_ok-push.ensures.items) (rises_more 0 c.all.others.items c.in-Some.report c.all.invariant.rises least);
      next = ap (next_place 0) c.in_ok-push.ensures.items ∙ next_more 0 c.all.others.items c.in-Some.report ∙ ap suc (sym place) ∙ sym (add-one c.start_of-place.result);
      apart = subst (All (λ other. start other ≢ c.args.first)) (sym c.in_ok-push.ensures.items)
          (All-append (λ other. start other ≢ c.args.first) c.all.others.items (c.in-Some.report ∷ []) c.all.invariant.apart
          (one_holds (λ other. start other ≢ c.args.first) c.in-Some.report (λ e. c.if-place-first.true (place ∙ e))));
      few = omega (arith, ap length c.in_ok-push.ensures.items ∙ length-append c.all.others.items (c.in-Some.report ∷ []), c.len.ensures, c.if-len-lt-MOST.true);
    }
