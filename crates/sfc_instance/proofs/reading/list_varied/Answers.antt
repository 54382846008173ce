use Rattle.std.proofs.Common.{rules, ◌≡◌, ◌+◌, ◌<◌, arith, length, [], ◌∷◌, ◌++◌, ℕ, Vec, Global, w64, to_z, of_z, slice_set, sym, ap, ◌∙◌}
use Rattle.sfc_instance.proofs.Varied.{none_yet, all_there, both_are, one_more_fixed, one_more_varied}
use Rattle.sfc_instance.proofs.reading.list_varied.Goals as goal
use Rattle.sfc_instance.proofs.reading.list_varied.Goals.{in-Some, in-None+in_ok-push-in-None}

pub loop-k-init : goal.loop-k-init
loop-k-init c = none_yet c.args.associations.now c.args.times.now c.new-varied.result.items c.requires c.new-varied.ensures.items

pub loop-k-preserved : goal.loop-k-preserved
loop-k-preserved c =
    let xs = c.args.associations.now in
    let ts = c.loop-k.times in
    let ns = c.loop-k.varied.items in
    let k = c.loop-k.k in
    let lt : k < length ts = omega (arith, c.loop-k-test.true, c.loop-k.auto.times) in
    elim c.match-fixed_time.branch [
      | in-Some w ↦
          let t = w.in-Some.time in
          let put : to_z w64 (of_z w64 t) ≡ t = search rules in
          let times : slice_set ts k t ≡ c.match-fixed_time.times = ap (slice_set ts k) (sym put) ∙ sym w.times-is in
          let numbers : ns ≡ c.match-fixed_time.varied.items = ap (λ (v : Vec ℕ Global). v.items) (sym w.varied-is) in
          both_are xs (k + 1) _ _ _ _ times numbers (one_more_fixed xs ts ns k t _ lt w.in-Some.ensures c.loop-k.invariant)
      | in-None+in_ok-push-in-None w ↦
          let numbers : ns ++ k ∷ [] ≡ c.match-fixed_time.varied.items =
          sym w.in_ok-push-in-None.ensures.items ∙ ap (λ (v : Vec ℕ Global). v.items) (sym w.varied-is) in
          both_are xs (k + 1) _ _ _ _ (sym w.times-is) numbers (one_more_varied xs ts ns k c.loop-k.invariant)
    ]

pub returns : goal.returns
returns c =
    all_there c.args.associations.now c.loop-k.times c.loop-k.varied.items c.loop-k.k
    (omega (arith, c.loop-k.auto.k-end, c.loop-k-test.false, c.requires)) c.loop-k.invariant
