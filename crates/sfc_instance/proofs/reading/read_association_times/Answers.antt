use Rattle.std.proofs.Common.{rules, ◌<◌, arith, length, ap, ◌∙◌, refl, get_or, List, ℕ}
use Rattle.std.proofs.lemmas.List.{drop_all}
use Rattle.sfc_instance.specs.ProgramScan.{time_of}
use Rattle.sfc_instance.specs.Private.Timing.{is_listed}
use Rattle.sfc_instance.proofs.Timed.{all_by_element}
use Rattle.sfc_instance.proofs.Varied.{listed_at, one_read, read_more}
use Rattle.sfc_instance.proofs.reading.read_association_times.Goals as goal

pub loop-k-init : goal.loop-k-init
loop-k-init g c = record {
  there = c.requires;
  read = λ j d under off. c.requires.fixed j d (g.V.View.environment c.args.view.now) under off;
  rises = omega arith;
  ticks = omega arith;
}

pub offset_bounds-associations-k : goal.offset_bounds-associations-k
offset_bounds-associations-k g c =
    let varied = c.args.varied.now in
    let i = c.loop-k.k-index in
    let below = c.requires.within (get_or varied i 0) (listed_at varied i 0 c.loop-k-test.true) in
    search rules

pub bounds-associations-k : goal.bounds-associations-k
bounds-associations-k g c =
    let varied = c.args.varied.now in
    let i = c.loop-k.k-index in
    c.requires.within (get_or varied i 0) (listed_at varied i 0 c.loop-k-test.true)

pub loop-k-preserved : goal.loop-k-preserved
loop-k-preserved g c =
    let before = c.loop-k.invariant in
    let k = get_or c.args.varied.now c.loop-k.k-index 0 in
    let on = listed_at c.args.varied.now c.loop-k.k-index 0 c.loop-k-test.true in
    let below : k < length c.loop-k.times = omega (arith, c.requires.within k on, before.there.long) in
    record {
      there = one_read c.args.associations.now c.loop-k.times c.args.varied.now (length c.args.associations.now) k _ on before.there;
      read = read_more c.loop-k.k-index (g.V.View.environment c.args.view.now) c.args.associations.now c.loop-k.times c.args.varied.now
          k _ _ c.loop-k-test.true refl below before.there.long (search rules ∙ c.time_of.ensures) before.read;
      rises = omega (arith, before.rises, c.tick.ensures);
      ticks = omega (arith, before.ticks, c.tick.ensures);
    }

pub returns-clause-times : goal.returns-clause-times
returns-clause-times g c =
    let last = c.loop-k.invariant in
    let none = drop_all c.loop-k.k-index c.args.varied.now c.loop-k-test.false in
    all_by_element c.loop-k.times c.args.associations.now (λ x. time_of (g.V.View.environment c.args.view.now) x.qualifier) last.there.long
    (λ k d lt. last.read k d lt (ap (λ (rest : List ℕ). is_listed rest k) none))

pub returns-clause-varied : goal.returns-clause-varied
returns-clause-varied g c = c.loop-k.invariant.there

pub returns-clause-ticks : goal.returns-clause-ticks
returns-clause-ticks g c =
    (c.loop-k.invariant.rises, omega (arith, c.loop-k.invariant.ticks, c.loop-k.auto.k-index-end))
