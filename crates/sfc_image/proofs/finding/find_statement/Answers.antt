use Rattle.std.proofs.Common.{◌≡◌, true, false, Result, Ok, Err, is_err, rules, refl, ap, sym, ◌∙◌, arith}
use Rattle.sfc_expr.specs.declared.fault.Fault.{Fault}
use Rattle.sfc_expr.specs.Trees.{Body, Nothing, before, body_of}
use Rattle.sfc_expr.specs.Effect.{BodyEffect, effect}
use Rattle.sfc_expr.specs.Nodes.{body_nodes}
use Rattle.sfc_expr.proofs.Effects.{goes_on, stops-result, stops-environment, nodes_at}
use Rattle.sfc_image.specs.BodyFaults.{after_done, statements_done}
use Rattle.sfc_image.proofs.BodyFaults.{count_on, count_ends}
use Rattle.sfc_image.proofs.finding.find_statement.Goals as goal

fault_in : (r : Result (Unit {0}) Fault) → is_err r ≡ true → (f : Fault) × (Err f ≡ r)
fault_in (Ok u) e = absurd (let bad : false ≡ true = e in cc)
fault_in (Err f) e = (f, refl)

well_in : (r : Result (Unit {0}) Fault) → is_err r ≡ false → (u : Unit {0}) × (Ok u ≡ r)
well_in (Ok u) e = (u, refl)
well_in (Err f) e = absurd (let bad : true ≡ false = e in cc)

pub returns-then-is_err-clause-result : goal.returns-then-is_err-clause-result
returns-then-is_err-clause-result g c =
    let xs = c.args.statements.now in
    let k = c.loop-k.k in
    let x = c.index-statements-k.result in
    let env = g.S.View.environment c.loop-k.store in
    let all : BodyEffect = effect (body_of xs) (g.S.View.environment c.args.store.now) in
    let one : body_of c.from_ref-one.result.now ≡ before x Nothing = ap body_of c.from_ref-one.ensures.value in
    let fault = fault_in c.exec.result (sym c.is_err.ensures.value ∙ c.if-is_err.true) in
    let here : Err fault.0 ≡ (effect (before x Nothing) env).result =
    fault.1 ∙ c.exec.ensures.result ∙ ap (λ (b : Body). (effect b env).result) one in
    let result : all.result ≡ Err fault.0 =
    sym (ap (λ (o : BodyEffect). o.result) c.loop-k.invariant.rest)
    ∙ stops-result xs k x c.loop-k-test.true c.index-statements-k.is env fault.0 here in
    let count : statements_done (body_of xs) (g.S.View.environment c.args.store.now) ≡ k =
    sym c.loop-k.invariant.count ∙ count_ends xs k x c.loop-k-test.true c.index-statements-k.is env fault.0 here in
    sym (λ i. after_done (result i) (count i))

pub returns-then-is_err-clause-after : goal.returns-then-is_err-clause-after
returns-then-is_err-clause-after g c =
    let xs = c.args.statements.now in
    let k = c.loop-k.k in
    let x = c.index-statements-k.result in
    let env = g.S.View.environment c.loop-k.store in
    let one : body_of c.from_ref-one.result.now ≡ before x Nothing = ap body_of c.from_ref-one.ensures.value in
    let fault = fault_in c.exec.result (sym c.is_err.ensures.value ∙ c.if-is_err.true) in
    let here : Err fault.0 ≡ (effect (before x Nothing) env).result =
    fault.1 ∙ c.exec.ensures.result ∙ ap (λ (b : Body). (effect b env).result) one in
    c.exec.ensures.after ∙ ap (λ (b : Body). (effect b env).environment) one
    ∙ sym (stops-environment xs k x c.loop-k-test.true c.index-statements-k.is env fault.0 here)
    ∙ ap (λ (o : BodyEffect). o.environment) c.loop-k.invariant.rest

pub returns-then-is_err-clause-ticks : goal.returns-then-is_err-clause-ticks
returns-then-is_err-clause-ticks g c =
    let xs = c.args.statements.now in
    let x = c.index-statements-k.result in
    let one = ap (λ (s : _). body_nodes (body_of s)) c.from_ref-one.ensures.value in
    let nodes = nodes_at xs c.loop-k.k x c.loop-k-test.true c.index-statements-k.is in
    (omega (arith, c.loop-k.invariant.rises, c.exec.ensures.ticks.0), omega (arith, one, nodes, c.exec.ensures.ticks.1, c.loop-k.invariant.ticks))

pub loop-k-preserved : goal.loop-k-preserved
loop-k-preserved g c =
    let xs = c.args.statements.now in
    let k = c.loop-k.k in
    let x = c.index-statements-k.result in
    let env = g.S.View.environment c.loop-k.store in
    let one : body_of c.from_ref-one.result.now ≡ before x Nothing = ap body_of c.from_ref-one.ensures.value in
    let well = well_in c.exec.result (sym c.is_err.ensures.value ∙ c.if-is_err.false) in
    let here : Ok well.0 ≡ (effect (before x Nothing) env).result =
    well.1 ∙ c.exec.ensures.result ∙ ap (λ (b : Body). (effect b env).result) one in
    let after = c.exec.ensures.after ∙ ap (λ (b : Body). (effect b env).environment) one in
    let nodes = nodes_at xs k x c.loop-k-test.true c.index-statements-k.is in
    let cost = ap body_nodes one in
    record {
      rest = goes_on xs k x c.loop-k-test.true c.index-statements-k.is env (g.S.View.environment c.exec.new.store) well.0 here after
          ∙ c.loop-k.invariant.rest;
      count = sym (count_on xs k x c.loop-k-test.true c.index-statements-k.is env (g.S.View.environment c.exec.new.store) well.0 here after)
          ∙ c.loop-k.invariant.count;
      reached = search rules;
      rises = omega (arith, c.loop-k.invariant.rises, c.exec.ensures.ticks.0);
      ticks = omega (arith, cost, nodes, c.exec.ensures.ticks.1, c.loop-k.invariant.ticks);
    }
