use Rattle.std.proofs.Common.{◌≡◌, refl, sym, subst, Bool}
use Rattle.std.proofs.lemmas.Result.{err_from_is_err_and}
use Rattle.sfc_prompt.specs.declared.prompt.Flow.TheVariants.{GoesOn}
use Rattle.sfc_prompt.specs.Desks.{WritesBy}
use Rattle.sfc_prompt.specs.Walks.{BreaksLine, TakesLine, flow_line, too_long}
use Rattle.sfc_prompt.proofs.desk.Held.take.Goals as goal

pub returns-in_err-tell-clause-walks : goal.returns-in_err-tell-clause-walks
returns-in_err-tell-clause-walks g c =
    let f = err_from_is_err_and c.from_residual.result c.from_residual.ensures.1 in
    rw f.1 (
      too_long,
      subst (λ (b : Bool). BreaksLine b c.args.self.now.prompt c.args.line.now too_long) (sym c.if-is_long.true) refl,
      c.in_err-tell.ensures.written,
    )

pub returns-then-is_long-clause-walks : goal.returns-then-is_long-clause-walks
returns-then-is_long-clause-walks g c = (
  too_long,
  subst (λ (b : Bool). TakesLine b c.args.self.now.prompt c.tell.new.self.prompt c.args.line.now too_long × (GoesOn ≡ flow_line b c.args.line.now))
      (sym c.if-is_long.true) ((c.tell.ensures.prompt, refl), refl),
  c.in_ok-tell.ensures.written,
)

pub returns-clause-walks : goal.returns-clause-walks
returns-clause-walks g c =
    subst (λ (b : Bool). WritesBy (g.W.Write.contents c.args.self.now.w) (g.W.Write.contents c.obey.new.self.w) c.obey.result
    (λ flow text. TakesLine b c.args.self.now.prompt c.obey.new.self.prompt c.args.line.now text × (flow ≡ flow_line b c.args.line.now))
    (BreaksLine b c.args.self.now.prompt c.args.line.now)) (sym c.if-is_long.false) c.obey.ensures.walks
