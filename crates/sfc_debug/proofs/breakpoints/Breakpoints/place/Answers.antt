use Rattle.std.proofs.Common.{◌∙◌, refl, sym, ap}
use Rattle.sfc_debug.specs.Points.{place_of}
use Rattle.sfc_debug.proofs.Places.{here, behind, nowhere}
use Rattle.sfc_debug.proofs.breakpoints.Breakpoints.place.Goals as goal

pub loop-k-init : goal.loop-k-init
loop-k-init c = refl

pub returns-then-is_at-clause-value : goal.returns-then-is_at-clause-value
returns-then-is_at-clause-value c =
    sym (ap (place_of c.args.program c.args.point) (sym (c.deref-breakpoint-items.ensures.value ∙ c.self.view_is))
    ∙ c.loop-k.invariant ∙ here c.args.program c.args.point _ c.loop-k.k _ c.loop-k-test.true (sym c.is_at.ensures ∙ c.if-is_at.true))

pub loop-k-preserved : goal.loop-k-preserved
loop-k-preserved c =
    c.loop-k.invariant ∙ behind c.args.program c.args.point _ c.loop-k.k _ c.loop-k-test.true (sym c.is_at.ensures ∙ c.if-is_at.false)

pub returns-clause-value : goal.returns-clause-value
returns-clause-value c =
    sym (ap (place_of c.args.program c.args.point) (sym (c.deref-breakpoint-items.ensures.value ∙ c.self.view_is))
    ∙ c.loop-k.invariant ∙ nowhere c.args.program c.args.point _ c.loop-k.k c.loop-k-test.false)
