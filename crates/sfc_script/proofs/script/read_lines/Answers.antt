use Rattle.std.proofs.Common.{◌≡◌, ◌∙◌, Err, ap, sym, subst, arith, refl}
use Rattle.std.proofs.lemmas.Result.{err_from_is_err_and}
use Rattle.sfc_debug.specs.sfc_core.Agreement.{plant_of}
use Rattle.sfc_script.specs.Lines.{lines_of}
use Rattle.sfc_script.specs.Answers.{Tells}
use Rattle.sfc_script.specs.Scripts.{LinesRead}
use Rattle.sfc_script.specs.Private.Reading.{as_said}
use Rattle.sfc_script.proofs.Said.{goes_on, refused, ended}
use Rattle.sfc_script.proofs.script.read_lines.Goals as goal

pub returns-in_err-add : goal.returns-in_err-add
returns-in_err-add c =
    let f = err_from_is_err_and c.from_residual-in_err-add.result c.from_residual-in_err-add.ensures.1 in
    let is : c.from_residual-in_err-add.result ≡ Err c.in_err-add.field-0.0 = f.1 ∙ ap Err f.2 in
    subst (Tells (λ outcome. LinesRead (plant_of c.args.resource.now) 1 0 (lines_of c.args.bytes.now) outcome)) (sym is)
    (refused (plant_of c.args.resource.now) (lines_of c.args.bytes.now) c.lines.number c.lines.script c.add.new.self c.lines.rest.now c.in-Some.after.now (as_said c.in-Some.line)
    c.in_err-add.field-0.0 c.lines.invariant.said c.in-Some.ensures.line.0 c.in_err-add.ensures)

pub lines-preserved : goal.lines-preserved
lines-preserved c = record {
  counted = omega (arith, c.in-Some.ensures.line.1);
  said = goes_on (plant_of c.args.resource.now) (lines_of c.args.bytes.now) c.lines.number _ c.lines.script c.add.new.self c.lines.rest.now c.in-Some.after.now (as_said c.in-Some.line) refl
      c.lines.invariant.said c.in-Some.ensures.line.0 c.in_ok-add.ensures;
  is_last = c.in-Some.ensures.is_last;
}

pub returns : goal.returns
returns c = ended (plant_of c.args.resource.now) (lines_of c.args.bytes.now) c.lines.number c.lines.script c.lines.rest.now c.lines.invariant.said c.in_default.ensures.line
