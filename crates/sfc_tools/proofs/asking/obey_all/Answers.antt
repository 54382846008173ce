use Rattle.std.proofs.Common.{◌∙◌, ◌++◌, ap, append_assoc, ℕ, List}
use Rattle.sfc_replay.specs.sfc_script.Lines.{lines_of}
use Rattle.sfc_tools.proofs.Answered.{all_answered, line_more}
use Rattle.sfc_tools.proofs.asking.obey_all.Goals as goal

pub lines-preserved : goal.lines-preserved
lines-preserved c =
    let i = c.lines.invariant in
    let first : List ℕ = c.in_ok-text.text.items in (
      i.0 ++ first,
      c.in_ok-extend_from_slice.ensures.items ∙ ap (λ bytes. c.lines.out.items ++ bytes) c.deref.ensures.value
          ∙ ap (λ bytes. bytes ++ first) i.1 ∙ append_assoc c.args.out.now.items i.0 first,
      line_more (lines_of c.args.lines.now) (lines_of c.lines.rest.now) (lines_of c.in-Some.after.now) c.in-Some.line.now c.args.prompt.now
          c.lines.prompt c.obey.new.prompt i.0 first c.in-Some.ensures.first.0 c.in_ok-text.ensures i.2,
    )

pub returns : goal.returns
returns c =
    let i = c.lines.invariant in (
      i.0,
      all_answered (lines_of c.args.lines.now) (lines_of c.lines.rest.now) c.args.prompt.now c.lines.prompt i.0
          (ap lines_of c.in_default.ensures.first) i.2,
      i.1,
    )
