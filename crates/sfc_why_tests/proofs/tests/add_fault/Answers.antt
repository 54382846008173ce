use Rattle.std.proofs.Common.{All, subst, sym}
use Rattle.sfc_cases.specs.Answers.{text_in}
use Rattle.sfc_why_tests.proofs.Faults.{IsFaultIn, one_more}
use Rattle.sfc_why_tests.proofs.tests.add_fault.Goals as goal

pub returns : goal.returns
returns c = λ all.
    subst (All (IsFaultIn (text_in c.args.sources.now))) (sym c.in_ok-push.ensures.items)
    (one_more (text_in c.args.sources.now) c.args.faults.now.items c.args.number c.in_ok-fault.fault all c.in_ok-fault.ensures)
