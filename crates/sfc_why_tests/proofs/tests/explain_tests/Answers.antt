use Rattle.sfc_cases.specs.Answers.{file_data}
use Rattle.sfc_why_tests.proofs.Faults.{refused}
use Rattle.sfc_why_tests.proofs.tests.explain_tests.Goals as goal

pub returns-in-Ok : goal.returns-in-Ok
returns-in-Ok c = (
  c.in_ok-missing_names-in-Ok.ensures,
  λ read is. (file_data c.in-Ok.field-0, rw (← c.in_ok-resource.ensures.plant, ← c.text.ensures) (c.in-Ok.ensures read is)),
)

pub returns : goal.returns
returns c = (
  c.in-Err-Faulty.line,
  c.in_ok-fault-in-Err-Faulty.ensures,
  λ read is. rw (← c.in_ok-resource.ensures.plant, ← c.text.ensures) (refused c.in-Err-Faulty.field-0-is (c.in-Err-Faulty.ensures read is)),
)
