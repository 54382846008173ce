use Rattle.std.proofs.Common.{sym}
use Rattle.sfc_cases.proofs.ConditionTexts.{not_read, not_shared}
use Rattle.sfc_cases.proofs.condition.unread.Goals as goal

pub returns-in_default : goal.returns-in_default
returns-in_default c = record {
  condition = λ plant p r told. sym (not_read plant p c.args.kind r c.in_default.not-Memory told);
  shared = λ plant r told. sym (not_shared plant c.args.kind r c.in_default.not-Memory told);
}
