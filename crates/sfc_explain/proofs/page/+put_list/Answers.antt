use Rattle.std.proofs.Common.{rules}
use Rattle.sfc_explain.proofs.Put.{fault_first}
use Rattle.sfc_explain.proofs.page.+put_list.Goals as goal

pub returns-in_err-put_row : goal.returns-in_err-put_row
returns-in_err-put_row g t c =
    fault_first _ _ c.in-Some.explanation.now c.in-Some.rest.now c.args.explanations.now (search rules) c.put_row.result c.from_residual.result
    c.in_err-put_row.field-0.0 c.in_err-put_row.field-0.0 (search rules) (search rules) c.put_row.ensures
