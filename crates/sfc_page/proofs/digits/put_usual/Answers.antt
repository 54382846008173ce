use Rattle.std.proofs.Common.{◌/◌, ◌%◌, ℕ, List, [], ◌∷◌, ◌++◌, take, ap, sym, ◌∙◌, arith}
use Rattle.std.specs.Fmt.{decimal}
use Rattle.sfc_base.specs.TimeText.{digit}
use Rattle.sfc_page.proofs.Decimals.{group}
use Rattle.sfc_page.proofs.Appended.{two_appended}
use Rattle.sfc_page.proofs.digits.put_usual.Goals as goal

pub returns-clause-text : goal.returns-clause-text
returns-clause-text c =
    let n = c.args.number in
    let old = take c.args.count c.args.bytes.now in
    let front = take c.put_short-count.result c.put_short-count.new.bytes in
    let whole = take c.put_group.result c.put_group.new.bytes in
    let last = digit (n % 1000 / 100) ∷ digit (n % 1000 % 100 / 10) ∷ digit (n % 1000 % 100 % 10) ∷ [] in
    two_appended old front whole (decimal (n / 1000)) last c.put_short-count.ensures.text c.put_group.ensures.text
    ∙ ap (λ (t : List ℕ). old ++ t) (sym (group n (omega arith) (omega arith)))
