use Rattle.std.proofs.Common.{◌/◌, ◌%◌, ℕ, List, [], ◌∷◌, ◌++◌, take, ap, sym, ◌∙◌, arith}
use Rattle.std.specs.Fmt.{decimal}
use Rattle.sfc_base.specs.TimeText.{digit}
use Rattle.sfc_page.proofs.Decimals.{group, group_length}
use Rattle.sfc_page.proofs.Appended.{all_counted, two_appended}
use Rattle.sfc_page.proofs.digits.+put_long.Goals as goal

pub returns-then-number-lt1000-clause-count : goal.returns-then-number-lt1000-clause-count
returns-then-number-lt1000-clause-count t c =
    all_counted c.args.bytes.now c.put_short.new.bytes (decimal c.args.number) c.args.count c.put_short.result
    (omega arith) (omega arith) c.put_short.ensures.text

pub put_long-count-requires : goal.put_long-count-requires
put_long-count-requires t c =
    let all = group_length c.args.number (omega arith) (omega arith) in
    (omega arith, (omega arith, omega (arith, all)))

pub put_group-requires-clause-room : goal.put_group-requires-clause-room
put_group-requires-clause-room t c =
    let all = group_length c.args.number (omega arith) (omega arith) in
    omega (arith, all)

pub returns-clause-count : goal.returns-clause-count
returns-clause-count t c =
    let all = group_length c.args.number (omega arith) (omega arith) in
    omega (arith, all)

pub returns-clause-text : goal.returns-clause-text
returns-clause-text t c =
    let n = c.args.number in
    let old = take c.args.count c.args.bytes.now in
    let front = take c.put_long-count.result c.put_long-count.new.bytes in
    let whole = take c.put_group.result c.put_group.new.bytes in
    let last = digit (n % 1000 / 100) ∷ digit (n % 1000 % 100 / 10) ∷ digit (n % 1000 % 100 % 10) ∷ [] in
    two_appended old front whole (decimal (n / 1000)) last c.put_long-count.ensures.text c.put_group.ensures.text
    ∙ ap (λ (t : List ℕ). old ++ t) (sym (group n (omega arith) (omega arith)))
