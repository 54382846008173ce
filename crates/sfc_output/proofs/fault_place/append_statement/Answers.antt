use Rattle.std.proofs.Common.{◌≡◌, ◌++◌, ◌-◌, ◌^◌, suc, min, codes, ℕ, arith, ◌∙◌, ap}
use Rattle.std.proofs.lemmas.Result.{on_ok_weaker}
use Rattle.std.specs.Fmt.{decimal}
use Rattle.sfc_page.proofs.Appended.{two_appended}
use Rattle.sfc_output.specs.FaultPlaces.{statement_text}
use Rattle.sfc_output.proofs.fault_place.append_statement.Goals as goal

pub returns : goal.returns
returns c =
    let number = statement_text c.args.statement in
    let old = c.args.out.now.items in
    let words = c.append.new.out.items in
    let numbered = c.append_number.new.out.items in
    let named = c.append-2.new.out.items in
    let head = codes " in statement " in
    let of_action = codes " of action " in
    let from_one : c.saturating_add.result ≡ min (suc c.args.statement) (2 ^ 64 - 1) = omega (arith, c.saturating_add.ensures) in
    on_ok_weaker c.append-3.result
    (λ e. two_appended old named _ (head ++ number ++ of_action) c.args.name.now
    (two_appended old numbered named (head ++ number) of_action
    (two_appended old words numbered head number c.in_ok-append.ensures
    (c.in_ok-append_number.ensures ∙ ap (λ (n : ℕ). words ++ decimal n) from_one)) c.in_ok-append-2.ensures) e)
    c.append-3.ensures
