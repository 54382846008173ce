use Rattle.std.proofs.Common.{◌≡◌, ◌++◌, ◌+◌, suc, slice_get, codes, ℕ, arith, ◌∙◌, ap}
use Rattle.std.proofs.lemmas.Result.{on_ok_weaker}
use Rattle.std.specs.Fmt.{decimal}
use Rattle.sfc_plant.specs.Finding.{chart_of}
use Rattle.sfc_page.proofs.Appended.{two_appended}
use Rattle.sfc_output.specs.FaultPlaces.{name_of_transition}
use Rattle.sfc_output.specs.Programs.{transition_text}
use Rattle.sfc_output.proofs.fault_place.append_condition.Goals as goal

pub returns : goal.returns
returns c =
    let tr = c.args.transition.0 in
    let old = c.args.out.now.items in
    let head = codes " in the condition of TRANSITION " in
    let words = c.append.new.out.items in
    let numbered = c.append_number.new.out.items in
    let from_one : c.from.result + 1 ≡ suc tr = omega (arith, c.from.ensures) in
    on_ok_weaker c.append_transition_name.result
    (λ e. two_appended old numbered _ (head ++ transition_text tr)
    (name_of_transition (slice_get (chart_of c.args.plant.now c.args.program).transitions tr))
    (two_appended old words numbered head (transition_text tr) c.in_ok-append.ensures
    (c.in_ok-append_number.ensures ∙ ap (λ (n : ℕ). words ++ decimal n) from_one)) e)
    c.append_transition_name.ensures
