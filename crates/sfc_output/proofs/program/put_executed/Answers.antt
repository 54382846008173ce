use Rattle.std.proofs.Common.{◌≡◌, ◌++◌, ℕ, List, ◌∙◌, ap, sym, arith}
use Rattle.std.proofs.lemmas.Result.{on_ok_weaker}
use Rattle.sfc_debug.specs.sfc_tables.ActionNames.{name_of_action, numbered_action}
use Rattle.sfc_output.specs.Private.ListParts.{separator}
use Rattle.sfc_page.specs.Lines.{written}
use Rattle.sfc_output.proofs.Texts.{placed, set_placed}
use Rattle.sfc_output.proofs.program.put_executed.Goals as goal

pub places-preserved : goal.places-preserved
places-preserved c =
    let found = c.in-Some.ensures.some in
    let text = numbered_action c.args.names.now c.args.tables.now in
    let name : c.target.result.now ≡ text c.in-Some.action =
    c.target.ensures ∙ sym (ap (name_of_action c.args.names.now) c.target-target.ensures) in
    record {
      within = omega (arith, found.1);
      rest =
          placed text c.args.executed.now c.places.from c.in-Some.action c.places.is_first _ (written c.places.out.items c.places.line)
          (written c.put_next.new.out.items c.put_next.new.line) found.2
          (c.in_ok-put_next.ensures ∙ ap (λ (t : List ℕ). written c.places.out.items c.places.line ++ (separator c.places.is_first ++ t)) name)
          c.places.invariant.rest;
    }

pub returns : goal.returns
returns c =
    on_ok_weaker c.put_end.result
    (λ e. e ∙ set_placed (numbered_action c.args.names.now c.args.tables.now) c.args.executed.now c.places.from c.places.is_first
    (written c.args.out.now.items c.args.line.now) (written c.places.out.items c.places.line) (c.next_set.ensures.none c.in_default.is)
    c.places.invariant.rest)
    c.put_end.ensures
