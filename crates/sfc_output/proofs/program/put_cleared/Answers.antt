use Rattle.std.proofs.Common.{◌≡◌, ◌++◌, ℕ, List, ◌∙◌, ap, arith}
use Rattle.std.specs.Fmt.{decimal}
use Rattle.std.proofs.lemmas.Result.{on_ok_weaker}
use Rattle.sfc_output.specs.Programs.{transition_text}
use Rattle.sfc_output.specs.Private.ListParts.{separator}
use Rattle.sfc_page.specs.Lines.{written}
use Rattle.sfc_output.proofs.Texts.{placed, set_placed}
use Rattle.sfc_output.proofs.program.put_cleared.Goals as goal

pub places-preserved : goal.places-preserved
places-preserved c =
    let found = c.in-Some.ensures.some in
    let number : decimal c.number_of.result ≡ transition_text c.in-Some.tr =
    ap decimal (c.number_of.ensures (omega (arith, found.1, c.next_set.ensures.len))) in
    record {
      within = omega (arith, found.1);
      rest =
          placed transition_text c.args.cleared.now c.places.from c.in-Some.tr c.places.is_first _ (written c.places.out.items c.places.line)
          (written c.put_next_number.new.out.items c.put_next_number.new.line) found.2
          (c.in_ok-put_next_number.ensures ∙ ap (λ (t : List ℕ). written c.places.out.items c.places.line ++ (separator c.places.is_first ++ t)) number)
          c.places.invariant.rest;
    }

pub returns : goal.returns
returns c =
    on_ok_weaker c.put_end.result
    (λ e. e ∙ set_placed transition_text c.args.cleared.now c.places.from c.places.is_first (written c.args.out.now.items c.args.line.now)
    (written c.places.out.items c.places.line) (c.next_set.ensures.none c.in_default.is) c.places.invariant.rest)
    c.put_end.ensures
