use Rattle.std.proofs.Common.{◌≡◌, ◌==◌, ◌∙◌, [], List, ℕ, true, ap, length, get_or, arith}
use Rattle.std.specs.Prelude.{map}
use Rattle.std.specs.List.{list_any, range_with_len}
use Rattle.std.proofs.lemmas.Bool.Decides.{nat_tests}
use Rattle.std.proofs.lemmas.List.{get_or-map, length-map}
use Rattle.std.proofs.lemmas.List.FromFn.{get_or-map-range_with_len}
use Rattle.sfc_tables.specs.Places.{places_of}
use Rattle.sfc_evolve.proofs.Proposed.{filter_has, range_has}
use Rattle.sfc_action.specs.declared.blocks.Block.{Block}
use Rattle.sfc_action.specs.Private.Live.{has_place}
use Rattle.sfc_action.proofs.places.list_places.Goals as goal

pub returns : goal.returns
returns c k d lt =
    let blocks = c.args.blocks.now in
    let a = (get_or blocks k d).action.0 in
    let numbers = c.in_ok-numbers.numbers.items in
    let items : numbers ≡ map (λ (block : Block). block.action.0) blocks = c.in_ok-numbers.ensures in
    let here : get_or numbers k 0 ≡ a =
    ap (λ l. get_or l k 0) items ∙ get_or-map (λ (block : Block). block.action.0) blocks k d 0 lt in
    let chosen : (get_or numbers k 0 == a) ≡ true = grind (arith, nat_tests) in
    let long : length numbers ≡ length blocks = ap length items ∙ length-map blocks (λ (block : Block). block.action.0) in
    let made : c.in_ok-places.places ≡ map (places_of numbers) (range_with_len 0 c.args.actions) =
    c.in_ok-places.ensures ∙ ap (λ l. map (places_of l) (range_with_len 0 c.args.actions)) c.deref.ensures.value in
    ap (λ (l : List (List ℕ)). has_place l a k) made
    ∙ ap (list_any (λ p. p == k)) (get_or-map-range_with_len (places_of numbers) 0 c.args.actions a a [] (c.requires k d lt) (omega arith))
    ∙ filter_has (λ j. get_or numbers j 0 == a) (range_with_len 0 (length numbers)) k chosen
    (range_has 0 (length numbers) k (omega arith) (omega (arith, lt, long)))
