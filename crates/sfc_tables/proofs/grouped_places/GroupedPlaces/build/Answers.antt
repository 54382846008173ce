use Rattle.std.proofs.Common.{◌≡◌, ◌==◌, ◌++◌, ◌∷◌, [], ◌∙◌, ℕ, cond, ap, sym, length, Vec, Global, arith}
use Rattle.std.specs.Prelude.{map, filter, slice_index_or}
use Rattle.std.specs.List.{range_with_len}
use Rattle.std.proofs.lemmas.List.{ext_get_or, length-map}
use Rattle.std.proofs.lemmas.List.FromFn.{length-map-range_with_len, get_or-map-range_with_len}
use Rattle.sfc_tables.specs.Places.{places_of}
use Rattle.sfc_tables.proofs.Departing.{all_empty, filter_more}
use Rattle.sfc_tables.proofs.grouped_places.GroupedPlaces.build.Goals as goal

pub loop-place-init : goal.loop-place-init
loop-place-init c =
    let lists = c.in_ok-lists.lists.items in
    let long = length-map lists (λ list. list.items) in
    let count = c.in_ok-lists.ensures.len in
    record {
      len = long ∙ count;
      lists = λ s lt. all_empty (λ (list : Vec ℕ Global). list.items) lists c.in_ok-lists.ensures.empty s;
    }

pub loop-place-preserved : goal.loop-place-preserved
loop-place-preserved c =
    let was = c.loop-place.invariant in
    let place = c.loop-place.place in
    let numbers = c.args.numbers.now in
    record {
      len = c.in_ok-add.ensures.len ∙ was.len;
      lists = λ s lt.
          c.in_ok-add.ensures.lists s (omega (arith, lt, was.len))
          ∙ ap (λ l. l ++ cond (slice_index_or numbers place 0 == s) (place ∷ []) []) (was.lists s lt)
          ∙ sym (filter_more (λ j. slice_index_or numbers j 0 == s) place);
    }

pub returns : goal.returns
returns c =
    let was = c.loop-place.invariant in
    let numbers = c.args.numbers.now in
    let n = c.args.groups in
    let all : c.loop-place.place ≡ length numbers = omega arith in
    ext_get_or [] c.loop-place.places (map (places_of numbers) (range_with_len 0 n))
    (was.len ∙ sym (length-map-range_with_len (places_of numbers) 0 n))
    (λ s lt. was.lists s (omega (arith, lt, was.len))
    ∙ ap (λ k. filter (λ j. slice_index_or numbers j 0 == s) (range_with_len 0 k)) all
    ∙ sym (get_or-map-range_with_len (places_of numbers) 0 n s s [] (omega (arith, lt, was.len)) (omega arith)))
