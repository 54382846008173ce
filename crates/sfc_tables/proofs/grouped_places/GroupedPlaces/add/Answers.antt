use Rattle.std.proofs.Common.{◌≡◌, ◌<◌, ◌++◌, ◌∷◌, [], ◌==◌, ◌∙◌, List, ℕ, cond, ap, sym, length, get_or, Vec, Global, arith}
use Rattle.std.specs.Prelude.{map}
use Rattle.std.proofs.lemmas.List.{map-set, get_or-map, length-map}
use Rattle.sfc_tables.proofs.Departing.{added_place}
use Rattle.sfc_tables.proofs.grouped_places.GroupedPlaces.add.Goals as goal

-- the lists as they are seen
abbrev lists_of : goal.In_ok-push → List (List ℕ)
lists_of c = map (λ list. list.items) c.self.inside.lists.items

own_is : (c : goal.In_ok-push) → c.args.group < length c.self.inside.lists.items
    → get_or (lists_of c) c.args.group [] ≡ c.index_mut.result.now.items
own_is c lt =
    get_or-map (λ list. list.items) c.self.inside.lists.items c.args.group c.index_mut.result.now [] lt
    ∙ ap (λ (list : Vec ℕ Global). list.items) (sym c.index_mut.ensures.value)

pub returns-in_ok-push-clause-lists : goal.returns-in_ok-push-clause-lists
returns-in_ok-push-clause-lists c s less =
    let lt : c.args.group < length c.self.inside.lists.items = omega arith in
    let long = length-map c.self.inside.lists.items (λ list. list.items) in
    ap (λ (l : List (List ℕ)). get_or l s []) (map-set (λ list. list.items) c.self.inside.lists.items c.args.group c.push.new.self)
    ∙ added_place (lists_of c) c.args.group c.args.place c.index_mut.result.now.items c.push.new.self.items (omega arith) (own_is c lt)
    c.in_ok-push.ensures.items s
    ∙ ap (λ (l : List (List ℕ)). get_or l s [] ++ cond (c.args.group == s) (c.args.place ∷ []) []) c.self.view_is
