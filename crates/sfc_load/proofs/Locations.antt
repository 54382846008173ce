-- Locations of variables and of more variables.
use Rattle.std.proofs.Common.{◌≡◌, List, ◌++◌, sym, ap, ◌∙◌}
use Rattle.std.proofs.lemmas.List.{append_assoc}
use Rattle.std.proofs.lemmas.List.Elements.{filter_map-append}
use Rattle.sfc_base.specs.declared.location.Location.{Location}
use Rattle.sfc_plant.specs.declared.variable.Variable.{Variable}
use Rattle.sfc_plant.specs.Image.{locations_of}

pub more_locations : (xs ys : List Variable) → locations_of (xs ++ ys) ≡ locations_of xs ++ locations_of ys
more_locations xs ys = filter_map-append (λ v. v.location) xs ys

pub more_added : (start done : List Location) (xs ys : List Variable) → done ≡ start ++ locations_of xs
    → start ++ locations_of (xs ++ ys) ≡ done ++ locations_of ys
more_added start done xs ys e =
    ap (λ zs. start ++ zs) (more_locations xs ys) ∙ sym (append_assoc start (locations_of xs) (locations_of ys)) ∙ ap (λ zs. zs ++ locations_of ys) (sym e)
