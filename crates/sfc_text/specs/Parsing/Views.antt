-- Views of lists, item by item.
use Rattle.std.specs.Prelude.{◌≡◌, List, [], ◌∷◌, ◌++◌, map, refl}
use Rattle.std.proofs.Common.{ap}
use Rattle.sfc_text.specs.declared.tree.Element.{Element}
use Rattle.sfc_text.specs.declared.tree.Program.{Program}
use Rattle.sfc_text.specs.Trees.{element_of, program_of}

map_more : {V X : Type 0} (view : V → X) (vs : List V) (v : V) → map view (vs ++ v ∷ []) ≡ map view vs ++ view v ∷ []
map_more view [] v = refl
map_more view (x ∷ vs) v = ap (λ (ys : List _). view x ∷ ys) (map_more view vs v)

pub elements_more : (es : List Element) (e : Element) → map element_of (es ++ e ∷ []) ≡ map element_of es ++ element_of e ∷ []
elements_more es e = map_more element_of es e

pub programs_more : (ps : List Program) (p : Program) → map program_of (ps ++ p ∷ []) ≡ map program_of ps ++ program_of p ∷ []
programs_more ps p = map_more program_of ps p
