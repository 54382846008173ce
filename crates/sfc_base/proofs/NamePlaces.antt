-- The place of a name among names is one of theirs.
use Rattle.std.proofs.Common.{◌≡◌, ℕ, ◌<◌, List, [], length, Some}
use Rattle.std.proofs.lemmas.List.Quantifiers.{position-Some}
use Rattle.sfc_base.specs.Case.{same_word}
use Rattle.sfc_base.specs.NameLists.{place_of}

pub place_below : (name : List ℕ) (names : List (List ℕ)) (i : ℕ) → place_of name names ≡ Some i → i < length names
place_below name names i e = (position-Some (same_word name) names i [] e).0
