-- Members of an object, written one after the other.
use Rattle.std.specs.Prelude.{◌≡◌, ◌≤◌, ℕ, List, [], ◌∷◌, ◌++◌, Some}
use Rattle.json.specs.Json as json
use Rattle.json.specs.Token.{Token, end_object, key}
use Rattle.json.specs.Tree as tree
use Rattle.serde_json.specs.Data.{Data, Members, member, members_depth, no_members, put}
use Rattle.serde_json.specs.Read.{of_members}
use Rattle.serde_json.specs.Written.{WritesValue, blank_members, members_outline}
use Rattle.sfc_wire.specs.RpcAnswers.{success_of}

-- the key, and the value behind it
abbrev pub WritesMember : List ℕ → Data → List Token → List Token → Type 0
WritesMember name value old new = WritesValue value (old ++ key name ∷ []) new

-- the members go in one after the other
abbrev pub puts : Members → Members → Members
puts no_members found = found
puts (member name value rest) found = puts rest (put name value found)

-- these members, and the end of the object
abbrev pub WritesRest : Members → List Token → List Token → Type 0
WritesRest rest old new = (ms : json.Members) × (new ≡ old ++ tree.members_tokens ms) × ((found : Members) → of_members ms found ≡ Some (puts rest found))
    × (tree.members_depth ms ≤ members_depth rest) × (blank_members ms ≡ members_outline rest)

-- a value and the end of the object make these the response to a request with this id
abbrev pub Opens : Data → List Token → List Token → Type 0
Opens id old mid = (value : Data) (last : List Token) → WritesValue value mid last → WritesValue (success_of id value) old (last ++ end_object ∷ [])
