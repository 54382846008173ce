-- What a response tells (Language Server Protocol: DocumentSymbol, SymbolInformation, SemanticTokens). The members are in the order of their keys.
use Rattle.std.specs.Prelude.{ℕ, ◌==◌, if◌then◌else◌, List, [], ◌∷◌, length, codes, string_bytes}
use Rattle.serde_json.specs.Data.{Data, Items, Members, array, item, member, no_items, no_members, number, object, string, unsigned}
use Rattle.sfc_responses.specs.declared.body.Body.{Body}
use Rattle.sfc_responses.specs.declared.body.Body.TheVariants as body
use Rattle.sfc_responses.specs.declared.position.Position.{Position}
use Rattle.sfc_responses.specs.declared.position.Range.{Range}
use Rattle.sfc_responses.specs.declared.symbol.Group.{Group}
use Rattle.sfc_responses.specs.declared.symbol.Located.{Located}
use Rattle.sfc_responses.specs.declared.symbol.Symbol.{Symbol}

abbrev pub count : ℕ → Data
count n = number (unsigned n)

abbrev pub text : List ℕ → Data
text s = string s

abbrev pub position_of : Position → Data
position_of position = object
    (member (codes "character") (count position.character)
    (member (codes "line") (count position.line) no_members))

abbrev pub range_of : Range → Data
range_of range = object
    (member (codes "end") (position_of range.to)
    (member (codes "start") (position_of range.from) no_members))

abbrev pub members_of : Symbol → Members
members_of symbol =
    member (codes "kind") (count symbol.kind)
    (member (codes "name") (text (string_bytes symbol.name))
    (member (codes "range") (range_of symbol.range)
    (member (codes "selectionRange") (range_of symbol.selection) no_members)))

abbrev pub symbol_of : Symbol → Data
symbol_of symbol = object (members_of symbol)

abbrev pub symbols_of : List Symbol → Items
symbols_of [] = no_items
symbols_of (symbol ∷ symbols) = item (symbol_of symbol) (symbols_of symbols)

-- a symbol in which these stand
abbrev pub nest_of : Symbol → List Symbol → Data
nest_of symbol inner = object (member (codes "children") (array (symbols_of inner)) (members_of symbol))

-- a symbol with those in it, if there are any
abbrev pub group_of : Group → Data
group_of group = if length group.inner.items == 0 then symbol_of group.head else nest_of group.head group.inner.items

abbrev pub groups_of : List Group → Items
groups_of [] = no_items
groups_of (group ∷ groups) = item (group_of group) (groups_of groups)

abbrev pub location_of : Located → Data
location_of symbol = object
    (member (codes "range") (range_of symbol.range)
    (member (codes "uri") (text (string_bytes symbol.uri)) no_members))

abbrev pub located_of : Located → Data
located_of symbol = object
    (member (codes "containerName") (text (string_bytes symbol.around))
    (member (codes "kind") (count symbol.kind)
    (member (codes "location") (location_of symbol)
    (member (codes "name") (text (string_bytes symbol.name)) no_members))))

abbrev pub list_of : List Located → Items
list_of [] = no_items
list_of (symbol ∷ symbols) = item (located_of symbol) (list_of symbols)

abbrev pub counts_of : List ℕ → Items
counts_of [] = no_items
counts_of (n ∷ ns) = item (count n) (counts_of ns)

abbrev pub data_of : List ℕ → Data
data_of numbers = object (member (codes "data") (array (counts_of numbers)) no_members)

abbrev pub body_of : Body → Data
body_of (body.Symbols groups) = array (groups_of groups.now)
body_of (body.List symbols) = array (list_of symbols.now)
body_of (body.Data numbers) = data_of numbers.now
