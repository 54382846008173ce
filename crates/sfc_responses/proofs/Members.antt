-- Members of an object and items of a list, written one after the other.
use Rattle.std.proofs.Common.{◌≡◌, ◌<◌, ◌^◌, ℕ, length, List, [], ◌∷◌, ◌++◌, Some, codes, decimal, option_map, option_and_then, refl, ap, ap₂, ◌∙◌, subst, arith, append_assoc}
use Rattle.json.specs.Json as json
use Rattle.json.specs.Token.{Token, begin_array, begin_object, end_array, end_object, key, number as number_token, string as string_token}
use Rattle.json.specs.Tree as tree
use Rattle.serde_json.specs.Data.{Data, Items, Members, array, item, member, no_items, no_members, number, object, put, string, unsigned}
use Rattle.serde_json.specs.Read.{of_items, of_members}
use Rattle.serde_json.specs.Written.{WritesItems, WritesValue}
use Rattle.serde_json.proofs.Numbers.{number_of-decimal}
use Rattle.serde_json.proofs.Texts.{unless_float-number_of}
use Rattle.sfc_responses.specs.Private.Members.{Opens, WritesMember, WritesRest, puts}

pub writes_count : (n : ℕ) (old new : List Token) → n < 2 ^ 64 → new ≡ old ++ number_token (decimal n) ∷ [] → WritesValue (number (unsigned n)) old new
writes_count n old new h e =
    let reads = number_of-decimal n h in
    (json.number (decimal n), e, ap (option_map number) reads, omega arith, ap json.number (unless_float-number_of (decimal n) (unsigned n) reads))

pub writes_text : (s : List ℕ) (old new : List Token) → new ≡ old ++ string_token s ∷ [] → WritesValue (string s) old new
writes_text s old new e = (json.string s, e, refl, omega arith, refl)

-- ---- objects

pub last_member : (old new : List Token) → new ≡ old ++ end_object ∷ [] → WritesRest no_members old new
last_member old new e = (json.no_members, e, λ found. refl, omega arith, refl)

pub next_member : (name : List ℕ) (value : Data) (rest : Members) (old mid new : List Token)
    → WritesMember name value old mid → WritesRest rest mid new → WritesRest (member name value rest) old new
next_member name value rest old mid new v r = (
  json.member name v.0 r.0,
  r.1 ∙ ap (λ ts. ts ++ tree.members_tokens r.0) v.1 ∙ append_assoc (old ++ key name ∷ []) (tree.json_tokens v.0) (tree.members_tokens r.0)
      ∙ append_assoc old (key name ∷ []) (tree.json_tokens v.0 ++ tree.members_tokens r.0),
  λ found. ap (option_and_then (λ d. of_members r.0 (put name d found))) v.2 ∙ r.2 (put name value found),
  omega (arith, v.3, r.3),
  ap₂ (json.member name) v.4 r.4,
)

pub whole_object : (rest : Members) (old mid new : List Token) → mid ≡ old ++ begin_object ∷ [] → WritesRest rest mid new → puts rest no_members ≡ rest
    → WritesValue (object rest) old new
whole_object rest old mid new e r sorted = (
  json.object r.0,
  r.1 ∙ ap (λ ts. ts ++ tree.members_tokens r.0) e ∙ append_assoc old (begin_object ∷ []) (tree.members_tokens r.0),
  ap (option_map object) (r.2 no_members ∙ ap Some sorted),
  omega (arith, r.3),
  ap json.object r.4,
)

-- ---- lists

pub nothing_left : {A : Type 0} (xs : List A) → length xs ≡ 0 → [] ≡ xs
nothing_left [] e = refl
nothing_left (x ∷ xs) e = absurd (omega (arith, e))

pub last_item : (old new : List Token) → new ≡ old ++ end_array ∷ [] → WritesItems no_items old new
last_item old new e = (json.no_items, e, refl, omega arith, refl)

pub next_item : (value : Data) (rest : Items) (old mid new : List Token) → WritesValue value old mid → WritesItems rest mid new → WritesItems (item value rest) old new
next_item value rest old mid new v r = (
  json.item v.0 r.0,
  r.1 ∙ ap (λ ts. ts ++ tree.items_tokens r.0) v.1 ∙ append_assoc old (tree.json_tokens v.0) (tree.items_tokens r.0),
  ap (option_and_then (λ d. option_map (item d) (of_items r.0))) v.2 ∙ ap (option_map (item value)) r.2,
  omega (arith, v.3, r.3),
  ap₂ json.item v.4 r.4,
)

pub whole_array : (items : Items) (old mid new : List Token) → mid ≡ old ++ begin_array ∷ [] → WritesItems items mid new → WritesValue (array items) old new
whole_array items old mid new e r = (
  json.array r.0,
  r.1 ∙ ap (λ ts. ts ++ tree.items_tokens r.0) e ∙ append_assoc old (begin_array ∷ []) (tree.items_tokens r.0),
  ap (option_map array) r.2,
  omega (arith, r.3),
  ap json.array r.4,
)

-- ---- a response

pub opens : (id : Data) (old first second third mid : List Token) → first ≡ old ++ begin_object ∷ [] → WritesMember (codes "id") id first second
    → WritesMember (codes "jsonrpc") (string (codes "2.0")) second third → mid ≡ third ++ key (codes "result") ∷ [] → Opens id old mid
opens id old first second third mid begun one two named value last v =
    let tail = member (codes "result") value no_members in
    let three : WritesMember (codes "result") value third last = subst (λ ts. WritesValue value ts last) named v in
    let rest = next_member (codes "result") value no_members third last (last ++ end_object ∷ []) three (last_member last (last ++ end_object ∷ []) refl) in
    let rests = next_member (codes "jsonrpc") (string (codes "2.0")) tail second third (last ++ end_object ∷ []) two rest in
    whole_object (member (codes "id") id (member (codes "jsonrpc") (string (codes "2.0")) tail)) old first (last ++ end_object ∷ []) begun
    (next_member (codes "id") id (member (codes "jsonrpc") (string (codes "2.0")) tail) first second (last ++ end_object ∷ []) one rests) refl
