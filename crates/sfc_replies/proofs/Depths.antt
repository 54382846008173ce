-- How deep objects and lists nest.
use Rattle.std.proofs.Common.{ℕ, ◌≤◌, List, [], ◌∷◌, ◌++◌, arith}
use Rattle.std.specs.Ordering.{nat_cmp, match_ordering}
use Rattle.std.specs.declared.cmp.Ordering.{Ordering}
use Rattle.std.specs.declared.cmp.Ordering.TheVariants.{Less, Equal, Greater}
use Rattle.std.specs.Cmp.Lexicographic.{slice_cmp}
use Rattle.serde_json.specs.Data.{Data, Members, depth, items_depth, member, members_depth, no_members, put}
use Rattle.serde_json.specs.View.{items_view, view}
use Rattle.serde_json.specs.declared.value.Value.{Value}

-- one item more that nests no deeper than the others may
pub deep_item : (n : ℕ) (vs : List Value) (v : Value) → items_depth (items_view vs) ≤ n → depth (view v) ≤ n → items_depth (items_view (vs ++ v ∷ [])) ≤ n
deep_item n [] v h k = omega arith
deep_item n (w ∷ vs) v h k = omega (arith, deep_item n vs v (omega arith) k)

by_order : (order : Ordering) (a b d : Members) (n : ℕ) → members_depth a ≤ n → members_depth b ≤ n → members_depth d ≤ n
    → members_depth (match_ordering order a b d) ≤ n
by_order Less a b d n p q r = p
by_order Equal a b d n p q r = q
by_order Greater a b d n p q r = r

-- so of one member more
pub deep_member : (name : List ℕ) (value : Data) (members : Members) (n : ℕ) → depth value ≤ n → members_depth members ≤ n
    → members_depth (put name value members) ≤ n
deep_member name value no_members n p q = omega arith
deep_member name value (member other first rest) n p q =
    by_order (slice_cmp nat_cmp name other) (member name value (member other first rest)) (member other value rest)
    (member other first (put name value rest)) n (omega arith) (omega arith)
    (omega (arith, deep_member name value rest n p (omega arith)))
