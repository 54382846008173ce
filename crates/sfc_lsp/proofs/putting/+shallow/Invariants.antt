use Rattle.std.proofs.Common.{◌≤◌, ◌+◌, ◌*◌, length}
use Rattle.serde_json.specs.Data.{items_depth, members_depth}
use Rattle.serde_json.specs.View.{items_view, members_view}
use Rattle.sfc_lsp.proofs.putting.+shallow.Given as goal

abbrev pub invariant-are_members_shallow-loop-name : goal.invariant-are_members_shallow-loop-name
invariant-are_members_shallow-loop-name l =
    members_depth (members_view l._name-iterator) ≤ l.most → members_depth (members_view l.members.entries) ≤ l.most

abbrev pub invariant-are_shallow-all : goal.invariant-are_shallow-all
invariant-are_shallow-all l = items_depth (items_view l.rest) ≤ l.most → items_depth (items_view l.items) ≤ l.most

abbrev pub decreases-are_shallow-all : goal.decreases-are_shallow-all
decreases-are_shallow-all l = length l.rest

abbrev pub decreases-is_shallow : goal.decreases-is_shallow
decreases-is_shallow l = 2 * l.most

abbrev pub decreases-are_shallow : goal.decreases-are_shallow
decreases-are_shallow l = 2 * l.most + 1

abbrev pub decreases-are_members_shallow : goal.decreases-are_members_shallow
decreases-are_members_shallow l = 2 * l.most + 1
