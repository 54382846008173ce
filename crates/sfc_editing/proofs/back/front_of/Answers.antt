use Rattle.std.proofs.Common.{[], ◌∷◌, ◌++◌, refl, subst, ◌≡◌, ℕ, List}
use Rattle.sfc_editing.specs.Fronts.{first_lines, lines_left}
use Rattle.sfc_editing.proofs.Fronts.{ended, moved, moved_text}
use Rattle.sfc_editing.proofs.back.front_of.Goals as goal

pub bytes-init : goal.bytes-init
bytes-init c = ([], refl, refl)

pub bytes-preserved : goal.bytes-preserved
bytes-preserved c =
    let i = c.bytes.invariant in
    let byte : ℕ = c.in-Some.byte in
    let now : List ℕ = c.bytes.rest.now in
    let behind : List ℕ = c.in-Some.behind.now in (
      i.0 ++ byte ∷ [],
      moved_text c.args.text.now i.0 now byte behind c.in-Some.ensures.0 i.1,
      rw c.left_behind-left.ensures (moved i.0 c.bytes.left byte now behind (first_lines c.args.count c.args.text.now) c.in-Some.ensures.1 i.2),
    )

pub returns : goal.returns
returns c =
    let i = c.bytes.invariant in
    ended c.args.text.now i.0 c.bytes.rest.now (first_lines c.bytes.left c.bytes.rest.now) (first_lines c.args.count c.args.text.now) i.1
    c.in_default.ensures i.2
