use Rattle.std.proofs.Common.{◌≡◌, false, true, length, ap, arith}
use Rattle.sfc_flags.proofs.Same.{same_length, same_tables}
use Rattle.sfc_flags.proofs.Views.{length_of}
use Rattle.sfc_flags.proofs.flags.Flags.is_same.Goals as goal

pub are_same-requires : goal.are_same-requires
are_same-requires c =
    same_length _ _ _ _ c.deref.result.now c.deref-2.result.now _ _ c.self.invariant.table c.other.invariant.table
    c.deref.ensures.value c.deref-2.ensures.value c.self.view_is c.other.view_is c.if-self-other.false

pub returns-then-self-other : goal.returns-then-self-other
returns-then-self-other c = (
  λ yes. absurd (let no : false ≡ true = yes in cc),
  λ same. absurd (c.if-self-other.true (omega (
    arith,
    length_of c.self.inside.count c.self.inside.words.items,
    ap length c.self.view_is,
    length_of c.other.inside.count c.other.inside.words.items,
    ap length c.other.view_is,
    ap length same,
  ))),
)

pub returns : goal.returns
returns c =
    let tables = same_tables _ _ _ _ c.deref.result.now c.deref-2.result.now _ _ c.self.invariant.table c.other.invariant.table
    c.deref.ensures.value c.deref-2.ensures.value c.self.view_is c.other.view_is c.if-self-other.false in
    (λ yes. tables.0 (c.are_same.ensures.0 yes), λ same. c.are_same.ensures.1 (tables.1 same))
