use Rattle.std.proofs.Common.{◌≡◌, length, ◌∙◌, ap, sym, arith, subst, ◌<◌}
use Rattle.std.specs.Prelude.{slice_set}
use Rattle.std.specs.Vec.{with_items}
use Rattle.std.proofs.lemmas.List.{with_items_is}
use Rattle.sfc_flags.specs.Private.Bits.{flags_of, IsTable}
use Rattle.sfc_flags.proofs.Views.{held, length_of, set_table, set_shows}
use Rattle.sfc_flags.proofs.flags.Flags.set.Goals as goal

pub put-requires : goal.put-requires
put-requires c = omega (arith, length_of c.self.inside.count c.self.inside.words.items, ap length c.self.view_is)

pub invariant_of-self : goal.invariant_of-self
invariant_of-self c =
    let n = c.self.inside.count in
    let v = c.self.inside.words in
    let within : c.args.place < n = omega (arith, length_of n v.items, ap length c.self.view_is) in
    let e : (with_items v c.put.new.words).items ≡ c.put.new.words = with_items_is v c.put.new.words (omega arith) in
    held c.self.invariant (subst (IsTable n) (sym e) (set_table n v.items c.put.new.words c.args.place c.args.value c.self.invariant.table (omega arith) (λ j. rw c.deref_mut.ensures.value at (c.put.ensures.bits j)) within))

pub returns : goal.returns
returns c =
    let n = c.self.inside.count in
    let v = c.self.inside.words in
    let within : c.args.place < n = omega (arith, length_of n v.items, ap length c.self.view_is) in
    let e : (with_items v c.put.new.words).items ≡ c.put.new.words = with_items_is v c.put.new.words (omega arith) in
    ap (flags_of n) e ∙ set_shows n v.items c.put.new.words c.args.place c.args.value c.self.invariant.table (omega arith) (λ j. rw c.deref_mut.ensures.value at (c.put.ensures.bits j)) within ∙ ap (λ f. slice_set f c.args.place c.args.value) c.self.view_is
