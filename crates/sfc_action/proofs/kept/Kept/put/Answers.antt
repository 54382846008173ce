use Rattle.std.proofs.Common.{arith, subst}
use Rattle.sfc_action.specs.Private.Storing.{IsKept}
use Rattle.std.specs.Prelude.{slice_set}
use Rattle.sfc_action.specs.Private.SetTables.{kept_of}
use Rattle.sfc_action.proofs.RowTables.{table_put}
use Rattle.sfc_action.proofs.SetTables.{kept_size, kept_sized, kept_put}
use Rattle.sfc_action.proofs.kept.Kept.put.Goals as goal

pub index_mut-requires : goal.index_mut-requires
index_mut-requires c =
    let few = kept_size c.self.inside.count c.self.inside.words.items c.args.self.now c.self.invariant c.self.view_is in
    omega (arith, few.0, c.requires.number)

pub invariant_of-self : goal.invariant_of-self
invariant_of-self c =
    let few = kept_size c.self.inside.count c.self.inside.words.items c.args.self.now c.self.invariant c.self.view_is in
    table_put _ _ c.self.inside.count c.self.inside.words.items c.args.number c.args.words c.self.invariant (omega (arith, few.0, c.requires.number))
    (λ a e le. c.requires.past a e (omega (arith, few.1, le)))

pub returns-clause-sized : goal.returns-clause-sized
returns-clause-sized c =
    let few = kept_size c.self.inside.count c.self.inside.words.items c.args.self.now c.self.invariant c.self.view_is in
    let words = slice_set c.self.inside.words.items c.args.number c.args.words in
    subst (λ n. IsKept n (kept_of c.self.inside.count words)) few.1 (kept_sized c.self.inside.count words)

pub returns-clause-put : goal.returns-clause-put
returns-clause-put c a =
    let few = kept_size c.self.inside.count c.self.inside.words.items c.args.self.now c.self.invariant c.self.view_is in
    kept_put c.self.inside.count c.self.inside.words.items c.args.self.now c.args.number c.args.words c.self.invariant c.self.view_is
    (omega (arith, few.0, c.requires.number)) (λ b e le. c.requires.past b e (omega (arith, few.1, le))) a
