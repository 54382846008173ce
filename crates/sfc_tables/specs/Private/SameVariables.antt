-- Whether two variables are one is an equivalence.
use Rattle.std.proofs.Common.{◌≡◌, true, refl, ap, IsTrue}
use Rattle.std.proofs.lemmas.Bool.{eqb-true}
use Rattle.std.specs.Hash as fed
use Rattle.std.specs.Cmp.{IsPartialEquivalence, IsEquivalence, partial_equiv_from_equiv, nat_eq_equiv}
use Rattle.sfc_base.specs.declared.references.Variable.{Variable}
use Rattle.sfc_base.specs.declared.references.Variable.TheVariants.{Global, Local}
use Rattle.sfc_tables.specs.Actions.{same_variable}
use Rattle.sfc_tables.specs.Private.Hashing.{hashed}

same_itself : (v : Variable) → same_variable v v ≡ true
same_itself (Global a) = nat_eq_equiv.refl a.0
same_itself (Local a) = nat_eq_equiv.refl a.0

pub same_swap : (v w : Variable) → same_variable v w ≡ same_variable w v
same_swap (Global a) (Global b) = nat_eq_equiv.symm a.0 b.0
same_swap (Global a) (Local b) = refl
same_swap (Local a) (Global b) = refl
same_swap (Local a) (Local b) = nat_eq_equiv.symm a.0 b.0

-- two that are one are told alike from a third
pub same_along : (v w u : Variable) → same_variable v w ≡ true → same_variable v u ≡ same_variable w u
same_along (Global a) (Global b) (Global c) e = nat_eq_equiv.congr a.0 b.0 c.0 e
same_along (Global a) (Global b) (Local c) e = refl
same_along (Global a) (Local b) u e = absurd cc
same_along (Local a) (Global b) u e = absurd cc
same_along (Local a) (Local b) (Global c) e = refl
same_along (Local a) (Local b) (Local c) e = nat_eq_equiv.congr a.0 b.0 c.0 e

pub same_variable_equiv : IsEquivalence same_variable
same_variable_equiv = record { refl = same_itself; symm = same_swap; congr = same_along }

pub same_variable_partial_equiv : IsPartialEquivalence same_variable
same_variable_partial_equiv = partial_equiv_from_equiv same_variable_equiv

same_hashed : (v w : Variable) → same_variable v w ≡ true → hashed v ≡ hashed w
same_hashed (Global a) (Global b) e = eqb-true a.0 b.0 e
same_hashed (Global a) (Local b) e = absurd cc
same_hashed (Local a) (Global b) e = absurd cc
same_hashed (Local a) (Local b) e = eqb-true a.0 b.0 e

-- what a hash is fed
pub same_variable_input : (v w : Variable) → IsTrue (same_variable v w) → fed.usize (hashed v) ≡ fed.usize (hashed w)
same_variable_input v w e = ap fed.usize (same_hashed v w e)
