use Rattle.std.proofs.Common.{refl, inl, inr}
use Rattle.sfc_control.proofs.controller.Controller.close.Goals as goal

pub returns-in-Some-clause-err : goal.returns-in-Some-clause-err
returns-in-Some-clause-err g c =
    let f = rw c.deref.ensures.value at c.in-Some.ensures in
    inl (f.0, c.in-Some.receipt, f.1, refl, refl)

pub returns-in-Some-miscounted-clause-err : goal.returns-in-Some-miscounted-clause-err
returns-in-Some-miscounted-clause-err g c =
    let a = rw c.deref.ensures.value at c.in_default.ensures in
    let m = rw c.deref-2.ensures.value at c.in-Some-miscounted.ensures in
    inr (a, m, refl)

pub returns-clause-ok : goal.returns-clause-ok
returns-clause-ok g c =
    let a = rw c.deref.ensures.value at c.in_default.ensures in
    let m = rw c.deref-2.ensures.value at c.in-None.ensures in
    (a, m)
