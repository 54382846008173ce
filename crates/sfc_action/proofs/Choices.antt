-- Facts on Booleans.
use Rattle.std.proofs.Common.{◌≡◌, Bool, true, false, not, ◌&&◌, ◌||◌, refl}

-- Q now or before, and the edges of P1 and P0
pub executions : (was now p1 p0 : Bool) → (((was || now) || p1) || p0) ≡ (now || (was && not now) || p1 || p0)
executions true true p1 p0 = refl
executions true false p1 p0 = refl
executions false true p1 p0 = refl
executions false false true p0 = refl
executions false false false p0 = refl

-- Q now or before is what executes an action without an edge
pub without_edges : (was now p1 p0 : Bool) → p1 ≡ false → p0 ≡ false → (now || (was && not now) || p1 || p0) ≡ (now || was)
without_edges was true p1 p0 e f = refl
without_edges true false p1 p0 e f = refl
without_edges false false true p0 e f = absurd cc
without_edges false false false p0 e f = f

pub never : (b : Bool) → (b && false) ≡ false
never true = refl
never false = refl

pub left_true : (x y : Bool) → (x && y) ≡ true → x ≡ true
left_true true y e = refl
left_true false y e = e

pub right_true : (x y : Bool) → (x && y) ≡ true → y ≡ true
right_true true y e = e
right_true false y e = absurd (let bad : false ≡ true = e in cc)
