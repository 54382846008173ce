-- The numbers of variables: which variable has which, and that two have two.
use Rattle.std.proofs.Common.{◌≡◌, ℕ, ◌+◌, ◌<◌, ◌≤◌, nat_lt, cond, arith, Bool, true, false, Option, Some, None, refl, sym, ◌∙◌, ap}
use Rattle.std.proofs.lemmas.Bool.Decides.{nat_tests}
use Rattle.sfc_base.specs.declared.references.Variable.{Variable}
use Rattle.sfc_base.specs.declared.references.Variable.TheVariants.{Global, Local}
use Rattle.sfc_expr.specs.Environment.{is_same}
use Rattle.sfc_image.specs.Environments.{number_among}
use Rattle.sfc_image.proofs.Counting.{same_number, equal_numbers}

-- where a variable is, its place is below the number of its kind
pub below_some : (a m n i : ℕ) → cond (nat_lt a m) (Some n) None ≡ Some i → (a < m) × (n ≡ i)
below_some a m n i e = by_test (nat_lt a m) (λ t. grind (arith, nat_tests)) e where
  some_same : Some n ≡ Some i → n ≡ i
  some_same f = cc

  by_test : (b : Bool) → (b ≡ true → a < m) → cond b (Some n) None ≡ Some i → (a < m) × (n ≡ i)
  by_test true lt f = (lt refl, some_same f)
  by_test false lt f = absurd cc

-- what holds of each number below n, and where there is none, holds of the number of each variable
pub of_number : (P : Option ℕ → Type 0) (n globals first locals : ℕ) → globals ≤ n → first + locals ≤ n
    → ((i : ℕ) → i < n → P (Some i)) → P None → (v : Variable) → P (number_among globals first locals v)
of_number P n globals first locals le within some none (Global id) = by_test (nat_lt id.0 globals) (λ e. grind (arith, nat_tests)) where
  by_test : (b : Bool) → (b ≡ true → id.0 < globals) → P (cond b (Some id.0) None)
  by_test true lt = let here : id.0 < globals = lt refl in some id.0 (omega (arith, here, le))
  by_test false lt = none
of_number P n globals first locals le within some none (Local id) = by_test (nat_lt id.0 locals) (λ e. grind (arith, nat_tests)) where
  by_test : (b : Bool) → (b ≡ true → id.0 < locals) → P (cond b (Some (first + id.0)) None)
  by_test true lt = let here : id.0 < locals = lt refl in some (first + id.0) (omega (arith, here, within))
  by_test false lt = none

-- ---- two variables that are there have two numbers

pub one_variable : (globals first locals i : ℕ) → globals ≤ first → (v w : Variable)
    → number_among globals first locals v ≡ Some i → number_among globals first locals w ≡ Some i → v ≡ w
one_variable globals first locals i le (Global a) (Global b) e f =
    let x = below_some a.0 globals a.0 i e in
    let y = below_some b.0 globals b.0 i f in
    ap (λ (n : ℕ). Global (record { 0 = n })) (x.1 ∙ sym y.1)
one_variable globals first locals i le (Local a) (Local b) e f =
    let x = below_some a.0 locals (first + a.0) i e in
    let y = below_some b.0 locals (first + b.0) i f in
    let same : a.0 ≡ b.0 = omega (arith, x.1, y.1) in
    ap (λ (n : ℕ). Local (record { 0 = n })) same
one_variable globals first locals i le (Global a) (Local b) e f =
    let x = below_some a.0 globals a.0 i e in
    let y = below_some b.0 locals (first + b.0) i f in
    absurd (omega (arith, x.0, x.1, y.1, le))
one_variable globals first locals i le (Local a) (Global b) e f =
    let x = below_some a.0 locals (first + a.0) i e in
    let y = below_some b.0 globals b.0 i f in
    absurd (omega (arith, y.0, y.1, x.1, le))

pub same_itself : (v : Variable) → is_same v v ≡ true
same_itself (Global g) = same_number g.0
same_itself (Local l) = same_number l.0

pub same_variable : (v w : Variable) → is_same v w ≡ true → v ≡ w
same_variable (Global g) (Global h) e = ap (λ (n : ℕ). Global (record { 0 = n })) (equal_numbers g.0 h.0 e)
same_variable (Local l) (Local m) e = ap (λ (n : ℕ). Local (record { 0 = n })) (equal_numbers l.0 m.0 e)
same_variable (Global g) (Local m) e = absurd cc
same_variable (Local l) (Global h) e = absurd cc
