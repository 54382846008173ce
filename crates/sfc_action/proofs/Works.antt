-- What a scan handles in all.
use Rattle.std.proofs.Common.{◌≡◌, ℕ, suc, ◌+◌, ◌≤◌, ◌==◌, Bool, true, false, cond, List, [], ◌∷◌, length, arith}
use Rattle.std.specs.Prelude.{nat_le, All}
use Rattle.std.proofs.lemmas.Bool.Decides.{nat_tests}
use Rattle.std.proofs.lemmas.List.Elements.{All-filter}
use Rattle.sfc_tables.specs.declared.step_action.StepAction.{StepAction}
use Rattle.sfc_tables.specs.Tables.{Tabled, AreTables}
use Rattle.sfc_action.specs.Private.Marking.{of_step, left, IsWithin}

one_left : (k at s : ℕ) → at ≤ s → cond (k == s) 1 0 + cond (nat_le (suc s) k) 1 0 ≤ cond (nat_le at k) 1 0
one_left k at s le = grind (arith, nat_tests)

length_cond : (b : Bool) (x : StepAction) (xs : List StepAction) → length (cond b (x ∷ xs) xs) ≡ cond b 1 0 + length xs
length_cond true x xs = omega arith
length_cond false x xs = omega arith

pub work_left : (xs : List StepAction) (at s : ℕ) → at ≤ s → length (of_step xs s) + left xs (suc s) ≤ left xs at
unfolding left
work_left [] at s le = omega arith
work_left (x ∷ xs) at s le =
    omega (arith, work_left xs at s le, one_left x.step.0 at s le, length_cond (x.step.0 == s) x (of_step xs s))

-- of later steps there are no more
pub left_less : (xs : List StepAction) (at to : ℕ) → at ≤ to → left xs to ≤ left xs at
unfolding left
left_less [] at to le = omega arith
left_less (x ∷ xs) at to le = omega (arith, left_less xs at to le, one_less x.step.0 at to le)
  where
    one_less : (k at to : ℕ) → at ≤ to → cond (nat_le to k) 1 0 ≤ cond (nat_le at k) 1 0
    one_less k at to le = grind (arith, nat_tests)

pub all_left : (xs : List StepAction) → left xs 0 ≤ length xs
unfolding left
all_left [] = omega arith
all_left (x ∷ xs) = omega (arith, all_left xs, at_most_one (nat_le 0 x.step.0))
  where
    at_most_one : (b : Bool) → cond b 1 0 ≤ 1
    at_most_one true = omega arith
    at_most_one false = omega arith

-- the associations of tables are within them
pub within : (tables : Tabled) → AreTables tables → (n m : ℕ) → n ≡ length tables.actions → m ≡ length tables.associations
    → All (IsWithin n m) tables.associations
within tables sound n m en em = λ k d lt. record {
  action = omega (arith, (sound.associations k d lt).action);
  number = omega (arith, sound.numbers k d lt);
}

pub step_within : (tables : Tabled) → AreTables tables → (n m : ℕ) → n ≡ length tables.actions
    → m ≡ length tables.associations → (s : ℕ) → (xs : List StepAction) → xs ≡ of_step tables.associations s
    → All (IsWithin n m) xs
step_within tables sound n m en em s xs is =
    rw is (All-filter (λ x. x.step.0 == s) (IsWithin n m) tables.associations (within tables sound n m en em))
