-- Sets of which each place is in both or in neither.
use Rattle.std.proofs.Common.{◌≡◌, ℕ, zero, suc, ◌<◌, Bool, true, false, ◌&&◌, List, length, ◌∙◌, ap, refl, sym, inl, inr, arith}
use Rattle.std.proofs.lemmas.Bool.{and_parts, cases_eq}
use Rattle.std.proofs.lemmas.Bool.Decides.{same_from_decides}
use Rattle.std.proofs.lemmas.List.{ext_get_or}
use Rattle.std.specs.Bool.{beq}
use Rattle.std.specs.Prelude.{◌↔◌}
use Rattle.sfc_flags.specs.Flags.{flag}
use Rattle.sfc_panel.specs.Changes.{are_alike}

both : (x y : Bool) → x ≡ true → y ≡ true → (x && y) ≡ true
both true y e f = f
both false y e f = e

same_beq : (x y : Bool) → x ≡ y → beq x y ≡ true
same_beq true true e = refl
same_beq true false e = sym e
same_beq false true e = e
same_beq false false e = refl

beq_same : (x y : Bool) → beq x y ≡ true → x ≡ y
beq_same true true e = refl
beq_same true false e = sym e
beq_same false true e = e
beq_same false false e = refl

alike_from : (one other : ℕ → Bool) (n : ℕ) → ((s : ℕ) → s < n → one s ≡ other s) → are_alike one other n ≡ true
unfolding are_alike
alike_from one other zero h = refl
alike_from one other (suc n) h = both _ _ (same_beq _ _ (h n (omega arith))) (alike_from one other n (λ s lt. h s (omega arith)))

alike_at : (one other : ℕ → Bool) (n s : ℕ) → are_alike one other n ≡ true → s < n → one s ≡ other s
unfolding are_alike
alike_at one other zero s e lt = absurd (omega arith)
alike_at one other (suc n) s e lt = elim (cases_eq s n) [
  | inl at ↦ rw at (beq_same _ _ (and_parts _ _ e).0)
  | inr apart ↦ alike_at one other n s (and_parts _ _ e).1 (omega arith)
]

pub alike_where : (xs ys : List Bool) (n : ℕ) (one other : ℕ → Bool) (b : Bool) → length xs ≡ n → length ys ≡ n
    → ((s : ℕ) → s < n → flag xs s ≡ one s) → ((s : ℕ) → s < n → flag ys s ≡ other s) → ((b ≡ true) ↔ (xs ≡ ys)) → b ≡ are_alike one other n
alike_where xs ys n one other b ex ey shown told same =
    same_from_decides {P = xs ≡ ys} b (are_alike one other n) (same.0, same.1) (
      λ all. ext_get_or false xs ys (ex ∙ sym ey) (λ s lt. let under : s < n = omega arith in
          shown s under ∙ alike_at one other n s all under ∙ sym (told s under)),
      λ e. alike_from one other n (λ s lt. sym (shown s lt) ∙ ap (λ (zs : List Bool). flag zs s) e ∙ told s lt),
    )

-- ---- three at once

pub first_apart : (b x y z : Bool) → b ≡ x → b ≡ false → b ≡ (x && (y && z))
first_apart b true y z is e = absurd (let bad : true ≡ false = sym is ∙ e in cc)
first_apart b false y z is e = is

pub second_apart : (b x y z : Bool) → x ≡ true → b ≡ y → b ≡ false → b ≡ (x && (y && z))
second_apart b true true z e is f = absurd (let bad : true ≡ false = sym is ∙ f in cc)
second_apart b true false z e is f = is
second_apart b false y z e is f = absurd (let bad : false ≡ true = e in cc)

pub third_left : (b x y z : Bool) → x ≡ true → y ≡ true → b ≡ z → b ≡ (x && (y && z))
third_left b true true z e f is = is
third_left b true false z e f is = absurd (let bad : false ≡ true = f in cc)
third_left b false y z e f is = absurd (let bad : false ≡ true = e in cc)
