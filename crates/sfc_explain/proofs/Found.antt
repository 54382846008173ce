-- What is found passes the test by which it was looked for.
use Rattle.std.proofs.Common.{◌≡◌, List, [], ◌∷◌, Bool, true, false, Option, Some, None, IfSome, sym, subst, refl, find, cond, option_map}

found : {X : Type 0} (p : X → Bool) (xs : List X) → IfSome (find p xs) (λ x. p x ≡ true)
found p [] = tt
found p (x ∷ xs) = by (p x) refl (found p xs)
  where
    by : (b : Bool) → p x ≡ b → IfSome (find p xs) (λ x. p x ≡ true) → IfSome (cond b (Some x) (find p xs)) (λ x. p x ≡ true)
    by true e h = e
    by false e h = h

-- also where what was found is seen by something else of it
pub passes : {X Y : Type 0} (p : X → Bool) (now : Y → X) (xs : List X) (r : Option Y) → option_map now r ≡ find p xs → IfSome r (λ y. p (now y) ≡ true)
passes p now xs None e = tt
passes p now xs (Some y) e = subst (λ o. IfSome o (λ x. p x ≡ true)) (sym e) (found p xs)
