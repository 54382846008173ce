-- Checks one after the other.
use Rattle.std.proofs.Common.{◌≡◌, ℕ, List, [], ◌∷◌, ◌++◌, map, None, Some, refl, sym, ap, subst, ◌∙◌}
use Rattle.std.proofs.lemmas.List.{append_assoc, append-nil, map-append}
use Rattle.sfc_events.specs.declared.load_error.LoadError.{LoadError}
use Rattle.sfc_events.specs.declared.load_error.LoadError.TheVariants as fault
use Rattle.sfc_variables.specs.Checks.{Check, ◌then◌, in_turn}
use Rattle.sfc_variables.specs.Checks.{Fails}

pub passes : (a b : Check) → a ≡ None → (a then b) ≡ b
passes a b e = ap (λ c. c then b) e

pub fails_first : (f : LoadError) (a b : Check) → Fails f a → Fails f (a then b)
fails_first fault.Memory a b h = tt
fails_first f a b h = ap (λ c. c then b) h

then_assoc : (a b c : Check) → ((a then b) then c) ≡ (a then (b then c))
then_assoc None b c = refl
then_assoc (Some f) b c = refl

-- a list in turn, and then another with the names of the first
pub in_turn_append : {A : Type 0} (name : A → List ℕ) (check : List (List ℕ) → A → Check) (before : List (List ℕ)) (xs ys : List A)
    → in_turn name check before (xs ++ ys) ≡ (in_turn name check before xs then in_turn name check (before ++ map name xs) ys)
in_turn_append name check before [] ys = ap (λ b. in_turn name check b ys) (sym (append-nil before))
in_turn_append name check before (x ∷ xs) ys =
    ap (λ c. check before x then c) (in_turn_append name check (before ++ name x ∷ []) xs ys
    ∙ ap (λ b. in_turn name check (before ++ name x ∷ []) xs then in_turn name check b ys) (append_assoc before (name x ∷ []) (map name xs)))
    ∙ sym (then_assoc (check before x) (in_turn name check (before ++ name x ∷ []) xs) (in_turn name check (before ++ map name (x ∷ xs)) ys))

-- where the first list passes
pub more_checked : {A : Type 0} (name : A → List ℕ) (check : List (List ℕ) → A → Check) (before : List (List ℕ)) (xs ys : List A)
    → in_turn name check before xs ≡ None → in_turn name check before (xs ++ ys) ≡ in_turn name check (before ++ map name xs) ys
more_checked name check before xs ys e =
    in_turn_append name check before xs ys ∙ passes (in_turn name check before xs) (in_turn name check (before ++ map name xs) ys) e

-- where it does not
pub more_fails : {A : Type 0} (f : LoadError) (name : A → List ℕ) (check : List (List ℕ) → A → Check) (before : List (List ℕ)) (xs ys : List A)
    → Fails f (in_turn name check before xs) → Fails f (in_turn name check before (xs ++ ys))
more_fails f name check before xs ys h =
    subst (Fails f) (sym (in_turn_append name check before xs ys)) (fails_first f (in_turn name check before xs) _ h)

-- what is built of a list, and then of another
pub more_built : {A B : Type 0} (f : A → B) (start done : List B) (xs ys : List A) → done ≡ start ++ map f xs
    → start ++ map f (xs ++ ys) ≡ done ++ map f ys
more_built f start done xs ys e =
    ap (λ zs. start ++ zs) (map-append f xs ys) ∙ sym (append_assoc start (map f xs) (map f ys)) ∙ ap (λ zs. zs ++ map f ys) (sym e)
