-- Elements in turn: what is left, once one more passed and was put last.
use Rattle.std.proofs.Common.{◌≡◌, ℕ, List, [], ◌∷◌, ◌++◌, map, length, refl, None, sym, ap, subst, ◌∙◌, append_assoc}
use Rattle.std.proofs.lemmas.List.{append-nil}
use Rattle.sfc_events.specs.declared.load_error.LoadError.{LoadError}
use Rattle.sfc_variables.specs.Checks.{Check, Fails, each, in_turn}
use Rattle.sfc_variables.proofs.Checks.{passes, fails_first}

-- what is left to check, once a name passed
pub turn_on : (check : List (List ℕ) → List ℕ → Check) (all : Check) (before after xs ys : List (List ℕ)) (name : List ℕ)
    → all ≡ in_turn (λ x. x) check before xs → xs ≡ name ∷ ys → check before name ≡ None → after ≡ before ++ name ∷ []
    → all ≡ in_turn (λ x. x) check after ys
turn_on check all before after xs ys name e at passed added =
    e
    ∙ ap (in_turn (λ x. x) check before) at
    ∙ passes (check before name) (in_turn (λ x. x) check (before ++ name ∷ []) ys) passed
    ∙ ap (λ b. in_turn (λ x. x) check b ys) (sym added)

-- the fault of a name is the first one of all
pub turn_fails : (check : List (List ℕ) → List ℕ → Check) (f : LoadError) (all : Check) (before xs ys : List (List ℕ)) (name : List ℕ)
    → all ≡ in_turn (λ x. x) check before xs → xs ≡ name ∷ ys → Fails f (check before name) → Fails f all
turn_fails check f all before xs ys name e at h =
    subst (Fails f) (sym (e ∙ ap (in_turn (λ x. x) check before) at))
    (fails_first f (check before name) (in_turn (λ x. x) check (before ++ name ∷ []) ys) h)

-- the same of elements that are checked one by one
pub each_on : {A : Type 0} (check : A → Check) (all : Check) (xs ys : List A) (x : A) → all ≡ each check xs → xs ≡ x ∷ ys → check x ≡ None
    → all ≡ each check ys
each_on check all xs ys x e at passed = e ∙ ap (each check) at ∙ passes (check x) (each check ys) passed

pub each_fails : {A : Type 0} (check : A → Check) (f : LoadError) (all : Check) (xs ys : List A) (x : A) → all ≡ each check xs → xs ≡ x ∷ ys
    → Fails f (check x) → Fails f all
each_fails check f all xs ys x e at h = subst (Fails f) (sym (e ∙ ap (each check) at)) (fails_first f (check x) (each check ys) h)

-- what is left to put last, once one more was
pub put_on : {A : Type 0} (all done more xs ys : List A) (x : A) → all ≡ done ++ xs → xs ≡ x ∷ ys → more ≡ done ++ x ∷ []
    → all ≡ more ++ ys
put_on all done more xs ys x e at added =
    e ∙ ap (λ l. done ++ l) at ∙ sym (append_assoc done (x ∷ []) ys) ∙ ap (λ l. l ++ ys) (sym added)

pub built_on : {A B : Type 0} (build : A → B) (all done more : List B) (xs ys : List A) (x : A) → all ≡ done ++ map build xs → xs ≡ x ∷ ys
    → more ≡ done ++ build x ∷ [] → all ≡ more ++ map build ys
built_on build all done more xs ys x e at added = put_on all done more (map build xs) (map build ys) (build x) e (ap (map build) at) added

-- what stands last in two lists
pub put_both : {A : Type 0} (front back whole longer_back longer : List A) (x : A) → whole ≡ front ++ back → longer ≡ whole ++ x ∷ []
    → longer_back ≡ back ++ x ∷ [] → longer ≡ front ++ longer_back
put_both front back whole longer_back longer x e added behind =
    added ∙ ap (λ l. l ++ x ∷ []) e ∙ append_assoc front back (x ∷ []) ∙ ap (λ l. front ++ l) (sym behind)

-- nothing is left
pub none_left : {A : Type 0} (xs : List A) → length xs ≡ 0 → xs ≡ []
none_left [] e = refl
none_left (x ∷ xs) e = cc

pub turn_ends : (check : List (List ℕ) → List ℕ → Check) (all : Check) (before xs : List (List ℕ))
    → all ≡ in_turn (λ x. x) check before xs → xs ≡ [] → all ≡ None
turn_ends check all before xs e at = e ∙ ap (in_turn (λ x. x) check before) at

pub put_ends : {A : Type 0} (all done xs : List A) → all ≡ done ++ xs → xs ≡ [] → done ≡ all
put_ends all done xs e at = sym (e ∙ ap (λ l. done ++ l) at ∙ append-nil done)
