-- Names among more names.
use Rattle.std.proofs.Common.{◌≡◌, ℕ, Bool, true, false, not, ◌||◌, List, [], ◌∷◌, ◌++◌, refl, sym, ap, ◌∙◌, subst, if◌then◌else◌}
use Rattle.std.proofs.lemmas.List.{map-append}
use Rattle.std.proofs.lemmas.List.Folds.{list_any-append}
use Rattle.sfc_base.specs.Case.{same_word}
use Rattle.sfc_base.specs.NameLists.{has}
use Rattle.sfc_plant.specs.declared.variable.Variable.{Variable}
use Rattle.sfc_plant.specs.VariableNames.{names_of}
use Rattle.sfc_variables.specs.Drafts.{AreWithin}

neither : (a b : Bool) → (a || b) ≡ false → (a ≡ false) × (b ≡ false)
neither false false e = (refl, refl)
neither false true e = absurd cc
neither true b e = absurd cc

apart : (names more : List (List ℕ)) (n : List ℕ) → has (names ++ more) n ≡ false → (has names n ≡ false) × (has more n ≡ false)
apart names more n e = neither (has names n) (has more n) (sym (list_any-append (same_word n) names more) ∙ e)

joined : (names more : List (List ℕ)) (n : List ℕ) → has names n ≡ false → has more n ≡ false → has (names ++ more) n ≡ false
joined names more n p q = list_any-append (same_word n) names more ∙ (λ i. p i || q i)

pub within_more : (those these : List (List ℕ)) (name : List ℕ) → AreWithin those these → AreWithin those (these ++ name ∷ [])
within_more those these name h = λ n e. h n (apart these (name ∷ []) n e).0

pub within_both : (those these : List (List ℕ)) (name : List ℕ) → AreWithin those these → AreWithin (those ++ name ∷ []) (these ++ name ∷ [])
within_both those these name h = λ n e.
    let parts = apart these (name ∷ []) n e in
    joined those (name ∷ []) n (h n parts.0) parts.1

-- a name that was added
added_name : (names : List (List ℕ)) (name : List ℕ) (added : Bool) (new : List (List ℕ)) → has names name ≡ false → added ≡ not (has names name)
    → new ≡ (if added then names ++ name ∷ [] else names) → new ≡ names ++ name ∷ []
added_name names name added new h a e = e ∙ ap (λ b. if b then names ++ name ∷ [] else names) (a ∙ ap not h)

-- the names of the locals with one more
pub more_names : (locals : List Variable) (v : Variable) → names_of (locals ++ v ∷ []) ≡ names_of locals ++ v.name ∷ []
more_names locals v = map-append (λ v. v.name) locals (v ∷ [])

pub more_table : (locals : List Variable) (names table new : List (List ℕ)) (v : Variable) (added : Bool) → table ≡ names_of locals → AreWithin (names_of locals) names
    → has names v.name ≡ false → added ≡ not (has table v.name) → new ≡ (if added then table ++ v.name ∷ [] else table) → new ≡ names_of (locals ++ v ∷ [])
more_table locals names table new v added t h e a n =
    added_name table v.name added new (ap (λ x. has x v.name) t ∙ h v.name e) a n ∙ ap (λ x. x ++ v.name ∷ []) t ∙ sym (more_names locals v)

pub more_within : (locals : List Variable) (names : List (List ℕ)) (v : Variable) → AreWithin (names_of locals) names
    → AreWithin (names_of (locals ++ v ∷ [])) (names ++ v.name ∷ [])
more_within locals names v h = subst (λ x. AreWithin x (names ++ v.name ∷ [])) (sym (more_names locals v)) (within_both (names_of locals) names v.name h)
