-- Names of which none stands twice, part after part.
use Rattle.std.proofs.Common.{◌≡◌, ℕ, Bool, true, false, ◌||◌, List, [], ◌∷◌, ◌++◌, Some, None, refl, sym, ap, ◌∙◌, subst, append_assoc}
use Rattle.std.proofs.lemmas.List.{append-nil}
use Rattle.std.proofs.lemmas.List.Folds.{list_any-append}
use Rattle.sfc_base.specs.Case.{same_word}
use Rattle.sfc_base.specs.NameLists.{has}
use Rattle.sfc_events.specs.declared.load_error.LoadError.{LoadError}
use Rattle.sfc_variables.specs.Checks.{Check, ◌then◌, Fails}
use Rattle.sfc_variables.proofs.Checks.{passes, fails_first}
use Rattle.sfc_text.specs.Trees.{ElementTree}
use Rattle.sfc_program.specs.Elements.{step_names, action_names, transition_names}
use Rattle.sfc_program.specs.Loading.{name_check, distinct_check, element_names}

second_false : (a b : Bool) → (a || b) ≡ false → b ≡ false
second_false false b e = e
second_false true b e = cc

-- what is in none of two lists is not in the second
pub not_behind : (front back names : List (List ℕ)) (name : List ℕ) → names ≡ front ++ back → has names name ≡ false → has back name ≡ false
not_behind front back names name e h =
    second_false (has front name) (has back name)
    (sym (list_any-append (same_word name) front back) ∙ ap (λ l. has l name) (sym e) ∙ h)

then_then : (a b c : Check) → ((a then b) then c) ≡ (a then (b then c))
then_then None b c = refl
then_then (Some f) b c = refl

pub in_parts : (before a b : List (List ℕ)) → distinct_check before (a ++ b) ≡ (distinct_check before a then distinct_check (before ++ a) b)
in_parts before [] b = ap (λ (l : List (List ℕ)). distinct_check l b) (sym (append-nil before))
in_parts before (x ∷ a) b =
    ap (λ (c : Check). name_check before x then c)
    (in_parts (before ++ x ∷ []) a b
    ∙ ap (λ (l : List (List ℕ)). distinct_check (before ++ x ∷ []) a then distinct_check l b) (append_assoc before (x ∷ []) a))
    ∙ sym (then_then (name_check before x) (distinct_check (before ++ x ∷ []) a) (distinct_check (before ++ x ∷ a) b))

-- where the first part passes
pub part_passes : (before after a b : List (List ℕ)) → distinct_check before a ≡ None → after ≡ before ++ a
    → distinct_check before (a ++ b) ≡ distinct_check after b
part_passes before after a b passed e =
    in_parts before a b
    ∙ passes (distinct_check before a) (distinct_check (before ++ a) b) passed
    ∙ ap (λ (l : List (List ℕ)). distinct_check l b) (sym e)

-- where it does not
pub part_fails : (f : LoadError) (before a b : List (List ℕ)) → Fails f (distinct_check before a) → Fails f (distinct_check before (a ++ b))
part_fails f before a b h =
    subst (Fails f) (sym (in_parts before a b)) (fails_first f (distinct_check before a) (distinct_check (before ++ a) b) h)

-- the steps before the others
pub steps_first : (before : List (List ℕ)) (trees : List ElementTree)
    → distinct_check before (element_names trees)
    ≡ (distinct_check before (step_names trees)
    then distinct_check (before ++ step_names trees) (action_names trees ++ transition_names trees))
steps_first before trees =
    ap (distinct_check before) (append_assoc (step_names trees) (action_names trees) (transition_names trees))
    ∙ in_parts before (step_names trees) (action_names trees ++ transition_names trees)
