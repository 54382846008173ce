-- A name as it was declared finds what it was declared for.
use Rattle.std.proofs.Common.{◌≡◌, ℕ, List, [], Bool, true, Option, Some, None, slice_get, unwrap_or, position, refl, sym, ap, ◌∙◌}
use Rattle.std.specs.Option.{option_map}
use Rattle.std.proofs.lemmas.List.Quantifiers.{position-Some}
use Rattle.sfc_base.specs.Case.{same_word}
use Rattle.sfc_base.specs.declared.var_type.VarType.{VarType}
use Rattle.sfc_base.proofs.SameWords.{same_word_equiv}
use Rattle.sfc_base.specs.NameLists.{place_of}
use Rattle.sfc_base.specs.declared.references.StepId.{StepId}
use Rattle.sfc_base.specs.declared.references.Variable as expr
use Rattle.sfc_base.specs.declared.references.Variable.TheVariants.{Global, Local}
use Rattle.sfc_plant.specs.declared.variable.Variable.{Variable}
use Rattle.sfc_plant.specs.VariableNames.{names_of, with_type, typed_at, or_else, variable_place, global_named, local_named, variable_named}
use Rattle.sfc_plant.specs.Spaces.{Space}
use Rattle.sfc_load.specs.sfc_program.Names.{is_name_of, names_in}
use Rattle.sfc_plant.specs.Names.{name_at, variable_name}
use Rattle.sfc_read_back.proofs.WrittenExpressions.{Spells}

-- ---- words that are one but for case

pub alike : (one other : List ℕ) → same_word one other ≡ true → same_word one ≡ same_word other
alike one other same = λ i word. same_word_equiv.congr one other word same i

pub turned : (one other : List ℕ) → same_word one other ≡ true → same_word other one ≡ true
turned one other same = same_word_equiv.symm other one ∙ same

-- the name at the place where a name was found is that name
pub spelled_at : (name : List ℕ) (names : List (List ℕ)) (i : ℕ) → place_of name names ≡ Some i → same_word (name_at names i) name ≡ true
spelled_at name names i e = turned name (name_at names i) (position-Some (same_word name) names i [] e).1

-- and it is found there too
pub place_again : (name : List ℕ) (names : List (List ℕ)) (i : ℕ) → place_of name names ≡ Some i → place_of (name_at names i) names ≡ Some i
place_again name names i e =
    ap (λ (p : List ℕ → Bool). position p names) (alike (name_at names i) name (spelled_at name names i e)) ∙ e

-- ---- variables

-- what is found among variables has the name by which it was found
module _ (named : expr.Variable → List ℕ) (id : ℕ → expr.Variable) (vs : List Variable)
    (says : (i : ℕ) → named (id i) ≡ name_at (names_of vs) i) where
  there : (name : List ℕ) (i : ℕ) (at : Option Variable) (v : expr.Variable × VarType) → place_of name (names_of vs) ≡ Some i
      → with_type id i at ≡ Some v → same_word (named v.0) name ≡ true
  there name i (Some w) v is e =
      let same : id i ≡ v.0 = cc in
      ap (λ x. same_word (named x) name) (sym same) ∙ ap (λ x. same_word x name) (says i) ∙ spelled_at name (names_of vs) i is
  there name i None v is e = cc

  among : (name : List ℕ) (place : Option ℕ) (v : expr.Variable × VarType) → variable_place vs name ≡ place
      → typed_at id vs place ≡ Some v → same_word (named v.0) name ≡ true
  among name (Some i) v is e = there name i (slice_get vs i) v is e
  among name None v is e = cc

either : (P : expr.Variable → Type 0) (a b : Option (expr.Variable × VarType))
    → ((v : expr.Variable × VarType) → a ≡ Some v → P v.0) → ((v : expr.Variable × VarType) → b ≡ Some v → P v.0)
    → (v : expr.Variable × VarType) → or_else a b ≡ Some v → P v.0
either P (Some w) b first second v e = first v e
either P None b first second v e = second v e

pub variable_spelled : (space : Space) (name : List ℕ) (v : expr.Variable × VarType)
    → variable_named space.locals space.globals name ≡ Some v → same_word (variable_name space v.0) name ≡ true
variable_spelled space name =
    either (λ v. same_word (variable_name space v) name ≡ true) (local_named space.locals name) (global_named space.globals name)
    (λ v e. among (variable_name space) (λ place. Local (record { 0 = place })) space.locals (λ i. refl) name
    (variable_place space.locals name) v refl e)
    (λ v e. among (variable_name space) (λ place. Global (record { 0 = place })) space.globals (λ i. refl) name
    (variable_place space.globals name) v refl e)

-- ---- the names of a program type

abbrev step_at : ℕ → StepId
step_at i = record { 0 = i }

step_spelled : (steps : List (List ℕ)) (name : List ℕ) (place : Option ℕ) (s : StepId) → place_of name steps ≡ place
    → option_map step_at place ≡ Some s → same_word (name_at steps s.0) name ≡ true
step_spelled steps name (Some i) s is e =
    let same : i ≡ s.0 = cc in
    ap (λ k. same_word (name_at steps k) name) (sym same) ∙ spelled_at name steps i is
step_spelled steps name None s is e = cc

own_spelled : (own : Option (List ℕ)) (name : List ℕ) → is_name_of own name ≡ true → same_word (unwrap_or own []) name ≡ true
own_spelled (Some own) name e = e
own_spelled None name e = cc

-- what names stand for in the body of an action, or in a condition
pub spells : (space : Space) (own : Option (List ℕ)) → Spells (names_in space own) space (unwrap_or own [])
spells space own = record {
  variable = variable_spelled space;
  step = λ name s e. step_spelled space.steps name (place_of name space.steps) s refl e;
  action = own_spelled own;
}
