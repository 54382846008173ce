-- More variables of a program type behind others.
use Rattle.std.proofs.Common.{◌≡◌, ℕ, List, [], ◌∷◌, ◌++◌, map, None, refl, sym, ap, ◌∙◌}
use Rattle.std.specs.List.{filter_map}
use Rattle.std.proofs.lemmas.List.{append_assoc, append-nil, map-append}
use Rattle.std.proofs.lemmas.List.Elements.{filter_map-append}
use Rattle.sfc_events.specs.declared.load_error.LoadError.{LoadError}
use Rattle.sfc_variables.specs.declared.own.OwnVariables.{OwnVariables}
use Rattle.sfc_plant.specs.declared.variable.Variable.{Variable}
use Rattle.sfc_variables.specs.Checks.{◌then◌, in_turn, Fails}
use Rattle.sfc_variables.specs.Declarations.{Declared, declared_name, variable_of, global_check}
use Rattle.sfc_variables.specs.Own.{Own, ALocal, own_name, own_check, local_in, external_in, global_id}
use Rattle.sfc_variables.specs.Drafts.{extended, with_declared}
use Rattle.sfc_variables.proofs.Checks as checks

-- where those pass
pub more_checked : (globals : List Variable) (before : List (List ℕ)) (xs ys : List Own)
    → in_turn own_name (own_check globals) before xs ≡ None
    → in_turn own_name (own_check globals) before (xs ++ ys) ≡ in_turn own_name (own_check globals) (before ++ map own_name xs) ys
more_checked globals before xs ys e = checks.more_checked own_name (own_check globals) before xs ys e

-- where they do not
pub more_fails : (f : LoadError) (globals : List Variable) (before : List (List ℕ)) (xs ys : List Own)
    → Fails f (in_turn own_name (own_check globals) before xs) → Fails f (in_turn own_name (own_check globals) before (xs ++ ys))
more_fails f globals before xs ys h = checks.more_fails f own_name (own_check globals) before xs ys h

more_mapped : {A B C : Type 0} (f : B → C) (g : List A → List B) → ((xs ys : List A) → g (xs ++ ys) ≡ g xs ++ g ys) → (start : List C) (xs ys : List A)
    → start ++ map f (g (xs ++ ys)) ≡ (start ++ map f (g xs)) ++ map f (g ys)
more_mapped f g splits start xs ys =
    ap (λ zs. start ++ map f zs) (splits xs ys) ∙ ap (λ zs. start ++ zs) (map-append f (g xs) (g ys))
    ∙ sym (append_assoc start (map f (g xs)) (map f (g ys)))

pub more_extended : (globals : List Variable) (own : OwnVariables) (xs ys : List Own)
    → extended globals own (xs ++ ys) ≡ extended globals (extended globals own xs) ys
more_extended globals own xs ys = λ i. record {
  locals = more_mapped variable_of (filter_map local_in) (filter_map-append local_in) own.locals xs ys i;
  externals = more_mapped (global_id globals) (filter_map external_in) (filter_map-append external_in) own.externals xs ys i;
  names = more_mapped own_name (λ zs. zs) (λ xs ys. refl) own.names xs ys i;
}

-- ---- locals alone

pub more_declared : (own : OwnVariables) (xs ys : List Declared) → with_declared own (xs ++ ys) ≡ with_declared (with_declared own xs) ys
more_declared own xs ys = λ i. record {
  locals = more_mapped variable_of (λ zs. zs) (λ xs ys. refl) own.locals xs ys i;
  externals = own.externals;
  names = more_mapped declared_name (λ zs. zs) (λ xs ys. refl) own.names xs ys i;
}

pub locals_checked : (globals : List Variable) (before : List (List ℕ)) (ds : List Declared)
    → in_turn own_name (own_check globals) before (map ALocal ds) ≡ in_turn declared_name global_check before ds
locals_checked globals before [] = refl
locals_checked globals before (d ∷ ds) = ap (λ c. global_check before d then c) (locals_checked globals (before ++ d.name ∷ []) ds)

only_locals : (ds : List Declared) → filter_map local_in (map ALocal ds) ≡ ds
only_locals [] = refl
only_locals (d ∷ ds) = ap (λ xs. d ∷ xs) (only_locals ds)

no_externals : (ds : List Declared) → filter_map external_in (map ALocal ds) ≡ []
no_externals [] = refl
no_externals (d ∷ ds) = no_externals ds

local_names : (ds : List Declared) → map own_name (map ALocal ds) ≡ map declared_name ds
local_names [] = refl
local_names (d ∷ ds) = ap (λ xs. d.name ∷ xs) (local_names ds)

pub locals_extended : (globals : List Variable) (own : OwnVariables) (ds : List Declared) → extended globals own (map ALocal ds) ≡ with_declared own ds
locals_extended globals own ds = λ i. record {
  locals = own.locals ++ map variable_of (only_locals ds i);
  externals = (ap (λ xs. own.externals ++ map (global_id globals) xs) (no_externals ds) ∙ append-nil own.externals) i;
  names = own.names ++ local_names ds i;
}
