-- What a listing spells of variables declares those variables again.
use Rattle.std.proofs.Common.{◌≡◌, not, List, [], ◌∷◌, map, All, Option, None, Some, Ok, Err, IfOk, refl, ap, ◌∙◌}
use Rattle.std.proofs.lemmas.List.Elements.{All-map, All-weaker}
use Rattle.sfc_base.specs.declared.var_type.VarType.{VarType}
use Rattle.sfc_base.specs.declared.var_type.VarType.TheVariants as types
use Rattle.sfc_text.specs.declared.tree.Declaration.{Declaration}
use Rattle.sfc_text.specs.declared.tree.Literal.{Literal}
use Rattle.sfc_base.specs.declared.value.Value.{Value}
use Rattle.sfc_base.specs.Values.{default_value}
use Rattle.sfc_load.specs.sfc_check.TypeFaults.{Checked}
use Rattle.sfc_load.specs.sfc_check.Checking.{checked_literal}
use Rattle.sfc_base.specs.NameLists.{has}
use Rattle.sfc_events.specs.declared.load_error.LoadError.TheVariants as fault
use Rattle.sfc_plant.specs.declared.variable.Variable.{Variable}
use Rattle.sfc_load.specs.sfc_variables.Checks.{◌then◌, when, in_turn, typed, checked_or}
use Rattle.sfc_load.specs.sfc_variables.Locations.{fits_location}
use Rattle.sfc_load.specs.sfc_variables.Declarations.{Declared, declared_in, declared_check, declared_name, initial_check, initial_value, variable_of, globals_check, globals_of}
use Rattle.sfc_load.specs.sfc_program.Loading.{distinct_check}
use Rattle.sfc_load.proofs.of_sfc_program.Soundness.{then_first, then_second}
use Rattle.std.proofs.lemmas.Simd.{map-map}
use Rattle.sfc_read_back.specs.WrittenTerms.{literal_tree}
use Rattle.sfc_read_back.specs.WrittenVariables.{declaration_tree}
use Rattle.sfc_read_back.proofs.WrittenExpressions.{IsLiteralOf, literal_back}
use Rattle.sfc_read_back.proofs.WrittenLists.{both_pass, kept_again, names_pass, kinds_pass, named_pass}

-- ---- one variable

-- what holds of what was checked, where it passed
pub held : {A : Type 0} (P : A → Type 0) (other : A) (r : Checked A) → IfOk r P → typed r ≡ None → P (checked_or other r)
held P other (Ok x) h e = h
held P other (Err f) h e = cc

default_back : (t : VarType) → IsLiteralOf t (default_value t)
default_back types.Bool = record { checks = refl; natural = refl }
default_back types.Int = record { checks = refl; natural = refl }
default_back types.Dint = record { checks = refl; natural = refl }
default_back types.Time = record { checks = refl; natural = refl }

initial_back : (t : VarType) (initial : Option Literal) → initial_check t initial ≡ None → IsLiteralOf t (initial_value t initial)
initial_back t None e = default_back t
initial_back t (Some l) e = held (IsLiteralOf t) (default_value t) (checked_literal l t) (literal_back l t) e

-- the name that is spelled of a variable, with what its declaration says
abbrev pub declared_again : Variable → Declared
declared_again v = record { name = v.name; location = v.location; var_type = v.var_type; initial = Some (literal_tree v.initial) }

-- it passes, and declares that variable
pub record IsDeclaredAgain (v : Variable) : Type 0 where
  pub checks : declared_check (declared_again v) ≡ None
  pub built : variable_of (declared_again v) ≡ v

pub variable_back : (d : Declared) → declared_check d ≡ None → IsDeclaredAgain (variable_of d)
variable_back d e =
    let lies = when (not (fits_location d.var_type d.location)) fault.WrongType in
    let b = initial_back d.var_type d.initial (then_second lies (initial_check d.var_type d.initial) e) in
    record {
      checks = both_pass lies (initial_check d.var_type (Some (literal_tree (initial_value d.var_type d.initial))))
          (then_first lies (initial_check d.var_type d.initial) e) (ap typed b.checks);
      built = ap (λ (x : Value). let v : Variable =
          record { name = d.name; var_type = d.var_type; location = d.location; initial = x } in v)
          (ap (checked_or (default_value d.var_type)) b.checks);
    }

pub all_back : (ds : List Declared) → All (λ d. declared_check d ≡ None) ds → All IsDeclaredAgain (map variable_of ds)
all_back ds h =
    All-map IsDeclaredAgain variable_of ds
    (All-weaker (λ d. declared_check d ≡ None) (λ d. IsDeclaredAgain (variable_of d)) variable_back ds h)

pub declared_trees : (vs : List Variable) → declared_in (map declaration_tree vs) ≡ map declared_again vs
declared_trees [] = refl
declared_trees (v ∷ vs) = ap (λ ds. declared_again v ∷ ds) (declared_trees vs)

pub built_again : (vs : List Variable) → All IsDeclaredAgain vs → map variable_of (map declared_again vs) ≡ vs
built_again vs h =
    kept_again declared_again variable_of vs
    (All-weaker IsDeclaredAgain (λ v. variable_of (declared_again v) ≡ v) (λ v b. b.built) vs h)

pub checked_again : (vs : List Variable) → All IsDeclaredAgain vs → All (λ d. declared_check d ≡ None) (map declared_again vs)
checked_again vs h =
    All-map (λ d. declared_check d ≡ None) declared_again vs
    (All-weaker IsDeclaredAgain (λ v. declared_check (declared_again v) ≡ None) (λ v b. b.checks) vs h)

-- ---- the global variables

pub globals_back : (ds : List Declaration) → globals_check ds ≡ None → globals_of (map declaration_tree (globals_of ds)) ≡ globals_of ds
unfolding globals_check
globals_back ds e =
    let h = all_back (declared_in ds) (kinds_pass declared_name declared_check [] (declared_in ds) e) in
    ap (map variable_of) (declared_trees (globals_of ds)) ∙ built_again (globals_of ds) h

pub globals_pass : (ds : List Declaration) → globals_check ds ≡ None → globals_check (map declaration_tree (globals_of ds)) ≡ None
unfolding globals_check
globals_pass ds e =
    let vs = globals_of ds in
    let h = all_back (declared_in ds) (kinds_pass declared_name declared_check [] (declared_in ds) e) in
    let names : map declared_name (map declared_again vs) ≡ map declared_name (declared_in ds) =
    map-map declared_name declared_again vs ∙ map-map (λ v. v.name) variable_of (declared_in ds) in
    ap (in_turn declared_name (λ before d. when (has before d.name) fault.Duplicate then declared_check d) []) (declared_trees vs)
    ∙ named_pass declared_name declared_check [] (map declared_again vs)
    (ap (distinct_check []) names ∙ names_pass declared_name declared_check [] (declared_in ds) e) (checked_again vs h)
