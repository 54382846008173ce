-- What a listing spells of a program type's variables declares them again: the locals, and then the globals that it names.
use Rattle.std.proofs.Common.{◌≡◌, ℕ, Bool, true, false, not, ◌||◌, List, [], ◌∷◌, ◌++◌, map, filter_map, All, Option, None, Some, slice_get, unwrap_or, refl, sym, ap, ◌∙◌}
use Rattle.std.proofs.lemmas.List.{append-nil, map-append}
use Rattle.std.proofs.lemmas.Grind.{flat_map-append}
use Rattle.std.proofs.lemmas.List.Elements.{All-nil, All-cons, All-head, All-tail, All-map, All-append, All-weaker, filter_map-append}
use Rattle.sfc_base.specs.Case.{same_word}
use Rattle.sfc_base.proofs.SameWords.{same_word_equiv}
use Rattle.sfc_base.specs.declared.var_type.VarType.{VarType}
use Rattle.sfc_base.specs.declared.var_type.VarType.TheVariants as types
use Rattle.sfc_text.specs.declared.tree.VariableBlock.{VariableBlock}
use Rattle.sfc_text.specs.declared.tree.VariableBlock.TheVariants as block
use Rattle.sfc_base.specs.declared.references.GlobalId.{GlobalId}
use Rattle.sfc_base.specs.declared.references.Variable.TheVariants.{Global}
use Rattle.sfc_base.specs.Values.{is_same_type}
use Rattle.sfc_base.specs.NameLists.{has}
use Rattle.sfc_events.specs.declared.load_error.LoadError.TheVariants as fault
use Rattle.sfc_plant.specs.declared.variable.Variable.{Variable}
use Rattle.sfc_load.specs.sfc_variables.Checks.{Check, ◌then◌, when, in_turn}
use Rattle.sfc_load.specs.sfc_variables.Declarations.{Declared, declared_check, declared_name, variable_of}
use Rattle.sfc_plant.specs.VariableNames.{names_of, variable_place, typed_at}
use Rattle.sfc_load.specs.sfc_variables.Own.{Own, ALocal, AnExternal, own_by, own_in, own_name, own_names, external_check, kind_check, own_check, variables_check, local_in, external_in, locals_of, externals_of, global_id}
use Rattle.sfc_load.specs.sfc_program.Loading.{name_check, distinct_check}
use Rattle.sfc_load.proofs.of_sfc_program.Soundness.{then_first, then_second, when_none}
use Rattle.std.proofs.lemmas.Simd.{map-map}
use Rattle.sfc_plant.specs.Names.{name_at}
use Rattle.sfc_read_back.specs.WrittenVariables.{declaration_tree, type_of_global, external_tree, block_tree, variable_trees}
use Rattle.sfc_read_back.proofs.WrittenNames.{turned, spelled_at, place_again}
use Rattle.sfc_read_back.proofs.WrittenLists.{both_pass, kept_again, AreSame, AreAlike, same_refl, same_more, same_alike, has_both, distinct_same, names_pass, kinds_pass, named_pass}
use Rattle.sfc_read_back.proofs.WrittenVariables.{declared_again, IsDeclaredAgain, all_back, declared_trees, built_again, checked_again}

-- ---- the externals

same_type : (t : VarType) → is_same_type t t ≡ true
same_type types.Bool = refl
same_type types.Int = refl
same_type types.Dint = refl
same_type types.Time = refl

-- the name that is spelled of a global, with its type
abbrev pub external_again : List Variable → GlobalId → Own
external_again globals id = AnExternal (name_at (names_of globals) id.0) (type_of_global (slice_get globals id.0))

-- it is that global again
pub record IsNamedAgain (globals : List Variable) (id : GlobalId) : Type 0 where
  pub checks : kind_check globals (external_again globals id) ≡ None
  pub built : global_id globals (name_at (names_of globals) id.0) ≡ id

abbrev global_at : ℕ → GlobalId
global_at i = record { 0 = i }

abbrev type_check : List Variable → Option ℕ → VarType → Check
type_check globals place t = external_check (typed_at (λ i. Global (global_at i)) globals place) t

there : (globals : List Variable) (i : ℕ) (at : Option Variable) (t : VarType) → slice_get globals i ≡ at
    → type_check globals (Some i) t ≡ None → type_check globals (Some i) (type_of_global at) ≡ None
there globals i (Some v) t is e = rw is (ap (λ b. when (not b) fault.WrongType) (same_type v.var_type))
there globals i None t is e = let h : Some fault.Unknown ≡ None = rw is at e in cc

named_at : (globals : List Variable) (name : List ℕ) (t : VarType) (place : Option ℕ) → variable_place globals name ≡ place
    → type_check globals place t ≡ None → IsNamedAgain globals (global_at (unwrap_or place 0))
named_at globals name t (Some i) is e =
    let again : variable_place globals (name_at (names_of globals) i) ≡ Some i = place_again name (names_of globals) i is in
    record {
      checks = ap (λ p. type_check globals p (type_of_global (slice_get globals i))) again ∙ there globals i (slice_get globals i) t refl e;
      built = ap (λ p. global_at (unwrap_or p 0)) again;
    }
named_at globals name t None is e = cc

pub external_back : (globals : List Variable) (name : List ℕ) (t : VarType) → kind_check globals (AnExternal name t) ≡ None
    → IsNamedAgain globals (global_id globals name)
external_back globals name t e = named_at globals name t (variable_place globals name) refl e

same_at : (globals : List Variable) (name : List ℕ) (t : VarType) (place : Option ℕ) → variable_place globals name ≡ place
    → type_check globals place t ≡ None → same_word name (name_at (names_of globals) (unwrap_or place 0)) ≡ true
same_at globals name t (Some i) is e = turned (name_at (names_of globals) i) name (spelled_at name (names_of globals) i is)
same_at globals name t None is e = cc

-- ---- the variables of a program type: locals and externals apart

abbrev parted : List Own → List (List ℕ)
parted xs = map declared_name (filter_map local_in xs) ++ filter_map external_in xs

neither : (a b : Bool) → (a || b) ≡ false → (a ≡ false) × (b ≡ false)
neither false b e = (refl, e)
neither true b e = cc

last_two : (a b c : Bool) → ((a || (b || false)) || (c || false)) ≡ ((a || (c || false)) || (b || false))
last_two true b c = refl
last_two false true true = refl
last_two false true false = refl
last_two false false true = refl
last_two false false false = refl

first_two : (a b c : Bool) → (a || (b || c)) ≡ (b || (a || c))
first_two true true c = refl
first_two true false c = refl
first_two false true c = refl
first_two false false c = refl

swapped_alike : (before : List (List ℕ)) (x y : List ℕ) → AreAlike ((before ++ x ∷ []) ++ y ∷ []) ((before ++ y ∷ []) ++ x ∷ [])
swapped_alike before x y = λ name.
    has_both (before ++ x ∷ []) (y ∷ []) name ∙ ap (λ b. b || has (y ∷ []) name) (has_both before (x ∷ []) name)
    ∙ last_two (has before name) (same_word name x) (same_word name y)
    ∙ sym (has_both (before ++ y ∷ []) (x ∷ []) name ∙ ap (λ b. b || has (x ∷ []) name) (has_both before (y ∷ []) name))

swapped : (before : List (List ℕ)) (x y : List ℕ) (names : List (List ℕ)) → distinct_check before (x ∷ y ∷ names) ≡ None
    → distinct_check before (y ∷ x ∷ names) ≡ None
swapped before x y names e =
    let rest = distinct_check ((before ++ x ∷ []) ++ y ∷ []) names in
    let behind = name_check (before ++ x ∷ []) y then rest in
    let after = then_second (name_check before x) behind e in
    let no_x : has before x ≡ false = when_none (has before x) fault.Duplicate (then_first (name_check before x) behind e) in
    let no_y : has (before ++ x ∷ []) y ≡ false =
    when_none (has (before ++ x ∷ []) y) fault.Duplicate (then_first (name_check (before ++ x ∷ []) y) rest after) in
    let parts = neither (has before y) (has (x ∷ []) y) (sym (has_both before (x ∷ []) y) ∙ no_y) in
    let turned_round : has (y ∷ []) x ≡ false = ap (λ b. b || false) (same_word_equiv.symm x y) ∙ parts.1 in
    let new_x : has (before ++ y ∷ []) x ≡ false = has_both before (y ∷ []) x ∙ (λ i. no_x i || turned_round i) in
    both_pass (name_check before y) (name_check (before ++ y ∷ []) x then distinct_check ((before ++ y ∷ []) ++ x ∷ []) names)
    (ap (λ b. when b fault.Duplicate) parts.0)
    (both_pass (name_check (before ++ y ∷ []) x) (distinct_check ((before ++ y ∷ []) ++ x ∷ []) names)
    (ap (λ b. when b fault.Duplicate) new_x)
    (distinct_same ((before ++ x ∷ []) ++ y ∷ []) ((before ++ y ∷ []) ++ x ∷ []) names names (swapped_alike before x y) (same_refl names)
    (then_second (name_check (before ++ x ∷ []) y) rest after)))

-- the first name behind others
moved : (before : List (List ℕ)) (x : List ℕ) (front back : List (List ℕ)) → distinct_check before (x ∷ front ++ back) ≡ None
    → distinct_check before (front ++ x ∷ back) ≡ None
moved before x [] back e = e
moved before x (y ∷ front) back e =
    let h = swapped before x y (front ++ back) e in
    let rest = distinct_check (before ++ y ∷ []) (x ∷ front ++ back) in
    both_pass (name_check before y) (distinct_check (before ++ y ∷ []) (front ++ x ∷ back))
    (then_first (name_check before y) rest h) (moved (before ++ y ∷ []) x front back (then_second (name_check before y) rest h))

parted_distinct : (before : List (List ℕ)) (xs : List Own) → distinct_check before (map own_name xs) ≡ None
    → distinct_check before (parted xs) ≡ None
parted_distinct before [] e = refl
parted_distinct before (ALocal d ∷ xs) e =
    let rest = distinct_check (before ++ d.name ∷ []) (map own_name xs) in
    both_pass (name_check before d.name) (distinct_check (before ++ d.name ∷ []) (parted xs))
    (then_first (name_check before d.name) rest e)
    (parted_distinct (before ++ d.name ∷ []) xs (then_second (name_check before d.name) rest e))
parted_distinct before (AnExternal name t ∷ xs) e =
    let rest = distinct_check (before ++ name ∷ []) (map own_name xs) in
    moved before name (map declared_name (filter_map local_in xs)) (filter_map external_in xs)
    (both_pass (name_check before name) (distinct_check (before ++ name ∷ []) (parted xs))
    (then_first (name_check before name) rest e) (parted_distinct (before ++ name ∷ []) xs (then_second (name_check before name) rest e)))

parted_alike : (xs : List Own) → AreAlike (map own_name xs) (parted xs)
parted_alike [] = λ name. refl
parted_alike (ALocal d ∷ xs) = λ name. ap (λ b. same_word name d.name || b) (parted_alike xs name)
parted_alike (AnExternal n t ∷ xs) = λ name.
    let front : List (List ℕ) = map declared_name (filter_map local_in xs) in
    let back : List (List ℕ) = filter_map external_in xs in
    ap (λ b. same_word name n || b) (parted_alike xs name ∙ has_both front back name)
    ∙ first_two (same_word name n) (has front name) (has back name) ∙ sym (has_both front (n ∷ back) name)

-- ---- what passes of them

abbrev Passes : List Variable → Own → Type 0
Passes globals o = kind_check globals o ≡ None

pub locals_pass : (globals : List Variable) (xs : List Own) → All (Passes globals) xs
    → All (λ d. declared_check d ≡ None) (filter_map local_in xs)
locals_pass globals [] h = All-nil (λ d. declared_check d ≡ None)
locals_pass globals (ALocal d ∷ xs) h =
    All-cons (λ d. declared_check d ≡ None) d (filter_map local_in xs) (All-head (Passes globals) (ALocal d) xs h)
    (locals_pass globals xs (All-tail (Passes globals) (ALocal d) xs h))
locals_pass globals (AnExternal name t ∷ xs) h = locals_pass globals xs (All-tail (Passes globals) (AnExternal name t) xs h)

pub externals_pass : (globals : List Variable) (xs : List Own) → All (Passes globals) xs
    → All (IsNamedAgain globals) (map (global_id globals) (filter_map external_in xs))
externals_pass globals [] h = All-nil (IsNamedAgain globals)
externals_pass globals (ALocal d ∷ xs) h = externals_pass globals xs (All-tail (Passes globals) (ALocal d) xs h)
externals_pass globals (AnExternal name t ∷ xs) h =
    All-cons (IsNamedAgain globals) (global_id globals name) (map (global_id globals) (filter_map external_in xs))
    (external_back globals name t (All-head (Passes globals) (AnExternal name t) xs h))
    (externals_pass globals xs (All-tail (Passes globals) (AnExternal name t) xs h))

-- the name of a global by its number
abbrev pub global_name : List Variable → GlobalId → List ℕ
global_name globals id = name_at (names_of globals) id.0

externals_same : (globals : List Variable) (xs : List Own) → All (Passes globals) xs
    → AreSame (filter_map external_in xs) (map (global_name globals) (map (global_id globals) (filter_map external_in xs)))
externals_same globals [] h = tt
externals_same globals (ALocal d ∷ xs) h = externals_same globals xs (All-tail (Passes globals) (ALocal d) xs h)
externals_same globals (AnExternal name t ∷ xs) h = (
  same_at globals name t (variable_place globals name) refl (All-head (Passes globals) (AnExternal name t) xs h),
  externals_same globals xs (All-tail (Passes globals) (AnExternal name t) xs h),
)

-- ---- what the blocks say

abbrev own_again : List Variable → List Variable → List GlobalId → List Own
own_again globals locals externals = map ALocal (map declared_again locals) ++ map (external_again globals) externals

local_trees : (locals : List Variable)
    → own_in (block_tree (λ ds. block.Local ds) (map declaration_tree locals)) ≡ map ALocal (map declared_again locals)
local_trees [] = refl
local_trees (v ∷ vs) = append-nil _ ∙ ap (map ALocal) (declared_trees (v ∷ vs))

named_trees : (globals : List Variable) (externals : List GlobalId)
    → own_by (block.External (map (external_tree globals) externals)) ≡ map (external_again globals) externals
named_trees globals [] = refl
named_trees globals (id ∷ ids) = ap (λ os. external_again globals id ∷ os) (named_trees globals ids)

external_trees : (globals : List Variable) (externals : List GlobalId)
    → own_in (block_tree (λ es. block.External es) (map (external_tree globals) externals)) ≡ map (external_again globals) externals
external_trees globals [] = refl
external_trees globals (id ∷ ids) = append-nil _ ∙ named_trees globals (id ∷ ids)

own_trees : (globals locals : List Variable) (externals : List GlobalId)
    → own_in (variable_trees globals locals externals) ≡ own_again globals locals externals
own_trees globals locals externals =
    flat_map-append own_by (block_tree (λ ds. block.Local ds) (map declaration_tree locals))
    (block_tree (λ es. block.External es) (map (external_tree globals) externals))
    ∙ (λ i. local_trees locals i ++ external_trees globals externals i)

only_locals : (ds : List Declared) → filter_map local_in (map ALocal ds) ≡ ds
only_locals [] = refl
only_locals (d ∷ ds) = ap (λ es. d ∷ es) (only_locals ds)

no_locals : (globals : List Variable) (ids : List GlobalId) → filter_map local_in (map (external_again globals) ids) ≡ []
no_locals globals [] = refl
no_locals globals (id ∷ ids) = no_locals globals ids

no_externals : (ds : List Declared) → filter_map external_in (map ALocal ds) ≡ []
no_externals [] = refl
no_externals (d ∷ ds) = no_externals ds

only_externals : (globals : List Variable) (ids : List GlobalId)
    → filter_map external_in (map (external_again globals) ids) ≡ map (global_name globals) ids
only_externals globals [] = refl
only_externals globals (id ∷ ids) = ap (λ es. global_name globals id ∷ es) (only_externals globals ids)

locals_again : (globals locals : List Variable) (externals : List GlobalId)
    → filter_map local_in (own_again globals locals externals) ≡ map declared_again locals
locals_again globals locals externals =
    filter_map-append local_in (map ALocal (map declared_again locals)) (map (external_again globals) externals)
    ∙ (λ i. only_locals (map declared_again locals) i ++ no_locals globals externals i) ∙ append-nil (map declared_again locals)

externals_again : (globals locals : List Variable) (externals : List GlobalId)
    → filter_map external_in (own_again globals locals externals) ≡ map (global_name globals) externals
externals_again globals locals externals =
    filter_map-append external_in (map ALocal (map declared_again locals)) (map (external_again globals) externals)
    ∙ (λ i. no_externals (map declared_again locals) i ++ only_externals globals externals i)

-- ---- the whole

-- the blocks that are spelled of them
abbrev pub blocks_again : List Variable → List VariableBlock → List VariableBlock
blocks_again globals blocks = variable_trees globals (locals_of blocks) (externals_of globals blocks)

-- they pass, and declare the same, by names that are the same but for case
pub record AreDeclaredAgain (globals : List Variable) (blocks : List VariableBlock) : Type 0 where
  pub checks : variables_check globals (blocks_again globals blocks) ≡ None
  pub locals : locals_of (blocks_again globals blocks) ≡ locals_of blocks
  pub externals : externals_of globals (blocks_again globals blocks) ≡ externals_of globals blocks
  pub names : AreAlike (own_names blocks) (own_names (blocks_again globals blocks))

module _ (globals : List Variable) (blocks : List VariableBlock) where
  abbrev xs : List Own
  xs = own_in blocks

  abbrev ls : List Variable
  ls = locals_of blocks

  abbrev es : List GlobalId
  es = externals_of globals blocks

  abbrev spelled : List (List ℕ)
  spelled = map declared_name (filter_map local_in xs) ++ map (global_name globals) es

  names_spelled : map own_name (own_again globals ls es) ≡ spelled
  names_spelled =
      map-append own_name (map ALocal (map declared_again ls)) (map (external_again globals) es)
      ∙ (λ i. (map-map own_name ALocal (map declared_again ls) ∙ map-map declared_name declared_again ls
      ∙ map-map (λ v. v.name) variable_of (filter_map local_in xs)) i ++ map-map own_name (external_again globals) es i)

  same_spelled : All (Passes globals) xs → AreSame (parted xs) spelled
  same_spelled h =
      same_more (map declared_name (filter_map local_in xs)) (map declared_name (filter_map local_in xs)) (filter_map external_in xs)
      (map (global_name globals) es) (same_refl (map declared_name (filter_map local_in xs))) (externals_same globals xs h)

  all_pass : All IsDeclaredAgain ls → All (IsNamedAgain globals) es → All (Passes globals) (own_again globals ls es)
  all_pass h k =
      All-append (Passes globals) (map ALocal (map declared_again ls)) (map (external_again globals) es)
      (All-map (Passes globals) ALocal (map declared_again ls) (checked_again ls h))
      (All-map (Passes globals) (external_again globals) es
      (All-weaker (IsNamedAgain globals) (λ id. Passes globals (external_again globals id)) (λ id b. b.checks) es k))

  passes_again : distinct_check [] (map own_name xs) ≡ None → All (Passes globals) xs → All IsDeclaredAgain ls
      → All (IsNamedAgain globals) es
      → variables_check globals (blocks_again globals blocks) ≡ None
  unfolding variables_check
  passes_again e p h k =
      ap (in_turn own_name (own_check globals) []) (own_trees globals ls es)
      ∙ named_pass own_name (kind_check globals) [] (own_again globals ls es)
      (ap (distinct_check []) names_spelled
      ∙ distinct_same [] [] (parted xs) spelled (λ name. refl) (same_spelled p) (parted_distinct [] xs e))
      (all_pass h k)

  pub variables_back : variables_check globals blocks ≡ None → AreDeclaredAgain globals blocks
  unfolding variables_check
  variables_back e =
      let distinct = names_pass own_name (kind_check globals) [] xs e in
      let p = kinds_pass own_name (kind_check globals) [] xs e in
      let h = all_back (filter_map local_in xs) (locals_pass globals xs p) in
      let k = externals_pass globals xs p in
      record {
        checks = passes_again distinct p h k;
        locals = ap (λ os. map variable_of (filter_map local_in os)) (own_trees globals ls es)
            ∙ ap (map variable_of) (locals_again globals ls es) ∙ built_again ls h;
        externals = ap (λ os. map (global_id globals) (filter_map external_in os)) (own_trees globals ls es)
            ∙ ap (map (global_id globals)) (externals_again globals ls es)
            ∙ kept_again (global_name globals) (global_id globals) es
            (All-weaker (IsNamedAgain globals) (λ id. global_id globals (global_name globals id) ≡ id) (λ id b. b.built) es k);
        names = λ name. parted_alike xs name ∙ same_alike (parted xs) spelled (same_spelled p) name
            ∙ ap (λ names. has names name) (sym names_spelled ∙ ap (map own_name) (sym (own_trees globals ls es)));
      }
